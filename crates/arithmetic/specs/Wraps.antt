-- The wrapped word: the low 32 bits of a number of 64 are its wrap, and it keeps the laws.
use Rattle.std.specs.Prelude.{◌≡◌, ℕ, zero, suc, ◌+◌, ◌-◌, ◌%◌, ◌^◌, ◌<◌, ℤ, pos, negsuc, ◌+ℤ◌, ◌-ℤ◌, ◌*ℤ◌, ◌≤ℤ◌, FitsSigned, ◌≢◌, int_div, unsigned_abs, refl}
use Rattle.std.proofs.Common.{ap, ◌∙◌, sym, arith, div-le_self, to_z, of_z}
use Rattle.std.specs.Int.{int_rem_euclid, int_wrap, w32, w64}
use Rattle.std.proofs.lemmas.Int.{ints, of_z-to_z, int_rem_euclid_is, int_wrap_fits, SFits-int_wrap, int_wrap-add_left, int_wrap-add_same, int_wrap-mul_right}
use Rattle.arithmetic.specs.Words.{Lawful, less}
use Rattle.arithmetic.specs.Wrapping.{wrapping}

pub low_bits : (n : ℤ) → FitsSigned w64 n → to_z w32 (of_z w64 n % 2 ^ 32) ≡ int_wrap w32 n
unfolding int_wrap
low_bits (pos a) f =
    ap (λ r. to_z w32 (unsigned_abs r)) (sym (int_rem_euclid_is (pos a) (pos (2 ^ 32)) (2 ^ 32) 0 a (omega arith) refl (omega (arith, ints))))
low_bits (negsuc a) f =
    ap (λ r. to_z w32 (unsigned_abs r)) (sym (int_rem_euclid_is (negsuc a) (pos (2 ^ 32)) (2 ^ 32) (2 ^ 32) (2 ^ 64 - suc a) (omega arith) refl (omega (arith, ints))))

-- a quotient is no larger than what is divided
pub quot_fits : (a b : ℤ) → FitsSigned w32 a → FitsSigned w64 (int_div a b)
quot_fits (pos a) (pos b) f = omega (arith, ints, div-le_self a b)
quot_fits (pos a) (negsuc b) f = omega (arith, ints, div-le_self a (suc b))
quot_fits (negsuc a) (pos b) f = omega (arith, ints, div-le_self (suc a) b)
quot_fits (negsuc a) (negsuc b) f = omega (arith, ints, div-le_self (suc a) (suc b))

-- to take 1 again and again is to take the whole count
less_wrapped : (k : ℕ) (m : ℤ) → less wrapping k (int_wrap w32 m) ≡ int_wrap w32 (m -ℤ pos k)
less_wrapped zero m = ap (int_wrap w32) (omega (arith, ints))
less_wrapped (suc k) m =
    let e : (int_wrap w32 m -ℤ pos 1) -ℤ pos k ≡ int_wrap w32 m +ℤ negsuc k = omega (arith, ints) in
    let f : m +ℤ negsuc k ≡ m -ℤ pos (suc k) = omega (arith, ints) in
    less_wrapped k (int_wrap w32 m -ℤ pos 1) ∙ ap (int_wrap w32) e ∙ int_wrap-add_left w32 m (negsuc k) ∙ ap (int_wrap w32) f

-- so little below 2 ^ 32 is no 0, signed or not
nonzero : (a : ℕ) → a < 2147483648 + 63 → to_z w32 ((2 ^ 32 - suc a) % 2 ^ 32) ≢ pos 0
nonzero a h e =
    let m : ℕ = (2 ^ 32 - suc a) % 2 ^ 32 in
    let z : m ≡ 0 = sym (of_z-to_z w32 m (omega arith)) ∙ ap (of_z w32) e in
    omega (arith, z)

-- of the numbers that one subtraction can reach, only 0 wraps to 0
only_zero : (z : ℤ) → negsuc (2147483647 + 63) ≤ℤ z → z ≤ℤ pos 2147483647 → int_wrap w32 z ≡ pos 0 → z ≡ pos 0
unfolding int_wrap
only_zero (pos a) lo hi e = let f : FitsSigned w32 (pos a) = omega (arith, ints) in sym (int_wrap_fits w32 (pos a) f) ∙ e
only_zero (negsuc a) lo hi e =
    let h : a < 2147483648 + 63 = omega (arith, ints, lo) in
    let m : ℕ = (2 ^ 32 - suc a) % 2 ^ 32 in
    let r : int_rem_euclid (negsuc a) (pos (2 ^ 32)) ≡ pos m = int_rem_euclid_is (negsuc a) (pos (2 ^ 32)) (2 ^ 32) 1 (2 ^ 32 - suc a) (omega arith) refl (omega (arith, ints)) in
    let t : to_z w32 m ≡ pos 0 = ap (λ z. to_z w32 (unsigned_abs z)) (sym r) ∙ e in
    absurd (nonzero a h t)

pub wrapping_lawful : Lawful wrapping
wrapping_lawful = record {
  low = (omega (arith, ints), omega (arith, ints));
  high = (omega (arith, ints), omega (arith, ints));
  within = λ n. let f = SFits-int_wrap w32 n in let m = int_wrap w32 n in (omega (arith, ints), omega (arith, ints));
  same = λ n h. let f : FitsSigned w32 n = omega (arith, ints, h.0, h.1) in int_wrap_fits w32 n f;
  digit = λ n d h. int_wrap-add_same w32 (pos 10 *ℤ int_wrap w32 (pos n)) (pos 10 *ℤ pos n) (pos d) (int_wrap-mul_right w32 (pos 10) (pos n));
  counts = λ k h n w.
      let f : FitsSigned w32 n = omega (arith, ints, w.0, w.1) in
      let e : less wrapping k n ≡ int_wrap w32 (n -ℤ pos k) = ap (less wrapping k) (sym (int_wrap_fits w32 n f)) ∙ less_wrapped k n in (
        (λ z. let d = only_zero (n -ℤ pos k) (omega (arith, ints, w.0)) (omega (arith, ints, w.1)) (sym e ∙ z) in omega (arith, ints, d)),
        (λ z. let d : n -ℤ pos k ≡ pos 0 = omega (arith, ints, z) in let o : FitsSigned w32 (pos 0) = omega (arith, ints) in e ∙ ap (int_wrap w32) d ∙ int_wrap_fits w32 (pos 0) o),
      );
}
