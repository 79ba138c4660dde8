-- The numbers of a lawful text have at most 18 digits.
use Rattle.std.proofs.Common.{◌≡◌, ℕ, zero, suc, ◌+◌, ◌-◌, ◌*◌, ◌^◌, ◌<◌, ◌≤◌, true, false, ltb, List, [], ◌∷◌, length, ℤ, pos, neg_ℤ, nat_abs, refl, ap, ◌∙◌, subst, arith}
use Rattle.std.proofs.Math.Nat.{pow-le-pow_right, pow-succ'}
use Rattle.std.proofs.lemmas.Bool.{and_parts}
use Rattle.std.proofs.lemmas.Bool.Decides.{nat_tests}
use Rattle.lines.specs.Form.{digit, all_digits, number_after, number_of, Numeral, Line, plain, negative, Lines, none, more}
use Rattle.lines.specs.Reading.{Start, lawful_from, numbers}
use Rattle.lines.proofs.Bytes.{digit_bounds}
use Rattle.lines.proofs.Forms.{from_start}

-- digits behind a number of j digits make one of so many digits more
bounded : (ds : List ℕ) (n j k : ℕ) → all_digits ds ≡ true → n < 10 ^ j → k ≡ length ds + j → number_after n ds < 10 ^ k
bounded [] n j k d h e = let z : j ≡ k = omega (arith, e) in subst (λ i. n < 10 ^ i) z h
bounded (b ∷ ds) n j k d h e =
    let p = and_parts (digit b) (all_digits ds) d in
    let i = digit_bounds b p.0 in
    let l : n < 10 ^ j = h in
    let t : 10 ^ suc j ≡ 10 * 10 ^ j = pow-succ' 10 j in
    bounded ds (10 * n + (b - 48)) (suc j) k p.1 (omega (arith, l, t, i.0, i.1)) (omega (arith, e))

numeral_below : (ds : List ℕ) → Numeral ds → number_of ds < 1000000000000000000
numeral_below ds n =
    let b = bounded ds 0 0 (length ds) n.digits (omega arith) (omega arith) in
    let g : 10 ^ length ds ≤ 10 ^ 18 = pow-le-pow_right {n = 10} (omega arith) {i = length ds} {j = 18} n.few in
    omega (arith, b, g)

abs_neg : (n : ℕ) → nat_abs (neg_ℤ (pos n)) ≡ n
abs_neg zero = refl
abs_neg (suc n) = refl

line_below : {l : List ℕ} {z : ℤ} → Line l z → ltb (nat_abs z) 1000000000000000000 ≡ true
line_below (plain ds n) = let b = numeral_below ds n in grind (arith, nat_tests)
line_below (negative ds n) = let b = numeral_below ds n in ap (λ k. ltb k 1000000000000000000) (abs_neg (number_of ds)) ∙ grind (arith, nat_tests)

-- what holds of each number of at most 18 digits holds of the numbers of a lawful text
module _ (P : List ℤ → Type 0) (nil : P []) (cons : (z : ℤ) (zs : List ℤ) → ltb (nat_abs z) 1000000000000000000 ≡ true → P zs → P (z ∷ zs)) where
  each : {t : List ℕ} {zs : List ℤ} → Lines t zs → P zs
  each none = nil
  each (more {z = z} {zs = zs} l ls) = cons z zs (line_below l) (each ls)

  pub numbers_short : (t : List ℕ) → lawful_from Start t ≡ true → P (numbers false 0 t)
  numbers_short t h = each (from_start t h)
