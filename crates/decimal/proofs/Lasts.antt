-- How many digits a number has, and that its last digits, as many as it has, are all of them.
use Rattle.std.proofs.Common.{◌≡◌, ℕ, zero, suc, ◌+◌, ◌*◌, ◌/◌, ◌%◌, ◌^◌, ◌<◌, ◌≤◌, [], ◌∷◌, ◌++◌, length, sym, ap, ◌∙◌, inl, inr, arith, length-append}
use Rattle.std.proofs.Math.Nat.{one-le-pow, pow-succ'}
use Rattle.std.proofs.lemmas.Fmt.{decimal_digit, decimal_step, decimal_nonempty}
use Rattle.std.proofs.lemmas.Bool.Decides.{leb_tells}
use Rattle.decimal.specs.Digits.{decimal, last_digits}

pub one_digit : (n : ℕ) → n < 10 → length (decimal n) ≡ 1
one_digit n h = ap length (decimal_digit n h)

pub more_digits : (n : ℕ) → 10 ≤ n → n < 2 ^ 64 → length (decimal n) ≡ suc (length (decimal (n / 10)))
more_digits n h f = ap length (decimal_step n h f) ∙ length-append (decimal (n / 10)) ((48 + n % 10) ∷ []) ∙ omega arith

-- a number from 10 ^ k on and below ten times that has k + 1 digits: so a logarithm tells how many it has
pub digits_between : (k n : ℕ) → 10 ^ k ≤ n → n < 10 * 10 ^ k → n < 2 ^ 64 → length (decimal n) ≡ suc k
digits_between zero n lo hi f = one_digit n (omega arith)
digits_between (suc k) n lo hi f =
    let e = pow-succ' 10 k in
    let p = one-le-pow k 10 (omega arith) in
    more_digits n (omega (arith, e, p, lo)) f ∙ ap suc (digits_between k (n / 10) (omega (arith, e, lo)) (omega (arith, e, hi)) (omega arith))

pub all_digits : (k n : ℕ) → n < 2 ^ 64 → length (decimal n) ≡ suc k → last_digits (suc k) n ≡ decimal n
unfolding last_digits
all_digits zero n f e =
    elim (leb_tells 10 n) [
      | inl p ↦ let m = more_digits n p.1 f in let s = decimal_nonempty (n / 10) (omega arith) in absurd (omega (arith, e, m, s))
      | inr p ↦ ap (λ d. (48 + d) ∷ []) (omega (arith, p.1)) ∙ sym (decimal_digit n p.1)
    ]
all_digits (suc k) n f e =
    elim (leb_tells 10 n) [
      | inl p ↦
          let m = more_digits n p.1 f in
          let i : last_digits (suc k) (n / 10) ≡ decimal (n / 10) = all_digits k (n / 10) (omega arith) (omega (arith, e, m)) in
          ap (λ ds. ds ++ ((48 + n % 10) ∷ [])) i ∙ sym (decimal_step n p.1 f)
      | inr p ↦ let o = one_digit n p.1 in absurd (omega (arith, e, o))
    ]
