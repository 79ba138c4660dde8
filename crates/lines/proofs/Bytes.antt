-- One byte of a text: what each kind of byte leads to.
use Rattle.std.proofs.Common.{◌≡◌, ℕ, suc, ◌+◌, ◌-◌, ◌*◌, ◌<◌, ◌≤◌, Bool, true, false, cond, eqb, ltb, List, ◌∷◌, Some, None, sym, refl, ap, ◌∙◌, arith}
use Rattle.std.proofs.lemmas.Bool.Decides.{nat_tests}
use Rattle.lines.specs.Form.{digit}
use Rattle.lines.specs.Reading.{Start, Digits, after_digits, moved, signed, numbers}

-- a byte after some digits: it ends the line, or is a digit more, or breaks the form
pub data Turn (k b : ℕ) : Type 0 where
  ended : b ≡ 10 → 1 ≤ k → Turn k b
  longer : digit b ≡ true → k < 18 → Turn k b
  broken : after_digits k b ≡ None → Turn k b

pub digit_bounds : (b : ℕ) → digit b ≡ true → (48 ≤ b) × (b ≤ 57)
digit_bounds b h = (grind (arith, nat_tests), grind (arith, nat_tests))

pub at_end : (k : ℕ) → 1 ≤ k → after_digits k 10 ≡ Some Start
at_end k h = let z : eqb k 0 ≡ false = grind (arith, nat_tests) in ap (λ c. cond c None (Some Start)) z

pub at_digit : (k b : ℕ) → digit b ≡ true → k < 18 → after_digits k b ≡ Some (Digits (suc k))
at_digit k b d h =
    let i = digit_bounds b d in
    let e : eqb b 10 ≡ false = grind (arith, nat_tests) in
    let s : ltb k 18 ≡ true = grind (arith, nat_tests) in
    ap (λ c. cond c (cond (eqb k 0) None (Some Start)) (cond (digit b) (cond (ltb k 18) (Some (Digits (suc k))) None) None)) e ∙
    ap (λ c. cond c (cond (ltb k 18) (Some (Digits (suc k))) None) None) d ∙ ap (λ c. cond c (Some (Digits (suc k))) None) s

turn_of : (k b : ℕ) (e z d s : Bool) → eqb b 10 ≡ e → eqb k 0 ≡ z → digit b ≡ d → ltb k 18 ≡ s →
    cond e (cond z None (Some Start)) (cond d (cond s (Some (Digits (suc k))) None) None) ≡ after_digits k b → Turn k b
turn_of k b true true d s p q r t w = broken (sym w)
turn_of k b true false d s p q r t w = ended (grind (arith, nat_tests)) (grind (arith, nat_tests))
turn_of k b false z true true p q r t w = longer r (grind (arith, nat_tests))
turn_of k b false z true false p q r t w = broken (sym w)
turn_of k b false z false s p q r t w = broken (sym w)

pub turn : (k b : ℕ) → Turn k b
turn k b = turn_of k b (eqb b 10) (eqb k 0) (digit b) (ltb k 18) refl refl refl refl refl

-- the numbers that follow an end and a digit
pub numbers_digit : (minus : Bool) (n b : ℕ) (bs : List ℕ) → digit b ≡ true → numbers minus n (b ∷ bs) ≡ numbers minus (10 * n + (b - 48)) bs
numbers_digit minus n b bs d =
    let i = digit_bounds b d in
    let e : eqb b 10 ≡ false = grind (arith, nat_tests) in
    let m : eqb b 45 ≡ false = grind (arith, nat_tests) in
    ap (λ c. cond c (signed minus n ∷ numbers false 0 bs) (cond (eqb b 45) (numbers true 0 bs) (numbers minus (10 * n + (b - 48)) bs))) e ∙
    ap (λ c. cond c (numbers true 0 bs) (numbers minus (10 * n + (b - 48)) bs)) m

-- a byte at a line's start: "-", or as after no digits
pub data Opening (b : ℕ) : Type 0 where
  minus : b ≡ 45 → Opening b
  other : moved Start b ≡ after_digits 0 b → Opening b

opening_of : (b : ℕ) (m : Bool) → eqb b 45 ≡ m → cond m (Some (Digits 0)) (after_digits 0 b) ≡ moved Start b → Opening b
opening_of b true p w = minus (grind (arith, nat_tests))
opening_of b false p w = other (sym w)

pub opening : (b : ℕ) → Opening b
opening b = opening_of b (eqb b 45) refl refl
