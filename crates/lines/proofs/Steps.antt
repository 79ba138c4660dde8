-- Reading digits: one byte of a text that is lawful within a line.
use Rattle.std.proofs.Common.{◌≡◌, ℕ, zero, suc, ◌+◌, ◌-◌, ◌*◌, ◌^◌, ◌<◌, ◌≤◌, Bool, true, false, cond, eqb, List, [], ◌∷◌, length, get_or, take, drop, Ok, Err, Result, is_ok, sym, refl, ap, ◌∙◌, subst, inl, inr, add-one, arith, length-drop, take-append-drop, take_all, drop-cons}
use Rattle.std.specs.Int.{from_bool}
use Rattle.std.proofs.Math.Nat.{pow-le-pow_right, pow-succ'}
use Rattle.std.proofs.lemmas.List.{drop_all}
use Rattle.std.proofs.lemmas.Bool.Decides.{nat_tests}
use Rattle.std.proofs.lemmas.Bool.{false≢true}
use Rattle.lines.specs.Form.{digit}
use Rattle.lines.specs.Reading.{Start, Digits, moved, ends, at_start, lawful_from, signed, numbers, lines_of}
use Rattle.lines.specs.Form.{Lines}
use Rattle.fault.specs.declared.Fault.{Fault}
use Rattle.lines.specs.Checking.{Breaks, Checked}
use Rattle.std.proofs.lemmas.Bool.Decides.{eqb_tells}
use Rattle.lines.proofs.Bytes.{ended, longer, broken, turn, at_end, at_digit, digit_bounds, numbers_digit, minus, other, opening}
use Rattle.lines.proofs.Forms.{lines_read, from_start}

-- within the first line, behind digits whose number is n
pub record Within (xs : List ℕ) (i n : ℕ) : Type 0 where
  pub count : ℕ
  pub few : count ≤ 18
  pub small : n < 10 ^ count
  pub lawful : lawful_from (Digits count) (drop i xs) ≡ true
  pub same : (minus : Bool) → numbers minus n (drop i xs) ≡ numbers minus 0 xs

pub within_first : (xs : List ℕ) → lawful_from (Digits 0) xs ≡ true → Within xs 0 0
within_first xs h = record { count = 0; few = omega arith; small = omega arith; lawful = h; same = λ m. refl }

in_text : (xs : List ℕ) (i k : ℕ) → lawful_from (Digits k) (drop i xs) ≡ true → i < length xs
in_text [] zero k h = absurd (false≢true h)
in_text [] (suc i) k h = absurd (false≢true h)
in_text (x ∷ xs) zero k h = omega arith
in_text (x ∷ xs) (suc i) k h = let l = in_text xs i k h in omega (arith, l)

here : (xs : List ℕ) (i : ℕ) → i < length xs → drop i xs ≡ get_or xs i 0 ∷ drop (i + 1) xs
here xs i h = rw add-one (drop-cons xs i 0 h)

-- an end of line is lawful after a digit, and then a line may start
ends_line : (k : ℕ) (t : List ℕ) → lawful_from (Digits k) (10 ∷ t) ≡ true → lawful_from Start t ≡ true
ends_line k t h =
    elim (turn k 10) [
      | ended e j ↦ sym (ap (λ s. at_start (ends s t)) (at_end k j)) ∙ h
      | longer d j ↦ absurd (omega (arith, (digit_bounds 10 d).0))
      | broken e ↦ absurd (false≢true (ap (λ s. at_start (ends s t)) (sym e) ∙ h))
    ]

module _ (xs : List ℕ) (i n : ℕ) (w : Within xs i n) where
  pub in_line : i < length xs
  in_line = in_text xs i w.count w.lawful

  lawful_here : lawful_from (Digits w.count) (get_or xs i 0 ∷ drop (i + 1) xs) ≡ true
  lawful_here = ap (lawful_from (Digits w.count)) (sym (here xs i in_line)) ∙ w.lawful

  -- a byte that does not end the line is a digit
  digit_here : (get_or xs i 0 ≡ 10 → ⊥) → (digit (get_or xs i 0) ≡ true) × (w.count < 18)
  digit_here ne =
      elim (turn w.count (get_or xs i 0)) [
        | ended e k ↦ absurd (ne e)
        | longer d k ↦ (d, k)
        | broken e ↦ absurd (false≢true (ap (λ s. at_start (ends s (drop (i + 1) xs))) (sym e) ∙ lawful_here))
      ]

  pub bounds_here : (get_or xs i 0 ≡ 10 → ⊥) → (48 ≤ get_or xs i 0) × (get_or xs i 0 ≤ 57) × (n < 10 ^ 17)
  bounds_here ne =
      let d = digit_here ne in
      let b = digit_bounds (get_or xs i 0) d.0 in
      let s : n < 10 ^ w.count = w.small in
      let p : 10 ^ w.count ≤ 10 ^ 17 = pow-le-pow_right {n = 10} (omega arith) {i = w.count} {j = 17} (omega (arith, d.1)) in
      (b.0, b.1, omega (arith, s, p))

  pub within_next : (get_or xs i 0 ≡ 10 → ⊥) → Within xs (i + 1) (n * 10 + (get_or xs i 0 - 48))
  within_next ne =
      let d = digit_here ne in
      let b = digit_bounds (get_or xs i 0) d.0 in
      let s : n < 10 ^ w.count = w.small in
      let t : 10 ^ suc w.count ≡ 10 * 10 ^ w.count = pow-succ' 10 w.count in
      let e : n * 10 + (get_or xs i 0 - 48) ≡ 10 * n + (get_or xs i 0 - 48) = omega arith in
      record {
        count = suc w.count;
        few = d.1;
        small = omega (arith, s, t, b.0, b.1);
        lawful = sym (ap (λ o. at_start (ends o (drop (i + 1) xs))) (at_digit w.count (get_or xs i 0) d.0 d.1)) ∙ lawful_here;
        same = λ m. ap (λ k. numbers m k (drop (i + 1) xs)) e ∙ sym (numbers_digit m n (get_or xs i 0) (drop (i + 1) xs) d.0) ∙ ap (numbers m n) (sym (here xs i in_line)) ∙ w.same m;
      }

  -- the end of the line
  pub lawful_end : get_or xs i 0 ≡ 10 → lawful_from Start (drop (i + 1) xs) ≡ true
  lawful_end e = ends_line w.count (drop (i + 1) xs) (ap (λ b. lawful_from (Digits w.count) (b ∷ drop (i + 1) xs)) (sym e) ∙ lawful_here)

  pub numbers_end : get_or xs i 0 ≡ 10 → (minus : Bool) → numbers minus 0 xs ≡ signed minus n ∷ numbers false 0 (drop (i + 1) xs)
  numbers_end e m = sym (w.same m) ∙ ap (numbers m n) (here xs i in_line) ∙ ap (λ b. numbers m n (b ∷ drop (i + 1) xs)) e

  pub short_here : n < 1000000000000000000
  short_here = let s : n < 10 ^ w.count = w.small in let p : 10 ^ w.count ≤ 10 ^ 18 = pow-le-pow_right {n = 10} (omega arith) {i = w.count} {j = 18} w.few in omega (arith, s, p)

-- what the reading of digits keeps and answers
pub ruleset digit_steps = (within_first, in_line, bounds_here, within_next, lawful_end, numbers_end)

-- a slice from a place on holds all that follows
rest : (xs : List ℕ) (i : ℕ) → take (length xs - i) (drop i xs) ≡ drop i xs
rest xs i = take_all (length xs - i) (drop i xs) (omega (arith, length-drop i xs))

-- the first byte of a line: digits begin at it, or behind it if it is "-"
module _ (xs : List ℕ) (i b : ℕ) (low : i < length xs) (is : b ≡ get_or xs i 0) (law : lawful_from Start (drop i xs) ≡ true) where
  opens : drop i xs ≡ b ∷ drop (i + 1) xs
  opens = here xs i low ∙ ap (λ x. x ∷ drop (i + 1) xs) (sym is)

  law_here : lawful_from Start (b ∷ drop (i + 1) xs) ≡ true
  law_here = ap (lawful_from Start) (sym opens) ∙ law

  by : (m : Bool) → eqb b 45 ≡ m → lawful_from (Digits 0) (drop (i + from_bool m) xs) ≡ true
  by true e =
      let is_minus : b ≡ 45 = grind (arith, nat_tests) in
      sym (ap (λ x. at_start (ends (moved Start x) (drop (i + 1) xs))) is_minus) ∙ law_here
  by false e =
      let k : i ≡ i + 0 = omega arith in
      elim (opening b) [
        | minus p ↦ absurd (grind (arith, nat_tests))
        | other p ↦ ap (λ j. lawful_from (Digits 0) (drop j xs)) (sym k) ∙ ap (lawful_from (Digits 0)) opens ∙ ap (λ s. at_start (ends s (drop (i + 1) xs))) (sym p) ∙ law_here
      ]

  pub lawful_digits : (m : ℕ) → m ≡ from_bool (eqb b 45) → lawful_from (Digits 0) (take (length xs - (i + m)) (drop (i + m) xs)) ≡ true
  lawful_digits m e = ap (lawful_from (Digits 0)) (rest xs (i + m)) ∙ ap (λ k. lawful_from (Digits 0) (drop (i + k) xs)) e ∙ by (eqb b 45) refl

-- a text that breaks the form is not lawful
broken_unlawful : (xs : List ℕ) (p : ℕ) → Breaks xs p → lawful_from Start xs ≡ false
broken_unlawful xs p b = by (lawful_from Start xs) refl
  where
    lawful_not : lawful_from Start xs ≡ true → ⊥
    lawful_not l =
        let ls = from_start xs l in
        let inside : p ≤ length xs = b.inside in
        elim (eqb_tells p (length xs)) [
          | inl e ↦ b.whole e.1 (numbers false 0 xs) ls
          | inr e ↦ b.here (omega (arith, inside, e.1)) (drop (suc p) xs, numbers false 0 xs, subst (λ t. Lines t (numbers false 0 xs)) (sym (take-append-drop (suc p) xs)) ls)
        ]

    by : (r : Bool) → lawful_from Start xs ≡ r → lawful_from Start xs ≡ false
    by true e = absurd (lawful_not e)
    by false e = e

-- what the check answers tells whether a text is lawful
lawful_if : (xs : List ℕ) (r : Result ℕ Fault) → Checked xs r → lawful_from Start xs ≡ is_ok r
lawful_if xs (Ok n) h = (lines_read h.1).0
lawful_if xs (Err f) h = broken_unlawful xs f.place h.1

-- where a reader begins: at 0 in a lawful text, and else at the end
pub record Beginning (xs : List ℕ) (at : ℕ) : Type 0 where
  pub ok : (at ≤ length xs) × (lawful_from Start (drop at xs) ≡ true)
  pub lines : numbers false 0 (drop at xs) ≡ lines_of xs

pub beginning : (xs : List ℕ) (r : Result ℕ Fault) → Checked xs r → (b : Bool) → b ≡ is_ok r → (at : ℕ) → at ≡ cond b 0 (length xs) → Beginning xs at
unfolding lines_of
beginning xs r h b t at e = from b (lawful_if xs r h ∙ sym t) at e
  where
    from : (b : Bool) → lawful_from Start xs ≡ b → (at : ℕ) → at ≡ cond b 0 (length xs) → Beginning xs at
    from true l at e =
        record { ok = (omega (arith, e), ap (λ i. lawful_from Start (drop i xs)) e ∙ l); lines = ap (λ i. numbers false 0 (drop i xs)) e ∙ ap (λ b. cond b (numbers false 0 xs) []) (sym l) }
    from false l at e =
        let n : drop at xs ≡ [] = ap (λ i. drop i xs) e ∙ drop_all (length xs) xs (omega arith) in
        record { ok = (omega (arith, e), ap (lawful_from Start) n); lines = ap (numbers false 0) n ∙ ap (λ b. cond b (numbers false 0 xs) []) (sym l) }
