-- The form by rules and the form by bytes are one.
use Rattle.std.proofs.Common.{◌≡◌, ℕ, suc, ◌+◌, ◌-◌, ◌*◌, ◌<◌, ◌≤◌, Bool, true, false, cond, eqb, List, [], ◌∷◌, ◌++◌, length, ℤ, Some, None, Option, sym, refl, ap, ◌∙◌, subst, append_assoc, arith, length-append}
use Rattle.std.proofs.lemmas.Bool.{and_parts, and_from, false≢true}
use Rattle.std.proofs.lemmas.Bool.Decides.{nat_tests}
use Rattle.lines.specs.Form.{digit, all_digits, number_after, number_of, Numeral, Line, plain, negative, Lines, none, more}
use Rattle.lines.specs.Reading.{Stage, Start, Digits, after_digits, moved, ends, at_start, lawful_from, signed, numbers, FormHolds}
use Rattle.lines.proofs.Bytes.{Turn, ended, longer, broken, turn, at_end, at_digit, digit_bounds, numbers_digit, Opening, minus, other, opening}

-- digits and then an end lead to a line's start, with their number
through : (ds t : List ℕ) (k n : ℕ) (m : Bool) → all_digits ds ≡ true → 1 ≤ k + length ds → k + length ds ≤ 18 →
    (ends (Some (Digits k)) (ds ++ (10 ∷ t)) ≡ ends (Some Start) t) × (numbers m n (ds ++ (10 ∷ t)) ≡ signed m (number_after n ds) ∷ numbers false 0 t)
through [] t k n m d lo hi = (ap (λ s. ends s t) (at_end k (omega arith)), refl)
through (b ∷ ds) t k n m d lo hi =
    let p = and_parts (digit b) (all_digits ds) d in
    let i = through ds t (suc k) (10 * n + (b - 48)) m p.1 (omega arith) (omega arith) in
    (ap (λ s. ends s (ds ++ (10 ∷ t))) (at_digit k b p.0 (omega arith)) ∙ i.0, numbers_digit m n b (ds ++ (10 ∷ t)) p.0 ∙ i.1)

-- at a line's start a digit leads where it leads after no digits
start_digit : (b : ℕ) → digit b ≡ true → moved Start b ≡ after_digits 0 b
start_digit b d =
    let i = digit_bounds b d in
    let e : eqb b 45 ≡ false = grind (arith, nat_tests) in
    ap (λ c. cond c (Some (Digits 0)) (after_digits 0 b)) e

start_digits : (ds t : List ℕ) → all_digits ds ≡ true → 1 ≤ length ds → ends (Some Start) (ds ++ t) ≡ ends (Some (Digits 0)) (ds ++ t)
start_digits [] t d h = absurd (omega arith)
start_digits (b ∷ ds) t d h = ap (λ s. ends s (ds ++ t)) (start_digit b (and_parts (digit b) (all_digits ds) d).0)

line_read : {l : List ℕ} {z : ℤ} (t : List ℕ) → Line l z →
    (ends (Some Start) (l ++ t) ≡ ends (Some Start) t) × (numbers false 0 (l ++ t) ≡ z ∷ numbers false 0 t)
line_read t (plain ds n) =
    let i = through ds t 0 0 false n.digits (omega (arith, n.some)) (omega (arith, n.few)) in
    let e = append_assoc ds (10 ∷ []) t in
    (ap (ends (Some Start)) e ∙ start_digits ds (10 ∷ t) n.digits n.some ∙ i.0, ap (numbers false 0) e ∙ i.1)
line_read t (negative ds n) =
    let i = through ds t 0 0 true n.digits (omega (arith, n.some)) (omega (arith, n.few)) in
    let e = append_assoc ds (10 ∷ []) t in
    (ap (ends (Some (Digits 0))) e ∙ i.0, ap (numbers true 0) e ∙ i.1)

pub lines_read : {t : List ℕ} {zs : List ℤ} → Lines t zs → (lawful_from Start t ≡ true) × (numbers false 0 t ≡ zs)
lines_read none = (refl, refl)
lines_read (more {t = t} {z = z} l ls) =
    let i = line_read t l in
    let j = lines_read ls in
    (ap at_start i.0 ∙ j.0, i.1 ∙ ap (λ r. z ∷ r) j.1)

-- one digit more
digits_push : (ds : List ℕ) (b : ℕ) → all_digits ds ≡ true → digit b ≡ true → all_digits (ds ++ (b ∷ [])) ≡ true
digits_push [] b d e = and_from (digit b) true e refl
digits_push (c ∷ ds) b d e =
    let p = and_parts (digit c) (all_digits ds) d in and_from (digit c) (all_digits (ds ++ (b ∷ []))) p.0 (digits_push ds b p.1 e)

number_push : (n : ℕ) (ds : List ℕ) (b : ℕ) → number_after n (ds ++ (b ∷ [])) ≡ 10 * number_after n ds + (b - 48)
number_push n [] b = refl
number_push n (c ∷ ds) b = number_push (10 * n + (c - 48)) ds b

lead : Bool → List ℕ
lead true = 45 ∷ []
lead false = []

line_of : (m : Bool) (ds : List ℕ) → Numeral ds → Line (lead m ++ (ds ++ (10 ∷ []))) (signed m (number_of ds))
unfolding lead
line_of true ds n = negative ds n
line_of false ds n = plain ds n

-- a line that ends, before the lines that follow
end_line : (m : Bool) (ds t : List ℕ) (b : ℕ) → Numeral ds → b ≡ 10 → Lines t (numbers false 0 t) → Lines (lead m ++ (ds ++ (b ∷ t))) (numbers m (number_of ds) (b ∷ t))
end_line m ds t b n e ls =
    let shape : (lead m ++ (ds ++ (10 ∷ []))) ++ t ≡ lead m ++ (ds ++ (10 ∷ t)) = append_assoc (lead m) (ds ++ (10 ∷ [])) t ∙ ap (λ r. lead m ++ r) (append_assoc ds (10 ∷ []) t) in
    let at_10 : Lines (lead m ++ (ds ++ (10 ∷ t))) (signed m (number_of ds) ∷ numbers false 0 t) = subst (λ l. Lines l (signed m (number_of ds) ∷ numbers false 0 t)) shape (more (line_of m ds n) ls) in
    subst (λ c. Lines (lead m ++ (ds ++ (c ∷ t))) (numbers m (number_of ds) (c ∷ t))) (sym e) at_10

-- a digit that belongs to the line
more_digit : (m : Bool) (ds t : List ℕ) (b : ℕ) → digit b ≡ true → Lines (lead m ++ ((ds ++ (b ∷ [])) ++ t)) (numbers m (number_of (ds ++ (b ∷ []))) t) →
    Lines (lead m ++ (ds ++ (b ∷ t))) (numbers m (number_of ds) (b ∷ t))
more_digit m ds t b d ls =
    let shape : lead m ++ ((ds ++ (b ∷ [])) ++ t) ≡ lead m ++ (ds ++ (b ∷ t)) = ap (λ r. lead m ++ r) (append_assoc ds (b ∷ []) t) in
    let value : numbers m (number_of (ds ++ (b ∷ []))) t ≡ numbers m (number_of ds) (b ∷ t) = ap (λ n. numbers m n t) (number_push 0 ds b) ∙ sym (numbers_digit m (number_of ds) b t d) in
    subst (λ l. Lines l (numbers m (number_of ds) (b ∷ t))) shape (subst (λ zs. Lines (lead m ++ ((ds ++ (b ∷ [])) ++ t)) zs) value ls)

length_push : (ds : List ℕ) (b : ℕ) → length (ds ++ (b ∷ [])) ≡ suc (length ds)
length_push ds b = length-append ds (b ∷ []) ∙ omega arith

-- what is lawful after a byte, from what is lawful before it
after_end : (k b : ℕ) (t : List ℕ) → b ≡ 10 → 1 ≤ k → lawful_from (Digits k) (b ∷ t) ≡ true → lawful_from Start t ≡ true
after_end k b t e h l = sym (ap (λ s. at_start (ends s t)) (ap (after_digits k) e ∙ at_end k h)) ∙ l

after_digit : (ds : List ℕ) (b : ℕ) (t : List ℕ) → digit b ≡ true → length ds < 18 → lawful_from (Digits (length ds)) (b ∷ t) ≡ true → lawful_from (Digits (length (ds ++ (b ∷ [])))) t ≡ true
after_digit ds b t d h l =
    ap (λ k. lawful_from (Digits k) t) (length_push ds b) ∙ sym (ap (λ s. at_start (ends s t)) (at_digit (length ds) b d h)) ∙ l

none_lawful : (o : Option Stage) (t : List ℕ) → o ≡ None → at_start (ends o t) ≡ true → ⊥
none_lawful o t e h = false≢true (ap (λ s. at_start (ends s t)) (sym e) ∙ h)

lead_minus : (t : List ℕ) (b : ℕ) → b ≡ 45 → Lines (lead true ++ ([] ++ t)) (numbers true 0 t) → Lines (b ∷ t) (numbers false 0 (b ∷ t))
unfolding lead
lead_minus t b e ls = subst (λ c. Lines (c ∷ t) (numbers false 0 (c ∷ t))) (sym e) ls

minus_lawful : (t : List ℕ) (b : ℕ) → b ≡ 45 → lawful_from Start (b ∷ t) ≡ true → lawful_from (Digits 0) t ≡ true
minus_lawful t b e h = sym (ap (λ c. at_start (ends (moved Start c) t)) e) ∙ h

plain_lead : (t : List ℕ) (zs : List ℤ) → Lines (lead false ++ ([] ++ t)) zs → Lines t zs
unfolding lead
plain_lead t zs ls = ls

-- what is to be shown of a text: that it is made of lines, from a line's start and from within a line
pub record Made (t : List ℕ) : Type 0 where
  start : lawful_from Start t ≡ true → Lines t (numbers false 0 t)
  inside : (ds : List ℕ) (m : Bool) → all_digits ds ≡ true → length ds ≤ 18 → lawful_from (Digits (length ds)) t ≡ true →
      Lines (lead m ++ (ds ++ t)) (numbers m (number_of ds) t)

by_turn : (b : ℕ) (t : List ℕ) → Made t → (ds : List ℕ) (m : Bool) → all_digits ds ≡ true → length ds ≤ 18 → Turn (length ds) b → lawful_from (Digits (length ds)) (b ∷ t) ≡ true →
    Lines (lead m ++ (ds ++ (b ∷ t))) (numbers m (number_of ds) (b ∷ t))
by_turn b t i ds m d f (ended e k) h = end_line m ds t b (record { digits = d; some = k; few = f }) e (i.start (after_end (length ds) b t e k h))
by_turn b t i ds m d f (longer e k) h =
    more_digit m ds t b e (i.inside (ds ++ (b ∷ [])) m (digits_push ds b d e) (omega (arith, length_push ds b)) (after_digit ds b t e k h))
by_turn b t i ds m d f (broken e) h = absurd (none_lawful (after_digits (length ds) b) t e h)

by_opening : (b : ℕ) (t : List ℕ) → Made t → Opening b → lawful_from Start (b ∷ t) ≡ true → Lines (b ∷ t) (numbers false 0 (b ∷ t))
by_opening b t i (minus e) h = lead_minus t b e (i.inside [] true refl (omega arith) (minus_lawful t b e h))
by_opening b t i (other e) h =
    plain_lead (b ∷ t) (numbers false 0 (b ∷ t)) (by_turn b t i [] false refl (omega arith) (turn 0 b) (ap (λ s. at_start (ends s t)) (sym e) ∙ h))

made : (t : List ℕ) → Made t
made [] = record { start = λ h. none; inside = λ ds m d f h. absurd (false≢true h) }
made (b ∷ t) = let i = made t in record { start = by_opening b t i (opening b); inside = λ ds m d f h. by_turn b t i ds m d f (turn (length ds) b) h }

pub from_start : (t : List ℕ) → lawful_from Start t ≡ true → Lines t (numbers false 0 t)
from_start t h = (made t).start h

pub form_holds_lem : FormHolds
form_holds_lem text zs = (lines_read, (λ p. subst (Lines text) p.1 (from_start text p.0)))
