-- The check of a text: its loop, and what it answers.
use Rattle.std.proofs.Common.{◌≡◌, ℕ, suc, ◌+◌, ◌-◌, ◌*◌, ◌<◌, ◌≤◌, Bool, true, false, cond, eqb, List, [], ◌∷◌, ◌++◌, length, get_or, take, count_by, ℤ, Some, None, Option, sym, refl, ap, ◌∙◌, add-one, arith, take_all, take-suc}
use Rattle.std.proofs.lemmas.Bool.{false≢true}
use Rattle.std.proofs.lemmas.Bool.Decides.{nat_tests}
use Rattle.std.proofs.lemmas.List.Sums.{count_by_more_no, count_by_more_yes, sum_by-cons}
use Rattle.lines.specs.Form.{Lines}
use Rattle.lines.specs.Reading.{Stage, Start, Digits, moved, ends, at_start, signed, numbers}
use Rattle.lines.specs.Checking.{Breaks}
use Rattle.lines.proofs.Forms.{lines_read, from_start}
use Rattle.lines.proofs.Prefixes.{ends_append, begins, never_begins}

-- a byte that ends a line
abbrev is_end : ℕ → Bool
is_end b = eqb b 10

-- how many lines end in a text
pub ended_in : List ℕ → ℕ
ended_in bs = count_by is_end bs

counted_if : (e f : Bool) (z : ℤ) (xs ys zs : List ℤ) (n : ℕ) → length xs ≡ n → length ys ≡ n → length zs ≡ n → length (cond e (z ∷ xs) (cond f ys zs)) ≡ cond e 1 0 + n
counted_if true f z xs ys zs n p q r = omega (arith, p)
counted_if false true z xs ys zs n p q r = omega (arith, q)
counted_if false false z xs ys zs n p q r = omega (arith, r)

counted : (m : Bool) (n : ℕ) (bs : List ℕ) → length (numbers m n bs) ≡ count_by is_end bs
counted m n [] = refl
counted m n (b ∷ bs) =
    counted_if (eqb b 10) (eqb b 45) (signed m n) (numbers false 0 bs) (numbers true 0 bs) (numbers m (10 * n + (b - 48)) bs) (count_by is_end bs)
    (counted false 0 bs) (counted true 0 bs) (counted m (10 * n + (b - 48)) bs) ∙
    sym (sum_by-cons (λ x. cond (is_end x) 1 0) b bs)

-- the first i bytes lead to a stage, and n of them end a line
pub record Read (xs : List ℕ) (i : ℕ) (s : Stage) (n : ℕ) : Type 0 where
  pub leads : ends (Some Start) (take i xs) ≡ Some s
  pub ended : ended_in (take i xs) ≡ n
  pub few : n ≤ i

pub none_read : (xs : List ℕ) → Read xs 0 Start 0
unfolding ended_in
none_read xs = record { leads = refl; ended = refl; few = omega arith }

next_front : (xs : List ℕ) (i : ℕ) → i < length xs → take (i + 1) xs ≡ take i xs ++ (get_or xs i 0 ∷ [])
next_front xs i low = rw add-one (take-suc xs i 0 low)

-- one byte more
module _ (xs : List ℕ) (i n : ℕ) (s : Stage) (r : Read xs i s n) (low : i < length xs) where
  leads_on : (o : Option Stage) → o ≡ moved s (get_or xs i 0) → ends (Some Start) (take (i + 1) xs) ≡ o
  leads_on o p =
      ap (ends (Some Start)) (next_front xs i low) ∙ ends_append (Some Start) (take i xs) (get_or xs i 0 ∷ []) ∙ ap (λ t. ends t (get_or xs i 0 ∷ [])) r.leads ∙ last (moved s (get_or xs i 0)) ∙ sym p
    where
      last : (o : Option Stage) → ends o [] ≡ o
      last None = refl
      last (Some t) = refl

  pub read_end : (t : Stage) (m : ℕ) → Some t ≡ moved s (get_or xs i 0) → get_or xs i 0 ≡ 10 → m ≡ n + 1 → Read xs (i + 1) t m
  unfolding ended_in
  read_end t m p e c =
      let f = r.few in
      let y : is_end (get_or xs i 0) ≡ true = grind (arith, nat_tests) in
      record { leads = leads_on (Some t) p; ended = count_by_more_yes is_end xs i 0 low y ∙ ap (λ k. k + 1) r.ended ∙ sym c; few = omega (arith, f, c) }

  pub read_within : (t : Stage) (m : ℕ) → Some t ≡ moved s (get_or xs i 0) → (get_or xs i 0 ≡ 10 → ⊥) → m ≡ n → Read xs (i + 1) t m
  unfolding ended_in
  read_within t m p ne c =
      let f = r.few in
      let y : is_end (get_or xs i 0) ≡ false = grind (arith, nat_tests) in
      record { leads = leads_on (Some t) p; ended = count_by_more_no is_end xs i 0 low y ∙ r.ended ∙ sym c; few = omega (arith, f, c) }

  -- a byte at which no lawful text goes on
  pub breaks_here : None ≡ moved s (get_or xs i 0) → Breaks xs i
  breaks_here p =
      record {
        inside = omega arith;
        before = begins (take i xs) s r.leads;
        here = λ h b. never_begins (take (suc i) xs) (ap (λ k. ends (Some Start) (take k xs)) (sym (add-one i)) ∙ leads_on None p) b;
        whole = λ h zs ls. absurd (omega (arith, h, low));
      }

-- all bytes are read
module _ (xs : List ℕ) (i n : ℕ) (all : length xs ≤ i) where
  leads_all : (s : Stage) → Read xs i s n → ends (Some Start) xs ≡ Some s
  leads_all s r = ap (ends (Some Start)) (sym (take_all i xs all)) ∙ r.leads

  -- and the text breaks off within a line
  pub breaks_off : (k : ℕ) → Read xs i (Digits k) n → Breaks xs (length xs)
  breaks_off k r =
      let e = leads_all (Digits k) r in
      record {
        inside = omega arith;
        before = begins (take (length xs) xs) (Digits k) (ap (ends (Some Start)) (take_all (length xs) xs (omega arith)) ∙ e);
        here = λ h b. absurd (omega (arith, h));
        whole = λ h zs ls. false≢true (sym (ap at_start e) ∙ (lines_read ls).0);
      }

  -- or is lawful
  pub whole_lines : (s : Stage) → s ≡ Start → Read xs i s n → (zs : List ℤ) × Lines xs zs × (length zs ≡ n)
  unfolding ended_in
  whole_lines s e r = (numbers false 0 xs, from_start xs (ap at_start (leads_all s r ∙ ap Some e)), counted false 0 xs ∙ ap (count_by is_end) (sym (take_all i xs all)) ∙ r.ended)
