-- One line more of a tally: from the state of the loop to the next, and to each end.
use Rattle.std.proofs.Common.{◌≡◌, ℕ, zero, suc, ◌+◌, ◌-◌, ◌<◌, ◌≤◌, Bool, true, false, subst, List, [], ◌∷◌, ◌++◌, length, take, drop, ℤ, pos, Some, sym, refl, ap, ◌∙◌, append_assoc, arith, length-append, take-add}
use Rattle.std.proofs.lemmas.List.Sums.{fold_push}
use Rattle.arithmetic.specs.Words.{Words}
use Rattle.host.specs.Meaning.{Meaning, first, rest, taken}
use Rattle.host.specs.declared.mark.Mark.{Mark}
use Rattle.host.specs.declared.mark.Mark.TheVariants.{Number, LineEnd}
use Rattle.totals.specs.Running.{plus, total_of, running, as_paper_goes, Tallied}
use Rattle.totals.specs.Lines.{line_fits, with_line}
use Rattle.totals.proofs.Paper.{whole_line, part_line}

-- a line that waits at i
record Here (ls : List ℤ) (i : ℕ) (z : ℤ) : Type 0 where
  low : i < length ls
  now : drop i ls ≡ z ∷ drop (i + 1) ls
  front : take (i + 1) ls ≡ take i ls ++ (z ∷ [])

here : (ls : List ℤ) (i : ℕ) (z : ℤ) → Some z ≡ first (drop i ls) → Here ls i z
here [] zero z e = absurd (cc)
here [] (suc i) z e = absurd (cc)
here (x ∷ xs) zero z e = let s : x ≡ z = cc in record { low = omega arith; now = ap (λ y. y ∷ xs) s; front = ap (λ y. y ∷ []) s }
here (x ∷ xs) (suc i) z e =
    let h = here xs i z e in
    let s : suc i + 1 ≡ suc (i + 1) = omega arith in
    record {
      low = let l = h.low in omega (arith, l);
      now = h.now ∙ ap (λ k. z ∷ drop k (x ∷ xs)) (sym s);
      front = ap (λ k. take k (x ∷ xs)) s ∙ ap (λ l. x ∷ l) h.front;
    }

module _ (w : Words) where
  running_append : (t : ℤ) (xs ys : List ℤ) → running w t (xs ++ ys) ≡ running w t xs ++ running w (total_of w t xs) ys
  running_append t [] ys = refl
  running_append t (x ∷ xs) ys = ap (λ l. Number (plus w t x) ∷ LineEnd ∷ l) (running_append (plus w t x) xs ys)

-- the state of the loop after i lines
pub record State (w : Words) (weight : Mark → ℕ) (most : ℕ) (old : Meaning) (i : ℕ) (t : ℤ) (new : Meaning) : Type 0 where
  pub inside : i ≤ length old.lines
  pub gone : new.lines ≡ drop i old.lines
  pub total : t ≡ total_of w (pos 0) (take i old.lines)
  pub marks : new.marks ≡ old.marks ++ running w (pos 0) (take i old.lines)
  pub goes : as_paper_goes weight old.paper (running w (pos 0) (take most old.lines))
      ≡ running w (pos 0) (take i old.lines) ++ as_paper_goes weight new.paper (running w t (take (most - i) (drop i old.lines)))

module _ (w : Words) (weight : Mark → ℕ) (most : ℕ) (old : Meaning) (i : ℕ) (t : ℤ) (new : Meaning) (s : State w weight most old i t new) where
  module _ (z : ℤ) (waits : Some z ≡ first new.lines) (few : i < most) where
    at : Here old.lines i z
    at = here old.lines i z (waits ∙ ap first s.gone)

    to_come : List Mark
    to_come = running w (plus w t z) (take (most - (i + 1)) (drop (i + 1) old.lines))

    unrolled : running w t (take (most - i) (drop i old.lines)) ≡ Number (plus w t z) ∷ LineEnd ∷ running w (plus w t z) (take (most - (i + 1)) (drop (i + 1) old.lines))
    unrolled = let k : most - i ≡ suc (most - (i + 1)) = omega (arith, few) in simp (at.now, k)

    gone_on : rest new.lines ≡ drop (i + 1) old.lines
    gone_on = ap rest (s.gone ∙ at.now)

    total_on : plus w t z ≡ total_of w (pos 0) (take (i + 1) old.lines)
    total_on = simp (at.front, fold_push) (ap (λ u. plus w u z) s.total)

    marks_on : running w (pos 0) (take (i + 1) old.lines) ≡ running w (pos 0) (take i old.lines) ++ (Number (plus w t z) ∷ LineEnd ∷ [])
    marks_on = simp (at.front, running_append, s.total)

    goes_on : as_paper_goes weight old.paper (running w (pos 0) (take most old.lines))
        ≡ running w (pos 0) (take i old.lines) ++ as_paper_goes weight new.paper (Number (plus w t z) ∷ LineEnd ∷ running w (plus w t z) (take (most - (i + 1)) (drop (i + 1) old.lines)))
    goes_on = s.goes ∙ ap (λ l. running w (pos 0) (take i old.lines) ++ as_paper_goes weight new.paper l) unrolled

    goes_next : line_fits weight (plus w t z) (taken new) ≡ true → State w weight most old (i + 1) (plus w t z) (with_line weight (plus w t z) (taken new))
    unfolding to_come
    goes_next f =
        let r = running w (pos 0) (take i old.lines) in
        let p = whole_line weight (plus w t z) (taken new) to_come f in
        record {
          inside = let l = at.low in omega (arith, l);
          gone = p.lines ∙ gone_on;
          total = total_on;
          marks = p.marks ∙ simp (s.marks, marks_on, append_assoc);
          goes = goes_on ∙ simp (p.goes_on, marks_on, append_assoc);
        }

    all_marks : running w (pos 0) (take most old.lines) ≡ running w (pos 0) (take i old.lines) ++ (Number (plus w t z) ∷ LineEnd ∷ running w (plus w t z) (take (most - (i + 1)) (drop (i + 1) old.lines)))
    all_marks =
        let k : most ≡ i + (most - i) = omega (arith, few) in
        ap (λ n. running w (pos 0) (take n old.lines)) k ∙ simp (take-add, running_append) (ap (λ l. running w (pos 0) (take i old.lines) ++ l) (ap (λ u. running w u (take (most - i) (drop i old.lines))) (sym s.total) ∙ unrolled))

    stops : line_fits weight (plus w t z) (taken new) ≡ false →
        Tallied w weight most old (record { lines = i + 1; total = plus w t z; complete = false }) (with_line weight (plus w t z) (taken new))
    unfolding to_come
    stops f =
        let r = running w (pos 0) (take i old.lines) in
        let p = part_line weight (plus w t z) (taken new) to_come f in
        let g = as_paper_goes weight new.paper (Number (plus w t z) ∷ LineEnd ∷ to_come) in
        let short = p.short in
        record {
          few = omega (arith, few);
          inside = let l = at.low in omega (arith, l);
          gone = p.lines ∙ gone_on;
          total = total_on;
          printed = p.marks ∙ ap (λ l. l ++ g) s.marks ∙ append_assoc old.marks r g ∙ ap (λ l. old.marks ++ l) (sym goes_on);
          complete = λ c. absurd (cc);
          partly = λ c. omega (arith, ap length goes_on, ap length all_marks, length-append r g, length-append r (Number (plus w t z) ∷ LineEnd ∷ to_come), short);
        }

    -- the total with the line, what the host means once the line is taken and once the total is printed
    module _ (u : ℤ) (mid last : Meaning) (p : u ≡ plus w t z) (q : mid ≡ taken new) (r : last ≡ with_line weight u mid) where
      printed_is : last ≡ with_line weight (plus w t z) (taken new)
      printed_is = r ∙ (λ j. with_line weight (p j) (q j))

      fit_is : (b : Bool) → b ≡ line_fits weight u mid → line_fits weight (plus w t z) (taken new) ≡ b
      fit_is b f = sym (f ∙ (λ j. line_fits weight (p j) (q j)))

      pub next : true ≡ line_fits weight u mid → State w weight most old (i + 1) u last
      next f = subst (λ v. State w weight most old (i + 1) v last) (sym p) (subst (State w weight most old (i + 1) (plus w t z)) (sym printed_is) (goes_next (fit_is true f)))

      pub stopped : (k : ℕ) → k ≡ i + 1 → false ≡ line_fits weight u mid → Tallied w weight most old (record { lines = k; total = u; complete = false }) last
      stopped k e f =
          subst (λ n. Tallied w weight most old (record { lines = n; total = u; complete = false }) last) (sym e)
          (subst (λ v. Tallied w weight most old (record { lines = i + 1; total = v; complete = false }) last) (sym p)
          (subst (Tallied w weight most old (record { lines = i + 1; total = plus w t z; complete = false })) (sym printed_is) (stops (fit_is false f))))
