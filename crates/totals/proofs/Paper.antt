-- A running total and its line end, as far as the paper goes.
use Rattle.std.proofs.Common.{◌≡◌, ℕ, ◌-◌, ◌<◌, Bool, true, false, leb, List, [], ◌∷◌, ◌++◌, length, ℤ, refl, append_assoc, append-nil, arith}
use Rattle.host.specs.Meaning.{Meaning}
use Rattle.host.specs.declared.mark.Mark.{Mark}
use Rattle.host.specs.declared.mark.Mark.TheVariants.{Number, LineEnd}
use Rattle.totals.specs.Running.{as_paper_goes}
use Rattle.totals.specs.Lines.{line_fits, with_line}

module _ (weight : Mark → ℕ) (z : ℤ) (h : Meaning) where
  -- the three ways: both are printed, the number alone, nothing
  data Way : Type 0 where
    both : leb (weight (Number z)) h.paper ≡ true → leb (weight LineEnd) (h.paper - weight (Number z)) ≡ true → Way
    one : leb (weight (Number z)) h.paper ≡ true → leb (weight LineEnd) (h.paper - weight (Number z)) ≡ false → Way
    none : leb (weight (Number z)) h.paper ≡ false → Way

  by : (b c : Bool) → leb (weight (Number z)) h.paper ≡ b → leb (weight LineEnd) (h.paper - weight (Number z)) ≡ c → Way
  by true true p q = both p q
  by true false p q = one p q
  by false c p q = none p

  way : Way
  way = by (leb (weight (Number z)) h.paper) (leb (weight LineEnd) (h.paper - weight (Number z))) refl refl

  module _ (ms : List Mark) where
    -- the line is printed whole
    pub record Whole : Type 0 where
      pub lines : (with_line weight z h).lines ≡ h.lines
      pub marks : (with_line weight z h).marks ≡ h.marks ++ (Number z ∷ LineEnd ∷ [])
      pub goes_on : as_paper_goes weight h.paper (Number z ∷ LineEnd ∷ ms) ≡ Number z ∷ LineEnd ∷ as_paper_goes weight (with_line weight z h).paper ms

    pub record Part : Type 0 where
      pub lines : (with_line weight z h).lines ≡ h.lines
      pub marks : (with_line weight z h).marks ≡ h.marks ++ as_paper_goes weight h.paper (Number z ∷ LineEnd ∷ ms)
      pub short : length (as_paper_goes weight h.paper (Number z ∷ LineEnd ∷ ms)) < length (Number z ∷ LineEnd ∷ ms)

    pub whole_line : line_fits weight z h ≡ true → Whole
    whole_line f =
        elim way [
          | both p q ↦ record { lines = simp (p, q); marks = simp (p, q, append_assoc); goes_on = simp (p, q) }
          | one p q ↦ absurd (cc (simp (p, q) at f))
          | none p ↦ absurd (cc (simp p at f))
        ]

    pub part_line : line_fits weight z h ≡ false → Part
    part_line f =
        elim way [
          | both p q ↦ absurd (cc (simp (p, q) at f))
          | one p q ↦ record { lines = simp (p, q); marks = simp (p, q); short = simp (p, q) (omega arith) }
          | none p ↦ record { lines = simp p; marks = simp (p, append-nil); short = simp p (omega arith) }
        ]
