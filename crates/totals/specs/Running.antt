-- Running totals of lines, and what of them stands printed.
use Rattle.std.specs.Prelude.{◌≡◌, ℕ, ◌-◌, ◌<◌, ◌≤◌, true, false, cond, List, [], ◌∷◌, ◌++◌, length, take, drop, ℤ, pos, nat_le, fold}
use Rattle.arithmetic.specs.Words.{Words, sum}
use Rattle.host.specs.Meaning.{Meaning}
use Rattle.host.specs.declared.mark.Mark.{Mark}
use Rattle.host.specs.declared.mark.Mark.TheVariants.{Number, LineEnd}
use Rattle.totals.specs.declared.Totals.{Totals}

-- a total and the fitted line more
abbrev pub plus : Words → ℤ → ℤ → ℤ
plus w t z = sum w t (w.fit z)

-- the total of lines, behind the total t
abbrev pub total_of : Words → ℤ → List ℤ → ℤ
total_of w t zs = fold (plus w) t zs

-- for each line the total so far, and a line end
abbrev pub running : Words → ℤ → List ℤ → List Mark
running w t [] = []
running w t (z ∷ zs) = Number (plus w t z) ∷ LineEnd ∷ running w (plus w t z) zs

-- the marks that are printed one after the other as far as the paper goes
abbrev pub as_paper_goes : (Mark → ℕ) → ℕ → List Mark → List Mark
as_paper_goes weight paper [] = []
as_paper_goes weight paper (m ∷ ms) = cond (nat_le (weight m) paper) (m ∷ as_paper_goes weight (paper - weight m) ms) []

-- what is done with at most `most` lines of a host that means h, which then means h'
pub record Tallied (w : Words) (weight : Mark → ℕ) (most : ℕ) (h : Meaning) (r : Totals) (h' : Meaning) : Type 0 where
  -- so many lines are gone, and their total is told
  pub few : r.lines ≤ most
  pub inside : r.lines ≤ length h.lines
  pub gone : h'.lines ≡ drop r.lines h.lines
  pub total : r.total ≡ total_of w (pos 0) (take r.lines h.lines)
  -- the running totals are printed as far as the paper goes
  pub printed : h'.marks ≡ h.marks ++ as_paper_goes weight h.paper (running w (pos 0) (take most h.lines))
  -- where it does not go to the end, that is told; else all lines are gone
  pub complete : r.complete ≡ true → (take r.lines h.lines ≡ take most h.lines) × (h'.marks ≡ h.marks ++ running w (pos 0) (take most h.lines))
  pub partly : r.complete ≡ false → length (as_paper_goes weight h.paper (running w (pos 0) (take most h.lines))) < length (running w (pos 0) (take most h.lines))
