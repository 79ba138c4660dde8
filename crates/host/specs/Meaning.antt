-- What a host means to whoever uses it: the lines that wait, the marks that stand printed, the paper that is left.
use Rattle.std.specs.Prelude.{◌≡◌, ℕ, ◌-◌, ◌≤◌, Bool, true, cond, List, [], ◌∷◌, ◌++◌, ℤ, pos, negsuc, ◌≤ℤ◌, Some, None, Option, nat_le, nat_lt, unsigned_abs}
pub use Rattle.host.specs.declared.mark.Mark.{Mark}
pub use Rattle.host.specs.declared.mark.Mark.TheVariants.{Number as number, LineEnd as line_end}

pub record Meaning : Type 0 where
  pub lines : List ℤ
  pub marks : List Mark
  pub paper : ℕ

abbrev pub meaning : List ℤ → List Mark → ℕ → Meaning
meaning ls ms p = record { lines = ls; marks = ms; paper = p }

abbrev pub first : List ℤ → Option ℤ
first [] = None
first (x ∷ xs) = Some x

abbrev pub rest : List ℤ → List ℤ
rest [] = []
rest (x ∷ xs) = xs

-- after a line was taken, or none was there
abbrev pub taken : Meaning → Meaning
taken h = meaning (rest h.lines) h.marks h.paper

-- there is paper for a mark of this weight
abbrev pub fits : ℕ → Meaning → Bool
fits w h = nat_le w h.paper

-- after a mark of this weight, which is printed where there is paper for it, and else changes nothing
abbrev pub marked : ℕ → Mark → Meaning → Meaning
marked w m h = cond (fits w h) (meaning h.lines (h.marks ++ (m ∷ [])) (h.paper - w)) h

-- a whole number of at most 18 digits, with its sign
abbrev pub short : ℤ → Bool
short z = nat_lt (unsigned_abs z) 1000000000000000000

abbrev pub ShortLines : List ℤ → Type 0
ShortLines [] = Unit {0}
ShortLines (z ∷ zs) = (short z ≡ true) × ShortLines zs

-- what can be printed: a number of 32 signed bits, or a line end
abbrev pub Printable : Mark → Type 0
Printable (number z) = (negsuc 2147483647 ≤ℤ z) × (z ≤ℤ pos 2147483647)
Printable line_end = Unit {0}

-- each mark that can be printed weighs from 1 to 11
abbrev pub Light : (Mark → ℕ) → Type 0
Light weight = (m : Mark) → Printable m → (1 ≤ weight m) × (weight m ≤ 11)
