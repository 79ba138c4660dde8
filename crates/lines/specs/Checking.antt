-- What the check of a text answers, in the words of its form.
use Rattle.std.specs.Prelude.{◌≡◌, ℕ, suc, ◌<◌, ◌≤◌, List, ◌++◌, length, take, ℤ, Ok, Err, Result}
use Rattle.fault.specs.declared.Refusal.TheVariants.{BadLine}
use Rattle.fault.specs.declared.Fault.{Fault}
use Rattle.lines.specs.Form.{Lines}

-- some lawful text begins so
abbrev pub Begins : List ℕ → Type 0
Begins t = (rest : List ℕ) × (zs : List ℤ) × Lines (t ++ rest) zs

-- a text breaks the form at p: up to there some lawful text begins so, and with one byte more none does;
-- or p is the text's length, and the text breaks off within a line
pub record Breaks (text : List ℕ) (p : ℕ) : Type 0 where
  pub inside : p ≤ length text
  pub before : Begins (take p text)
  pub here : p < length text → Begins (take (suc p) text) → ⊥
  pub whole : p ≡ length text → (zs : List ℤ) → Lines text zs → ⊥

-- the count of lines of a lawful text, or refusal 17 at the place where it breaks the form
abbrev pub Checked : List ℕ → Result ℕ Fault → Type 0
Checked text (Ok n) = (zs : List ℤ) × Lines text zs × (length zs ≡ n)
Checked text (Err f) = (f.refusal ≡ BadLine) × Breaks text f.place
