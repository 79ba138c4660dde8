-- What names and numbers refer to while a text is read, and the labels of a draft beside those of the table.
use Rattle.std.specs.Prelude.{◌≡◌, ℕ, ◌+◌, min, true, false, cond, List, [], ◌∷◌}
use Rattle.token.specs.Tokens.{Token}
use Rattle.trees.specs.Trees.{Name}
use Rattle.arithmetic.specs.Words.{Words}
use Rattle.limits.specs.Uses.{Use, uses, is_definition, is_label, label_key, key, known}
use Rattle.limits.specs.Rules.{code_limit}
use Rattle.limits.specs.Symbols.{first_cell, cells_before}
use Rattle.emission.specs.Draft.{Word, fixed, jump, jump_zero, Definition}
use Rattle.symbols.specs.Mentions.{Mention, index}

-- after the uses us: a label by its symbol's index, a variable or a number by its cell
abbrev pub reference : Words → List Use → Use → ℕ
reference w us u = cond (is_label u.role) (index w (key w u) us) (first_cell + cells_before w (key w u) us)

-- the index of a label's symbol
abbrev pub numbering : Words → List Token → Name → ℕ
numbering w ts l = index w (label_key l) (uses ts)

-- the labels that are defined in a draft are those that the table was told to stand before a command, newest first, with the
-- same addresses, none of them above 4,096
pub data Matches : List Definition → List Mention → Type 0 where
  neither : Matches [] []
  another_use : {ds : List Definition} {seen : List Mention} (m : Mention) → is_definition m.used.role ≡ false → Matches ds seen → Matches ds (m ∷ seen)
  both : {ds : List Definition} {seen : List Mention} (m : Mention) (a : ℕ) → is_definition m.used.role ≡ true → m.address ≡ min a code_limit →
      Matches ds seen → Matches (record { label = m.used.spelling; address = a } ∷ ds) (m ∷ seen)

-- the labels of jumps are among the uses
abbrev pub Labelled : Words → List Use → List Word → Type 0
Labelled w us [] = Unit {0}
Labelled w us (fixed i ∷ ws) = Labelled w us ws
Labelled w us (jump l ∷ ws) = (known w (label_key l) us ≡ true) × Labelled w us ws
Labelled w us (jump_zero l ∷ ws) = (known w (label_key l) us ≡ true) × Labelled w us ws
