-- How much room the stacks of a translator need.
use Rattle.std.specs.Prelude.{ℕ, suc, ◌+◌, ◌<◌, ◌≤◌, ◌⊎◌, List, length}
use Rattle.token.specs.Tokens.{Token}
use Rattle.trees.specs.Trees.{Name}
use Rattle.runs.specs.Code.{Layout, first_temporary}
use Rattle.limits.specs.Uses.{In, operators, depth, parts}
use Rattle.emission.specs.Draft.{Draft}
use Rattle.emission.specs.Table.{Translator}

-- by the operators of the whole expression, the open parentheses and the open IFs of the tokens so far, newest first
pub record Sized (past : List Token) (x : Translator) : Type 0 where
  pub cells : length x.made.making.cells ≤ suc (operators past)
  pub marks : length x.made.making.marks ≤ operators past + depth past
  pub temporaries : x.made.making.temporaries ≤ operators past
  pub stack : length x.stack ≤ 3 + (length (parts past) + depth past)

-- the most operands, operators with open parentheses, temporaries, and states with returns at once
abbrev pub cell_room : ℕ
cell_room = 65

abbrev pub mark_room : ℕ
mark_room = 96

abbrev pub temporary_room : ℕ
temporary_room = 64

abbrev pub stack_room : ℕ
stack_room = 67

pub record Within (x : Translator) : Type 0 where
  pub cells : length x.made.making.cells ≤ cell_room
  pub marks : length x.made.making.marks ≤ mark_room
  pub temporaries : x.made.making.temporaries ≤ temporary_room
  pub stack : length x.stack ≤ stack_room

-- the cells of a layout are below b
pub record Below (y : Layout) (b : ℕ) : Type 0 where
  pub variables : (n : Name) → y.variable_cell n < b
  pub literals : (n : Name) → y.literal_cell n < b

-- each operand that waits is such a cell or a temporary in use
abbrev pub Operands : ℕ → Draft → Type 0
Operands b d = (c : ℕ) → In c d.making.cells → (c < b) ⊎ (c < first_temporary + d.making.temporaries)
