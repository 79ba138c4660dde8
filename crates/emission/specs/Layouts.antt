-- The cells of a text's variables and numbers as a layout.
use Rattle.std.specs.Prelude.{◌≡◌, ℕ, suc, ◌+◌, ◌<◌, ◌≤◌, true, false, List, length}
use Rattle.token.specs.Tokens.{Token}
use Rattle.arithmetic.specs.Words.{Words}
use Rattle.runs.specs.Code.{Layout}
use Rattle.limits.specs.Uses.{Role, Key, key_by, known, cells}
use Rattle.limits.specs.Rules.{seen, Used}
use Rattle.limits.specs.Symbols.{first_cell, cells_before, cell, variable_cell, literal_cell, cells_used}
use Rattle.emission.specs.Room.{Below}

abbrev pub layout : Words → List Token → Layout
layout w ts = record { variable_cell = variable_cell w ts; literal_cell = literal_cell w ts; used = cells_used w ts }

-- The cell of a symbol is known from its first use on: what comes after changes nothing.
pub record Known : Type 0 where
  pub known_cell : (w : Words) (ts : List Token) (k : Key) (j : ℕ) → j ≤ length ts → known w k (seen ts j) ≡ true →
      cell w ts k ≡ first_cell + cells_before w k (seen ts j)
  -- at its first use it is the next free one
  pub next_cell : (w : Words) (ts : List Token) (r : Role) (s : List ℕ) (j : ℕ) → j < length ts → Used ts j r s →
      known w (key_by w r s) (seen ts j) ≡ false → cell w ts (key_by w r s) ≡ first_cell + cells w (seen ts j)
  -- no cell is past the one that would come next
  pub below : (w : Words) (ts : List Token) → Below (layout w ts) (suc (cells_used w ts))
