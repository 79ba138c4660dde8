-- The symbols of a list of tokens, in the order of their first appearance, and the cells of variables and numbers.
use Rattle.std.specs.Prelude.{◌≡◌, ℕ, ◌+◌, cond, List, [], ◌∷◌, length, drop}
use Rattle.std.proofs.Math.Option.{Option, none, some}
use Rattle.token.specs.Tokens.{Token, Placed}
use Rattle.token.specs.Numbers.{word}
use Rattle.trees.specs.Trees.{Name}
use Rattle.arithmetic.specs.Words.{Words}
use Rattle.limits.specs.Uses.{Role, definition, target, listed, variable_use, number_use, Use, use_at, uses_before, uses, is_label, Key, variable_key, number_key, key_by, key, known, cells}
use Rattle.limits.specs.Rules.{past, Used, New, tokens_of, place}

pub data Kind : Type 0 where
  variable_kind : Kind
  number_kind : Kind
  label_kind : Kind

abbrev pub kind_number : Kind → ℕ
kind_number variable_kind = 1
kind_number number_kind = 2
kind_number label_kind = 3

abbrev pub kind_of : Role → Kind
kind_of definition = label_kind
kind_of target = label_kind
kind_of listed = label_kind
kind_of variable_use = variable_kind
kind_of number_use = number_kind

-- the entry of a symbol: its kind, the place and the length of its first spelling, and its cell, or a label's address
pub record Symbol : Type 0 where
  pub kind : Kind
  pub place : ℕ
  pub length : ℕ
  pub at : ℕ

-- cell 0 is #TEMP, cell 1 holds 1, and cells 2 to 65 are the temporaries
abbrev pub first_cell : ℕ
first_cell = 66

-- how many cells there were at the first use of a symbol; uses are newest first
abbrev pub cells_before : Words → Key → List Use → ℕ
cells_before w k [] = 0
cells_before w k (u ∷ us) = cond (known w k us) (cells_before w k us) (cells w us)

-- the cell of a variable or a number word
abbrev pub cell : Words → List Token → Key → ℕ
cell w ts k = first_cell + cells_before w k (uses ts)

abbrev pub variable_cell : Words → List Token → Name → ℕ
variable_cell w ts x = cell w ts (variable_key x)

-- the cell of a number, by its digits
abbrev pub literal_cell : Words → List Token → List ℕ → ℕ
literal_cell w ts digits = cell w ts (number_key (word w digits))

-- the number of cells in use
abbrev pub cells_used : Words → List Token → ℕ
cells_used w ts = first_cell + cells w (uses ts)

-- Of a text's tokens, where `address` says which word of the code a label names.
module _ (w : Words) (address : Name → ℕ) where
  -- the symbol of the use u, whose token stands at the place p after the uses us
  abbrev pub symbol : List Use → ℕ → Use → Symbol
  symbol us p u = record {
    kind = kind_of u.role;
    place = p;
    length = length u.spelling;
    at = cond (is_label u.role) (address u.spelling) (first_cell + cells w us);
  }

  abbrev pub entered : List Use → ℕ → Option Use → List Symbol → List Symbol
  entered us p none ss = ss
  entered us p (some u) ss = cond (known w (key w u) us) ss (symbol us p u ∷ ss)

  -- the symbols that first appear after the tokens past
  abbrev pub symbols_after : List Token → List Placed → List Symbol
  symbols_after past [] = []
  symbols_after past (p ∷ ps) =
      entered (uses_before past (p.token ∷ tokens_of ps)) p.offset (use_at past (p.token ∷ tokens_of ps))
      (symbols_after (p.token ∷ past) ps)

  abbrev pub symbols : List Placed → List Symbol
  symbols ts = symbols_after [] ts

  -- the symbol s is that of a token which is the first with its name or number word
  pub record FirstUse (ts : List Placed) (s : Symbol) : Type 0 where
    pub index : ℕ
    pub role : Role
    pub spelling : List ℕ
    pub used : Used (tokens_of ts) index role spelling
    pub new : New w (tokens_of ts) index role spelling
    pub is_symbol : s ≡ record {
      kind = kind_of role;
      place = place 0 (drop index ts);
      length = length spelling;
      at = cond (is_label role) (address spelling) (cell w (tokens_of ts) (key_by w role spelling));
    }
