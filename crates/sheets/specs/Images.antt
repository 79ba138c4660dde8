-- From the text of a sheet: its refusal or its program, and what a load of it leaves.
use Rattle.std.specs.Prelude.{ℕ, cond, not, ◌&&◌, List, [], ◌∷◌, ◌++◌, length, replicate, ℤ, pos}
use Rattle.std.proofs.Math.Option.{Option, none, some}
use Rattle.token.specs.Tokens.{Token}
use Rattle.token.specs.Lexis.{tokens}
use Rattle.token.specs.Numbers.{word}
use Rattle.trees.specs.Trees.{Program}
use Rattle.arithmetic.specs.Words.{Words}
use Rattle.grammar.specs.Machine.{parse}
use Rattle.limits.specs.Uses.{Role, definition, target, listed, variable_use, number_use, Use, uses, is_label, key, known}
use Rattle.limits.specs.Rules.{tokens_of, Refused, Refusal, Accepted}
use Rattle.limits.specs.Refusals.{text_refusal}
use Rattle.limits.specs.Symbols as table
use Rattle.limits.specs.Symbols.{Symbol, symbols}
use Rattle.runs.specs.Code.{Layout, program_size, address_of, code_of}

-- the tokens of a text, without their offsets
abbrev pub plain_tokens : List ℕ → List Token
plain_tokens text = tokens_of (tokens text)

-- the text gets the refusal r, by the rules
abbrev pub Refuses : Words → List ℕ → Refused → Type 0
Refuses w text r = Refusal w program_size (length text) (tokens text) r

-- the refusal of a text, if it gets one, computed
abbrev pub refusal_of : Words → List ℕ → Option Refused
refusal_of w text = text_refusal w program_size text

-- the text gets no refusal by the rules, and its program is p
abbrev pub Accepts : Words → List ℕ → Program → Type 0
Accepts w text p = Accepted w program_size (length text) (tokens text) p

-- where the variables and the numbers of a text have their cells, and how many cells are in use
abbrev pub layout : Words → List Token → Layout
layout w ts = record { variable_cell = table.variable_cell w ts; literal_cell = table.literal_cell w ts; used = table.cells_used w ts }

-- a variable's cell holds 0 at first, and a number's its word; a label has none
abbrev pub first_value : Words → Role → List ℕ → ℤ
first_value w definition s = pos 0
first_value w target s = pos 0
first_value w listed s = pos 0
first_value w variable_use s = pos 0
first_value w number_use s = word w s

-- what the cells of variables and numbers hold at first, by first appearance; the uses are newest first
abbrev pub first_values : Words → List Use → List ℤ
first_values w [] = []
first_values w (u ∷ us) =
    cond (not (is_label u.role) && not (known w (key w u) us)) (first_values w us ++ (first_value w u.role u.spelling ∷ [])) (first_values w us)

-- #TEMP holds 0, #ONE holds 1, and each of #TEMP1 to #TEMP64 holds 0
abbrev pub fixed_cells : List ℤ
fixed_cells = pos 0 ∷ pos 1 ∷ replicate 64 (pos 0)

-- all cells in use, as a load leaves them
abbrev pub first_cells : Words → List Token → List ℤ
first_cells w ts = fixed_cells ++ first_values w (uses ts)

-- what a load leaves: the words of code, the cells in use, and the symbols by first appearance
pub record Image : Type 0 where
  pub code : List ℕ
  pub cells : List ℤ
  pub symbols : List Symbol

-- the image of a text whose program is p
abbrev pub image_of : Words → List ℕ → Program → Image
image_of w text p = record {
  code = code_of (layout w (plain_tokens text)) p;
  cells = first_cells w (plain_tokens text);
  symbols = symbols w (address_of p) (tokens text);
}

abbrev pub image_by : Words → List ℕ → Option Program → Option Refused → Option Image
image_by w text none r = none
image_by w text (some p) none = some (image_of w text p)
image_by w text (some p) (some r) = none

-- the image of a text, if it is accepted
abbrev pub image : Words → List ℕ → Option Image
image w text = image_by w text (parse (plain_tokens text)) (refusal_of w text)
