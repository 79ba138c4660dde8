-- The theorems about refusals, symbols and cells.
use Rattle.grammar.specs.declared.state.State.{State}
use Rattle.std.specs.Prelude.{◌≡◌, ℕ, ◌+◌, ◌<◌, ◌≤◌, true, false, List, [], ◌∷◌, reverse, length, ◌≢◌}
use Rattle.std.proofs.Math.Option.{none, some}
use Rattle.token.specs.Tokens.{Token, name, Placed}
use Rattle.token.specs.Numbers.{word}
use Rattle.trees.specs.Trees.{Name, Program, commands}
use Rattle.arithmetic.specs.Words.{Words}
use Rattle.grammar.specs.Grammar.{Parses}
use Rattle.grammar.specs.Recogniser.{stack_step, outset, reach, first_fault}
use Rattle.limits.specs.Uses.{Role, definition, variable_use, number_use, Use, made, In, before_of, name_role, uses, is_literal, is_label, depth, parts}
use Rattle.limits.specs.Rules.{name_limit, depth_limit, past, Met, Rule, Clear, tokens_of, Refused, Refusal, Accepted}
use Rattle.limits.specs.Refusals.{first_refusal, refusal}
use Rattle.limits.specs.Symbols.{Symbol, first_cell, variable_cell, literal_cell, cells_used, symbols, FirstUse}
use Rattle.limits.specs.Programs.{program_uses, All, Fits, Once}
use Rattle.limits.specs.States.{state_role}
use Rattle.limits.specs.Pass.{pass}

-- A text has one refusal or is accepted as one program, and `refusal` says which.
pub record OneAnswer : Type 0 where
  pub some_refusal : (w : Words) (size : Program → ℕ) (n : ℕ) (ts : List Placed) (r : Refused) → refusal w size n ts ≡ some r → Refusal w size n ts r
  pub refusal_some : (w : Words) (size : Program → ℕ) (n : ℕ) (ts : List Placed) (r : Refused) → Refusal w size n ts r → refusal w size n ts ≡ some r
  pub none_accepted : (w : Words) (size : Program → ℕ) (n : ℕ) (ts : List Placed) → refusal w size n ts ≡ none → (p : Program) × Accepted w size n ts p
  pub accepted_none : (w : Words) (size : Program → ℕ) (n : ℕ) (ts : List Placed) (p : Program) → Accepted w size n ts p → refusal w size n ts ≡ none

-- One pass with the recogniser's stack finds the first refusal of 3 to 11.
abbrev pub OnePass : Type 0
OnePass = (w : Words) (n : ℕ) (ts : List Placed) → pass w n outset [] ts ≡ first_refusal w (first_fault (tokens_of ts)) n [] ts

-- Cells, of any tokens: variables and numbers that stand among their uses.
pub record Cells : Type 0 where
  -- distinct variables have distinct cells, and none shares a cell with a number
  pub variables_apart : (w : Words) (ts : List Token) (x y : Name) → In (made variable_use x) (uses ts) → In (made variable_use y) (uses ts) →
      variable_cell w ts x ≡ variable_cell w ts y → x ≡ y
  pub numbers_apart : (w : Words) (ts : List Token) (x : Name) (d : List ℕ) → In (made variable_use x) (uses ts) → In (made number_use d) (uses ts) →
      variable_cell w ts x ≢ literal_cell w ts d
  -- numbers share a cell exactly if they are fitted to one word
  pub words_apart : (w : Words) (ts : List Token) (d e : List ℕ) → In (made number_use d) (uses ts) → In (made number_use e) (uses ts) →
      literal_cell w ts d ≡ literal_cell w ts e → word w d ≡ word w e
  pub words_share : (w : Words) (ts : List Token) (d e : List ℕ) → word w d ≡ word w e → literal_cell w ts d ≡ literal_cell w ts e
  -- each cell is among those in use, past the temporaries
  pub variable_in : (w : Words) (ts : List Token) (x : Name) → In (made variable_use x) (uses ts) →
      (first_cell ≤ variable_cell w ts x) × (variable_cell w ts x < cells_used w ts)
  pub literal_in : (w : Words) (ts : List Token) (d : List ℕ) → In (made number_use d) (uses ts) →
      (first_cell ≤ literal_cell w ts d) × (literal_cell w ts d < cells_used w ts)
  -- without refusal there are at most 512 cells and 702 symbols
  pub few_cells : (w : Words) (ts : List Token) → Clear w ts → cells_used w ts ≤ 512
  pub few_symbols : (w : Words) (address : Name → ℕ) (ts : List Placed) → Clear w (tokens_of ts) → length (symbols w address ts) ≤ 702

-- The table has a symbol for each first use, and no other.
pub record Table : Type 0 where
  pub sound : (w : Words) (address : Name → ℕ) (ts : List Placed) (s : Symbol) → In s (symbols w address ts) → FirstUse w address ts s
  pub complete : (w : Words) (address : Name → ℕ) (ts : List Placed) (s : Symbol) → FirstUse w address ts s → In s (symbols w address ts)

-- What holds of the tree of a program, by the refusals that its tokens lack.
pub record Trees : Type 0 where
  -- the uses of the tokens are those of the tree, in the same order
  pub same_uses : (ts : List Token) (p : Program) → Parses ts p → reverse (uses ts) ≡ program_uses p
  pub in_tokens : (ts : List Token) (p : Program) → Parses ts p → (u : Use) → In u (program_uses p) → In u (uses ts)
  -- whole expressions and lists after OF are short enough
  pub fits : (w : Words) (ts : List Token) (p : Program) → Clear w ts → Parses ts p → All Fits (commands p)
  -- names are short enough, and each is a label or a variable throughout
  pub short_names : (w : Words) (ts : List Token) (p : Program) → Clear w ts → Parses ts p → (r : Role) (x : Name) →
      In (made r x) (program_uses p) → is_literal r ≡ false → length x ≤ name_limit
  pub one_kind : (w : Words) (ts : List Token) (p : Program) → Clear w ts → Parses ts p → (r q : Role) (x : Name) →
      In (made r x) (program_uses p) → In (made q x) (program_uses p) → is_literal r ≡ false → is_literal q ≡ false → is_label r ≡ is_label q
  -- no label stands before two commands, and each that is mentioned stands before one
  pub once : (w : Words) (ts : List Token) (p : Program) → Clear w ts → Parses ts p → Once (program_uses p)
  pub defined : (ts : List Token) (p : Program) → Met ts → Parses ts p → (r : Role) (x : Name) →
      In (made r x) (program_uses p) → is_label r ≡ true → In (made definition x) (program_uses p)

-- What the recogniser's stack says of the tokens that it has taken.
pub record States : Type 0 where
  -- the role of a name is that of the state at which it comes
  pub role_by_state : (ts : List Token) (s : State) (k j : List State) (n : Name) (r : List Token) → reach ts ≡ some (s ∷ k) →
      stack_step (s ∷ k) (name n) ≡ some j → name_role (reverse ts) r ≡ state_role s (before_of r)
  -- the stack is hardly deeper than parentheses and IFs are nested, and they are at most 32 deep as long as no refusal stands
  pub shallow : (ts : List Token) (k : List State) → reach ts ≡ some k → length k ≤ 3 + (length (parts (reverse ts)) + depth (reverse ts))
  pub nested : (w : Words) (ts : List Token) (k : ℕ) → ((j n : ℕ) → j < k → Rule w ts j n → ⊥) →
      (length (parts (past ts k)) ≤ depth_limit) × (depth (past ts k) ≤ depth_limit)
