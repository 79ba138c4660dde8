-- What a reader holds after some of the tokens of a text, by the definitions.
use Rattle.std.specs.Prelude.{◌≡◌, ℕ, min, Bool, true, false, cond, List, [], ◌∷◌, map, reverse, length}
use mathlib.Core.List.{reverse_aux}
use Rattle.std.proofs.Math.Option.{Option, none, some}
use Rattle.token.specs.declared.kinds.Keyword.TheVariants.{Of}
use Rattle.token.specs.Tokens.{Token, keyword, Placed}
use Rattle.token.specs.Lexis.{tokens}
use Rattle.trees.specs.Trees.{Name}
use Rattle.arithmetic.specs.Words.{Words}
use Rattle.runs.specs.Code.{Layout}
use Rattle.grammar.specs.Recogniser as recogniser
use Rattle.grammar.specs.Tests.{is}
use Rattle.limits.specs.Uses.{Role, definition, target, listed, variable_use, Use, uses_before, label_key, known}
use Rattle.limits.specs.Rules.{code_limit, tokens_of, Refused}
use Rattle.limits.specs.Pass.{pass}
use Rattle.emission.specs.declared.state.State.{State}
use Rattle.emission.specs.declared.state.State.TheVariants as state
use Rattle.emission.specs.Draft.{Draft, words_of, here}
use Rattle.emission.specs.Table.{Return, Translator, translated}
use Rattle.emission.specs.Control.{control_in}
use Rattle.emission.specs.Layouts.{layout}
use Rattle.symbols.specs.declared.table.Table.{Table}
use Rattle.symbols.specs.Mentions.{Mention, mentions_before}
use Rattle.symbols.specs.Table.{Holds}
use Rattle.assembly.specs.Plans.{Plan, Rooms}
use Rattle.assembly.specs.Drawn.{Drawn}
use Rattle.reading.specs.declared.counts.Counts.{Counts}
use Rattle.reading.specs.declared.returns.Return.{Return as Coded}
use Rattle.reading.specs.References.{numbering, Matches, Labelled}
use Rattle.reading.specs.Steps.{return_code, Kept}
use Rattle.reading.specs.Counting.{Counted}

-- the role of a name that comes at a state, where `of-next` says whether OF follows it
abbrev pub role_at : State → Bool → Role
role_at state.Next of-next = variable_use
role_at state.Start of-next = definition
role_at state.Label of-next = variable_use
role_at state.LetWord of-next = variable_use
role_at state.LetName of-next = variable_use
role_at state.LetEnd of-next = variable_use
role_at state.GoWord of-next = variable_use
role_at state.ToWord of-next = cond of-next variable_use target
role_at state.ToName of-next = variable_use
role_at state.OfWord of-next = listed
role_at state.OfNames of-next = variable_use
role_at state.OfComma of-next = listed
role_at state.ReadWord of-next = variable_use
role_at state.ReadNames of-next = variable_use
role_at state.ReadComma of-next = variable_use
role_at state.PrintWord of-next = variable_use
role_at state.PrintList of-next = variable_use
role_at state.LeftSide of-next = variable_use
role_at state.RightSide of-next = variable_use
role_at state.ThenPart of-next = variable_use
role_at state.ElsePart of-next = variable_use
role_at state.Operand of-next = variable_use
role_at state.AfterOperand of-next = variable_use
role_at state.Group of-next = variable_use

-- the current state; without one, that after a whole command
abbrev pub current : List Coded → State
current [] = state.Next
current (r ∷ k) = r.state

-- how many entries the stacks have room for
abbrev pub room : Rooms
room = record { marks = 96; cells = 65 }

abbrev pub return_room : ℕ
return_room = 72

module _ (w : Words) (text : List ℕ) where
  -- the text's tokens, the cells of its variables and numbers, and the symbols of its labels
  abbrev pub all_tokens : List Token
  all_tokens = tokens_of (tokens text)

  abbrev pub cells_of : Layout
  cells_of = layout w all_tokens

  abbrev pub symbol_of : Name → ℕ
  symbol_of = numbering w all_tokens

  abbrev pub words_by : Option Translator → ℕ
  words_by none = 0
  words_by (some x) = here x.made

  -- the address of a label that stands behind the tokens past, newest first; none is above 4,096
  abbrev pub label_at : List Token → ℕ
  label_at past = min (words_by (translated cells_of (reverse past))) code_limit

  -- the uses that the table was told, with their places and addresses, newest first
  abbrev pub mentions : List Placed → List Placed → List Mention
  mentions past rest = mentions_before label_at past (tokens_of rest)

  -- the first refusal of 3 to 11
  abbrev pub refused_first : Option Refused
  refused_first = pass w (length text) recogniser.outset [] (tokens text)

  -- what is kept after GO TO, by the token that comes next
  abbrev pub KeptNext : List Token → List Return → Draft → Plan → Type 0
  KeptNext rest [] d p = Unit {0}
  KeptNext [] (s ∷ k) d p = Unit {0}
  KeptNext (t ∷ rest) (s ∷ k) d p = Kept symbol_of cells_of t s d p

  -- and a name that will be jumped to is among the uses, as a label
  abbrev pub KnownNext : List Token → List Return → Name → List Use → Type 0
  KnownNext rest [] n us = Unit {0}
  KnownNext [] (s ∷ k) n us = Unit {0}
  KnownNext (t ∷ rest) (s ∷ k) n us = s.state ≡ state.ToName → is (keyword Of) t ≡ false → known w (label_key n) us ≡ true

  -- After the tokens past, newest first, before the tokens rest: a plan, returns, counts and a table.
  pub record Reads (past rest : List Placed) (p : Plan) (k : List Coded) (c : Counts) (t : Table) : Type 0 where
    pub whole : reverse_aux past rest ≡ tokens text
    -- the translator of the definitions, from which the plan and the returns are drawn
    pub translator : Translator
    pub reached : translated cells_of (reverse (tokens_of past)) ≡ some translator
    pub drawn : Drawn symbol_of translator.made p
    pub returns : k ≡ map return_code translator.stack
    pub kept : KeptNext (tokens_of rest) translator.stack translator.made p
    pub known_next : KnownNext (tokens_of rest) translator.stack translator.made.kept (uses_before (tokens_of past) (tokens_of rest))
    pub counted : Counted (tokens_of past) c
    -- the table has all names and numbers so far, and the addresses of the labels
    pub text_is : t.text.now ≡ text
    pub holds : Holds w t (mentions past rest)
    pub matches : Matches translator.made.definitions (mentions past rest)
    pub labelled : Labelled w (uses_before (tokens_of past) (tokens_of rest)) (words_of translator.made)
    -- what is refused from here on is what the text is refused for
    pub passes : pass w (length text) (control_in translator) (tokens_of past) rest ≡ refused_first
