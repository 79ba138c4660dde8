-- The translator: a table of states, each row with its action, and a stack of states to return to.
use Rattle.token.specs.declared.kinds.Keyword.TheVariants.{End, Let, Go, To, Of, Read, Print, If, Then, Else}
use Rattle.token.specs.declared.kinds.Sign.TheVariants as sign_of
use Rattle.std.specs.Prelude.{ℕ, List, [], ◌∷◌, ◌++◌}
use Rattle.std.proofs.Math.Option.{Option, none, some}
use Rattle.token.specs.Tokens.{Token, keyword, sign}
use Rattle.trees.specs.Trees.{Name}
use Rattle.runs.specs.Code.{Layout}
use Rattle.grammar.specs.Machine.{Rows, stop, on, at_name, at_number, choose, go_on}
use Rattle.emission.specs.Draft.{Draft, blank, here}
use Rattle.trees.specs.declared.operator.Operator.TheVariants as operator
use Rattle.trees.specs.declared.relation.Relation.TheVariants as relation
use Rattle.emission.specs.Actions.{Action, Nothing, DefineLabel, SetTarget, StoreTarget, KeepName, JumpToName, LoadName, FirstLabel, FurtherLabel, ReadName, SkipLine, PrintValue, EndLine, PushVariable, PushNumber, OpenGroup, CloseGroup, Operate, EndExpression, Compare, BeginThen, BeginElse, EndElse, EndProgram, perform}
pub use Rattle.emission.specs.declared.state.State.{State}
pub use Rattle.emission.specs.declared.state.State.TheVariants.{Next, Start, Label, LetWord, LetName, LetEnd, GoWord, ToWord, ToName, OfWord, OfNames, OfComma, ReadWord, ReadNames, ReadComma, PrintWord, PrintList, LeftSide, RightSide, ThenPart, ElsePart, Operand, AfterOperand, Group}

-- an entry of the table: what to do, and what stands in place of the state then, the new state and below it where to return to
pub record Entry : Type 0 where
  pub action : Action
  pub states : List State

abbrev pub to : Action → State → Entry
to a s = record { action = a; states = s ∷ [] }

abbrev pub call : Action → State → State → Entry
call a s r = record { action = a; states = s ∷ r ∷ [] }

abbrev pub call_two : Action → State → State → State → Entry
call_two a s r q = record { action = a; states = s ∷ r ∷ q ∷ [] }

abbrev pub leaves : Action → Entry
leaves a = record { action = a; states = [] }

abbrev pub table : State → Rows Entry
table Next = on (sign sign_of.Semicolon) (call Nothing Start Next) (on (keyword End) (leaves EndProgram) stop)
table Start =
    at_name (λ n. to DefineLabel Label)
    (on (keyword Let) (to Nothing LetWord) (on (keyword Go) (to Nothing GoWord) (on (keyword Read) (to Nothing ReadWord)
    (on (keyword Print) (to Nothing PrintWord) (on (keyword If) (call Nothing Operand LeftSide) stop)))))
table Label = on (sign sign_of.Colon) (to Nothing Start) stop
table LetWord = at_name (λ n. to SetTarget LetName) stop
table LetName = on (sign sign_of.Becomes) (call Nothing Operand LetEnd) stop
table LetEnd = stop
table GoWord = on (keyword To) (to Nothing ToWord) stop
table ToWord = at_name (λ n. to KeepName ToName) stop
table ToName = on (keyword Of) (to LoadName OfWord) stop
table OfWord = at_name (λ n. to FirstLabel OfNames) stop
table OfNames = on (sign sign_of.Comma) (to Nothing OfComma) stop
table OfComma = at_name (λ n. to FurtherLabel OfNames) stop
table ReadWord = at_name (λ n. to ReadName ReadNames) stop
table ReadNames = on (sign sign_of.Comma) (to Nothing ReadComma) stop
table ReadComma = at_name (λ n. to ReadName ReadNames) stop
table PrintWord =
    at_name (λ n. call PushVariable AfterOperand PrintList) (at_number (λ n. call PushNumber AfterOperand PrintList)
    (on (sign sign_of.Open) (call_two OpenGroup Operand Group PrintList) stop))
table PrintList = on (sign sign_of.Comma) (call PrintValue Operand PrintList) stop
table LeftSide =
    on (sign sign_of.Greater) (call (Compare relation.Greater) Operand RightSide)
    (on (sign sign_of.Equal) (call (Compare relation.Equal) Operand RightSide) (on (sign sign_of.Less) (call (Compare relation.Less) Operand RightSide) stop))
table RightSide = on (keyword Then) (call BeginThen Start ThenPart) stop
table ThenPart = on (keyword Else) (call BeginElse Start ElsePart) stop
table ElsePart = stop
table Operand =
    at_name (λ n. to PushVariable AfterOperand) (at_number (λ n. to PushNumber AfterOperand)
    (on (sign sign_of.Open) (call OpenGroup Operand Group) stop))
table AfterOperand =
    on (sign sign_of.Times) (to (Operate operator.Times) Operand) (on (sign sign_of.Over) (to (Operate operator.Over) Operand)
    (on (sign sign_of.Plus) (to (Operate operator.Plus) Operand) (on (sign sign_of.Minus) (to (Operate operator.Minus) Operand) stop)))
table Group = on (sign sign_of.Close) (to CloseGroup AfterOperand) stop

-- what a state does when it returns, at a token that its rows do not have; some states do not return
abbrev pub returning : State → Option Action
returning Next = none
returning Start = some Nothing
returning Label = none
returning LetWord = none
returning LetName = none
returning LetEnd = some StoreTarget
returning GoWord = none
returning ToWord = none
returning ToName = some JumpToName
returning OfWord = none
returning OfNames = some Nothing
returning OfComma = none
returning ReadWord = some SkipLine
returning ReadNames = some Nothing
returning ReadComma = none
returning PrintWord = some EndLine
returning PrintList = some PrintValue
returning LeftSide = none
returning RightSide = none
returning ThenPart = none
returning ElsePart = some EndElse
returning Operand = none
returning AfterOperand = some EndExpression
returning Group = none

-- a state on the stack, and how many words there were when it was put there
pub record Return : Type 0 where
  pub state : State
  pub address : ℕ

abbrev pub entered : ℕ → State → Return
entered a s = record { state = s; address = a }

abbrev pub all_entered : ℕ → List State → List Return
all_entered a [] = []
all_entered a (s ∷ ss) = entered a s ∷ all_entered a ss

-- the translator: the current state with the returns below it, and the draft; without a state it is at the end
pub record Translator : Type 0 where
  pub stack : List Return
  pub made : Draft

abbrev pub translator : List Return → Draft → Translator
translator k d = record { stack = k; made = d }

-- the states of an entry on the stack k, after its action
abbrev pub moved : List State → List Return → Draft → Translator
moved ss k d = translator (all_entered (here d) ss ++ k) d

abbrev pub if_returning : Option Action → (Action → Rows Translator) → Rows Translator
if_returning none f = stop
if_returning (some b) f = f b

module _ (l : Layout) where
  -- the entry e at a token with this spelling, in place of a state that was entered at a, above the stack k
  abbrev pub follow : Entry → ℕ → Name → List Return → Draft → Translator
  follow e a n k d = moved e.states k (perform l e.action a n d)

  abbrev pub above : Rows Entry → ℕ → List Return → Draft → Rows Translator → Rows Translator
  above stop a k d z = z
  above (on w e y) a k d z = on w (follow e a [] k d) (above y a k d z)
  above (at_name f y) a k d z = at_name (λ n. follow (f n) a n k d) (above y a k d z)
  above (at_number f y) a k d z = at_number (λ n. follow (f n) a n k d) (above y a k d z)

  -- the rows of a stack: those of its top, and, if the top may return, those of what is below, after what returning does
  abbrev pub draft_rows : List Return → Draft → Rows Translator
  draft_rows [] d = stop
  draft_rows (s ∷ k) d =
      above (table s.state) s.address k d (if_returning (returning s.state) (λ b. draft_rows k (perform l b s.address [] d)))

  abbrev pub translator_rows : Translator → Rows Translator
  translator_rows x = draft_rows x.stack x.made

  abbrev pub draft_step : Translator → Token → Option Translator
  draft_step x t = choose (translator_rows x) t

  abbrev pub outset : Translator
  outset = translator (entered 0 Start ∷ entered 0 Next ∷ []) blank

  -- the translator after the tokens, if it has refused none
  abbrev pub translated : List Token → Option Translator
  translated ts = go_on translator_rows (some outset) ts

-- What the table says of a state at a token.
pub data Move : Type 0 where
  refuse : Move
  leave : Action → Move
  enter : Entry → Move

abbrev pub decided : Option Entry → Option Action → Move
decided (some e) o = enter e
decided none (some b) = leave b
decided none none = refuse

abbrev pub move : State → Token → Move
move s t = decided (choose (table s) t) (returning s)
