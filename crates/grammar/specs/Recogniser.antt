-- The recogniser: a table of states, and a stack of states to return to. It builds no tree.
use Rattle.token.specs.declared.kinds.Keyword.TheVariants.{End, Let, Go, To, Of, Read, Print, If, Then, Else}
use Rattle.token.specs.declared.kinds.Sign.TheVariants.{Semicolon, Colon, Becomes, Plus, Minus, Times, Over, Open, Close, Comma, Greater, Equal, Less}
use Rattle.std.specs.Prelude.{ℕ, suc, Bool, true, false, cond, List, [], ◌∷◌, ◌++◌}
use Rattle.std.proofs.Math.Option.{Option, none, some}
use Rattle.token.specs.Tokens.{Token, keyword, sign}
use Rattle.grammar.specs.Machine.{Rows, stop, on, at_name, at_number, choose, go_on}
pub use Rattle.grammar.specs.declared.state.State.{State}
pub use Rattle.grammar.specs.declared.state.State.TheVariants.{Next, Start, Label, LetWord, LetName, GoWord, ToWord, ToName, OfWord, OfNames, OfComma, ReadWord, ReadNames, ReadComma, PrintWord, PrintList, LeftSide, RightSide, ThenPart, Operand, AfterOperand, Group}

-- what stands in place of a state after a token: the new state, and below it where to return to
abbrev pub to : State → List State
to s = s ∷ []

abbrev pub call : State → List State
call s = Operand ∷ s ∷ []

abbrev pub table : State → Rows (List State)
table Next = on (sign Semicolon) (Start ∷ Next ∷ []) (on (keyword End) [] stop)
table Start =
    at_name (λ n. to Label) (on (keyword Let) (to LetWord) (on (keyword Go) (to GoWord) (on (keyword Read) (to ReadWord) (on (keyword Print) (to PrintWord) (on (keyword If) (call LeftSide) stop)))))
table Label = on (sign Colon) (to Start) stop
table LetWord = at_name (λ n. to LetName) stop
table LetName = on (sign Becomes) (to Operand) stop
table GoWord = on (keyword To) (to ToWord) stop
table ToWord = at_name (λ n. to ToName) stop
table ToName = on (keyword Of) (to OfWord) stop
table OfWord = at_name (λ n. to OfNames) stop
table OfNames = on (sign Comma) (to OfComma) stop
table OfComma = at_name (λ n. to OfNames) stop
table ReadWord = at_name (λ n. to ReadNames) stop
table ReadNames = on (sign Comma) (to ReadComma) stop
table ReadComma = at_name (λ n. to ReadNames) stop
table PrintWord = at_name (λ n. AfterOperand ∷ PrintList ∷ []) (at_number (λ n. AfterOperand ∷ PrintList ∷ []) (on (sign Open) (Operand ∷ Group ∷ PrintList ∷ []) stop))
table PrintList = on (sign Comma) (call PrintList) stop
table LeftSide = on (sign Greater) (call RightSide) (on (sign Equal) (call RightSide) (on (sign Less) (call RightSide) stop))
table RightSide = on (keyword Then) (Start ∷ ThenPart ∷ []) stop
table ThenPart = on (keyword Else) (to Start) stop
table Operand = at_name (λ n. to AfterOperand) (at_number (λ n. to AfterOperand) (on (sign Open) (call Group) stop))
table AfterOperand = on (sign Times) (to Operand) (on (sign Over) (to Operand) (on (sign Plus) (to Operand) (on (sign Minus) (to Operand) stop)))
table Group = on (sign Close) (to AfterOperand) stop

-- may the state return at a token that its rows do not have?
abbrev pub returns : State → Bool
returns Next = false
returns Start = true
returns Label = false
returns LetWord = false
returns LetName = false
returns GoWord = false
returns ToWord = false
returns ToName = true
returns OfWord = false
returns OfNames = true
returns OfComma = false
returns ReadWord = true
returns ReadNames = true
returns ReadComma = false
returns PrintWord = true
returns PrintList = true
returns LeftSide = false
returns RightSide = false
returns ThenPart = false
returns Operand = false
returns AfterOperand = true
returns Group = false

abbrev pub above : Rows (List State) → List State → Rows (List State) → Rows (List State)
above stop k z = z
above (on w s y) k z = on w (s ++ k) (above y k z)
above (at_name f y) k z = at_name (λ n. f n ++ k) (above y k z)
above (at_number f y) k z = at_number (λ n. f n ++ k) (above y k z)

-- the rows of a stack: those of its top, and, if the top may return, those of what is below
abbrev pub stack_rows : List State → Rows (List State)
stack_rows [] = stop
stack_rows (s ∷ k) = above (table s) k (cond (returns s) (stack_rows k) stop)

abbrev pub stack_step : List State → Token → Option (List State)
stack_step k t = choose (stack_rows k) t

abbrev pub outset : List State
outset = Start ∷ Next ∷ []

-- where the recogniser is after the tokens ts, if it has refused none
abbrev pub reach : List Token → Option (List State)
reach ts = go_on stack_rows (some outset) ts

abbrev pub accepting : Option (List State) → Bool
accepting none = false
accepting (some []) = true
accepting (some (s ∷ k)) = false

-- the index i, unless there is a stack to go on with
abbrev pub unless : ℕ → Option (List State) → (List State → Option ℕ) → Option ℕ
unless i none f = some i
unless i (some k) f = f k

-- the index of the token, or of the end, that is refused from the stack k and the index i on
abbrev pub refused_from : ℕ → List State → List Token → Option ℕ
refused_from i k [] = cond (accepting (some k)) none (some i)
refused_from i k (t ∷ ts) = unless i (stack_step k t) (λ j. refused_from (suc i) j ts)

-- where the first fault of the tokens stands, if they have one
abbrev pub first_fault : List Token → Option ℕ
first_fault ts = refused_from 0 outset ts
