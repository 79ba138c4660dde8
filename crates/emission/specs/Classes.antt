-- The classes of tokens that the table tells apart, and its moves as the code has them.
use Rattle.token.specs.declared.kinds.Keyword.TheVariants as keyword_of
use Rattle.token.specs.declared.kinds.Sign.TheVariants as sign_of
use Rattle.std.specs.Prelude.{ℕ, ◌+◌, List, [], ◌∷◌, reverse, Some, None, codes, Option, slice_index_or}
use Rattle.token.specs.Tokens.{Token, name, number, keyword, sign, other}
use Rattle.grammar.specs.Tests.{keyword_code, sign_code}
use Rattle.trees.specs.declared.operator.Operator.TheVariants as operator
use Rattle.trees.specs.declared.relation.Relation.TheVariants as relation
use Rattle.emission.specs.declared.moves.Move.TheVariants as code
use Rattle.emission.specs.declared.moves.Move.{Move as Coded}
use Rattle.emission.specs.declared.action.Action.TheVariants as action
use Rattle.emission.specs.declared.state.State.TheVariants as state
use Rattle.emission.specs.Table.{State, to, call, call_two, leaves, Move, refuse, leave, enter, move}

abbrev pub meaning : Coded → Move
meaning code.Refuse = refuse
meaning (code.Leave a) = leave a
meaning (code.Take a ss) = enter (record { action = a; states = reverse ss.now })

-- names, numbers, each keyword, each sign, and any other byte
abbrev pub class : Token → ℕ
class (name n) = 0
class (number n) = 1
class (keyword k) = 2 + keyword_code k
class (sign s) = 12 + sign_code s
class (other b) = 25

-- the end of a text counts as 25 too, which no state takes
abbrev pub class_or_end : Option Token → ℕ
class_or_end None = 25
class_or_end (Some t) = class t

-- a token of each class
abbrev pub samples : List Token
samples =
    name [] ∷ number [] ∷ keyword keyword_of.End ∷ keyword keyword_of.Let ∷ keyword keyword_of.Go ∷ keyword keyword_of.To ∷ keyword keyword_of.Of ∷ keyword keyword_of.Read ∷ keyword keyword_of.Print ∷ keyword keyword_of.If ∷ keyword keyword_of.Then ∷ keyword keyword_of.Else ∷
    sign sign_of.Semicolon ∷ sign sign_of.Colon ∷ sign sign_of.Becomes ∷ sign sign_of.Plus ∷ sign sign_of.Minus ∷ sign sign_of.Times ∷ sign sign_of.Over ∷ sign sign_of.Open ∷ sign sign_of.Close ∷ sign sign_of.Comma ∷ sign sign_of.Greater ∷ sign sign_of.Equal ∷ sign sign_of.Less ∷ []

abbrev pub class_move : State → ℕ → Move
class_move s c = move s (slice_index_or samples c (other 0))

-- The table by letters.

abbrev pub state_number : State → ℕ
state_number state.Next = 0
state_number state.Start = 1
state_number state.Label = 2
state_number state.LetWord = 3
state_number state.LetName = 4
state_number state.LetEnd = 5
state_number state.GoWord = 6
state_number state.ToWord = 7
state_number state.ToName = 8
state_number state.OfWord = 9
state_number state.OfNames = 10
state_number state.OfComma = 11
state_number state.ReadWord = 12
state_number state.ReadNames = 13
state_number state.ReadComma = 14
state_number state.PrintWord = 15
state_number state.PrintList = 16
state_number state.LeftSide = 17
state_number state.RightSide = 18
state_number state.ThenPart = 19
state_number state.ElsePart = 20
state_number state.Operand = 21
state_number state.AfterOperand = 22
state_number state.Group = 23

-- each move that the table has, once; the first has the letter 46, which is ".", the next 47, and so on
abbrev pub all_moves : List Move
all_moves =
    refuse ∷
    leave action.Nothing ∷
    leave action.StoreTarget ∷
    leave action.JumpToName ∷
    leave action.SkipLine ∷
    leave action.EndLine ∷
    leave action.PrintValue ∷
    leave action.EndElse ∷
    leave action.EndExpression ∷
    enter (leaves action.EndProgram) ∷
    enter (call action.Nothing state.Start state.Next) ∷
    enter (to action.DefineLabel state.Label) ∷
    enter (to action.Nothing state.LetWord) ∷
    enter (to action.Nothing state.GoWord) ∷
    enter (to action.Nothing state.ReadWord) ∷
    enter (to action.Nothing state.PrintWord) ∷
    enter (call action.Nothing state.Operand state.LeftSide) ∷
    enter (to action.Nothing state.Start) ∷
    enter (to action.SetTarget state.LetName) ∷
    enter (call action.Nothing state.Operand state.LetEnd) ∷
    enter (to action.Nothing state.ToWord) ∷
    enter (to action.KeepName state.ToName) ∷
    enter (to action.LoadName state.OfWord) ∷
    enter (to action.FirstLabel state.OfNames) ∷
    enter (to action.Nothing state.OfComma) ∷
    enter (to action.FurtherLabel state.OfNames) ∷
    enter (to action.ReadName state.ReadNames) ∷
    enter (to action.Nothing state.ReadComma) ∷
    enter (call action.PushVariable state.AfterOperand state.PrintList) ∷
    enter (call action.PushNumber state.AfterOperand state.PrintList) ∷
    enter (call_two action.OpenGroup state.Operand state.Group state.PrintList) ∷
    enter (call action.PrintValue state.Operand state.PrintList) ∷
    enter (call (action.Compare relation.Greater) state.Operand state.RightSide) ∷
    enter (call (action.Compare relation.Equal) state.Operand state.RightSide) ∷
    enter (call (action.Compare relation.Less) state.Operand state.RightSide) ∷
    enter (call action.BeginThen state.Start state.ThenPart) ∷
    enter (call action.BeginElse state.Start state.ElsePart) ∷
    enter (to action.PushVariable state.AfterOperand) ∷
    enter (to action.PushNumber state.AfterOperand) ∷
    enter (call action.OpenGroup state.Operand state.Group) ∷
    enter (to (action.Operate operator.Plus) state.Operand) ∷
    enter (to (action.Operate operator.Minus) state.Operand) ∷
    enter (to (action.Operate operator.Times) state.Operand) ∷
    enter (to (action.Operate operator.Over) state.Operand) ∷
    enter (to action.CloseGroup state.AfterOperand) ∷ []

-- a row for each state, in it the letter of a move for each class
unfoldable pub letters : List (List ℕ)
letters =
    codes "..7.........8............." ∷
    codes "9//:;//<=>////////////////" ∷
    codes ".............?............" ∷
    codes "@........................." ∷
    codes "..............A..........." ∷
    codes "00000000000000000000000000" ∷
    codes ".....B...................." ∷
    codes "C........................." ∷
    codes "111111D1111111111111111111" ∷
    codes "E........................." ∷
    codes "/////////////////////F////" ∷
    codes "G........................." ∷
    codes "H2222222222222222222222222" ∷
    codes "/////////////////////I////" ∷
    codes "H........................." ∷
    codes "JK33333333333333333L333333" ∷
    codes "444444444444444444444M4444" ∷
    codes "......................NOP." ∷
    codes "..........Q..............." ∷
    codes "...........R.............." ∷
    codes "55555555555555555555555555" ∷
    codes "ST.................U......" ∷
    codes "666666666666666VWXY6666666" ∷
    codes "....................Z....." ∷ []
