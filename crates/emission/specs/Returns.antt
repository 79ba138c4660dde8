-- The states that stand below others on the stack, to be returned to.
use Rattle.std.specs.Prelude.{◌≡◌, Bool, true, false, List, [], ◌∷◌}
use Rattle.emission.specs.Table.{State, Next, Start, Label, LetWord, LetName, LetEnd, GoWord, ToWord, ToName, OfWord, OfNames, OfComma, ReadWord, ReadNames, ReadComma, PrintWord, PrintList, LeftSide, RightSide, ThenPart, ElsePart, Operand, AfterOperand, Group, Return}

abbrev pub comes_back : State → Bool
comes_back Next = true
comes_back Start = false
comes_back Label = false
comes_back LetWord = false
comes_back LetName = false
comes_back LetEnd = true
comes_back GoWord = false
comes_back ToWord = false
comes_back ToName = false
comes_back OfWord = false
comes_back OfNames = false
comes_back OfComma = false
comes_back ReadWord = false
comes_back ReadNames = false
comes_back ReadComma = false
comes_back PrintWord = false
comes_back PrintList = true
comes_back LeftSide = true
comes_back RightSide = true
comes_back ThenPart = true
comes_back ElsePart = true
comes_back Operand = false
comes_back AfterOperand = false
comes_back Group = true

-- only such states are on the stack
abbrev pub AllBelow : List Return → Type 0
AllBelow [] = Unit {0}
AllBelow (r ∷ k) = (comes_back r.state ≡ true) × AllBelow k
