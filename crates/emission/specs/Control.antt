-- The translator's states as the recogniser's: the two that only return leave no trace.
use Rattle.grammar.specs.declared.state.State.{State as Recognised}
use Rattle.grammar.specs.declared.state.State.TheVariants as recognised
use Rattle.std.specs.Prelude.{List, [], ◌∷◌, ◌++◌}
use Rattle.emission.specs.Table.{State, Next, Start, Label, LetWord, LetName, LetEnd, GoWord, ToWord, ToName, OfWord, OfNames, OfComma, ReadWord, ReadNames, ReadComma, PrintWord, PrintList, LeftSide, RightSide, ThenPart, ElsePart, Operand, AfterOperand, Group, Return, Translator}

abbrev pub control_of : State → List Recognised
control_of Next = recognised.Next ∷ []
control_of Start = recognised.Start ∷ []
control_of Label = recognised.Label ∷ []
control_of LetWord = recognised.LetWord ∷ []
control_of LetName = recognised.LetName ∷ []
control_of LetEnd = []
control_of GoWord = recognised.GoWord ∷ []
control_of ToWord = recognised.ToWord ∷ []
control_of ToName = recognised.ToName ∷ []
control_of OfWord = recognised.OfWord ∷ []
control_of OfNames = recognised.OfNames ∷ []
control_of OfComma = recognised.OfComma ∷ []
control_of ReadWord = recognised.ReadWord ∷ []
control_of ReadNames = recognised.ReadNames ∷ []
control_of ReadComma = recognised.ReadComma ∷ []
control_of PrintWord = recognised.PrintWord ∷ []
control_of PrintList = recognised.PrintList ∷ []
control_of LeftSide = recognised.LeftSide ∷ []
control_of RightSide = recognised.RightSide ∷ []
control_of ThenPart = recognised.ThenPart ∷ []
control_of ElsePart = []
control_of Operand = recognised.Operand ∷ []
control_of AfterOperand = recognised.AfterOperand ∷ []
control_of Group = recognised.Group ∷ []

abbrev pub control : List Return → List Recognised
control [] = []
control (r ∷ k) = control_of r.state ++ control k

abbrev pub control_in : Translator → List Recognised
control_in x = control x.stack
