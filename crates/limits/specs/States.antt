-- The recogniser's states and the limits: what a name is, by the state that it comes at.
use Rattle.grammar.specs.declared.state.State.{State}
use Rattle.grammar.specs.declared.state.State.TheVariants.{Next, Start, Label, LetWord, LetName, GoWord, ToWord, ToName, OfWord, OfNames, OfComma, ReadWord, ReadNames, ReadComma, PrintWord, PrintList, LeftSide, RightSide, ThenPart, Operand, AfterOperand, Group}
use Rattle.std.specs.Prelude.{Bool, cond}
use Rattle.limits.specs.Uses.{Role, definition, target, listed, variable_use}

-- the role of a name that comes at a state, where `of-next` says whether OF follows it
abbrev pub state_role : State → Bool → Role
state_role Next of-next = variable_use
state_role Start of-next = definition
state_role Label of-next = variable_use
state_role LetWord of-next = variable_use
state_role LetName of-next = variable_use
state_role GoWord of-next = variable_use
state_role ToWord of-next = cond of-next variable_use target
state_role ToName of-next = variable_use
state_role OfWord of-next = listed
state_role OfNames of-next = variable_use
state_role OfComma of-next = listed
state_role ReadWord of-next = variable_use
state_role ReadNames of-next = variable_use
state_role ReadComma of-next = variable_use
state_role PrintWord of-next = variable_use
state_role PrintList of-next = variable_use
state_role LeftSide of-next = variable_use
state_role RightSide of-next = variable_use
state_role ThenPart of-next = variable_use
state_role Operand of-next = variable_use
state_role AfterOperand of-next = variable_use
state_role Group of-next = variable_use
