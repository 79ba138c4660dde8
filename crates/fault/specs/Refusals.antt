-- The refusals by their numbers, and the form in which a fault is shown.
use Rattle.std.specs.Prelude.{ℕ, List, ◌++◌, codes, decimal}
use Rattle.fault.specs.declared.Fault.{Fault}
pub use Rattle.fault.specs.declared.Refusal.{Refusal}
pub use Rattle.fault.specs.declared.Refusal.TheVariants.{ShortMemory, LongText, NoProgram, LongName, DuplicateLabel, MixedKind, TooManyCells, TooManyLabels, TooManyOperators, TooDeep, TooManyTargets, MissingLabel, LongCode, NothingLoaded, BadBudget, RunClosed, BadLine, Corrupt, ShortOutput}

abbrev pub numbered : Refusal → ℕ
numbered ShortMemory = 1
numbered LongText = 2
numbered NoProgram = 3
numbered LongName = 4
numbered DuplicateLabel = 5
numbered MixedKind = 6
numbered TooManyCells = 7
numbered TooManyLabels = 8
numbered TooManyOperators = 9
numbered TooDeep = 10
numbered TooManyTargets = 11
numbered MissingLabel = 12
numbered LongCode = 13
numbered NothingLoaded = 14
numbered BadBudget = 15
numbered RunClosed = 16
numbered BadLine = 17
numbered Corrupt = 18
numbered ShortOutput = 19

-- a fault is shown as "(refused NUMBER PLACE)"
abbrev pub refused_form : Fault → List ℕ
refused_form f = codes "(refused " ++ (decimal (numbered f.refusal) ++ (codes " " ++ (decimal f.place ++ codes ")")))
