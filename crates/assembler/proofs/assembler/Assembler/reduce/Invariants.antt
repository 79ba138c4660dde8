use Rattle.std.proofs.Common.{◌≡◌, length}
use Rattle.stack.specs.Entries.{entries}
use Rattle.assembly.specs.Plans.{reduced}
use Rattle.assembler.specs.Views.{plan, Keeps}
use Rattle.assembler.proofs.assembler.Assembler.reduce.Given as goal

abbrev pub invariant-operators : goal.invariant-operators
invariant-operators l = (reduced l.all (plan l.self) ≡ reduced l.all (plan l.initial.self)) × Keeps l.initial.self l.self

abbrev pub decreases-operators : goal.decreases-operators
decreases-operators l = length (entries l.self.operators)
