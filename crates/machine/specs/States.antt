-- The state of a machine whose registers, cells and host are apart.
use Rattle.std.specs.Prelude.{List, ℤ}
use Rattle.host.specs.Meaning.{Meaning}
use Rattle.runs.specs.Machine.{State, state}
use Rattle.machine.specs.declared.registers.Registers.{Registers}

abbrev pub whole : Registers → List ℤ → Meaning → State
whole r s h = state r.address r.accumulator s h r.status
