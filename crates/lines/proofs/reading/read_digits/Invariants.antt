use Rattle.lines.proofs.Steps.{Within}
use Rattle.lines.proofs.reading.read_digits.Given as goal

abbrev pub invariant-loop-i : goal.invariant-loop-i
invariant-loop-i l = Within l.lines l.i l.value
