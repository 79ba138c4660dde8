use Rattle.lines.proofs.Checks.{Read}
use Rattle.lines.proofs.check.Given as goal

abbrev pub invariant-loop-i : goal.invariant-loop-i
invariant-loop-i l = Read l.text l.i l.stage l.count
