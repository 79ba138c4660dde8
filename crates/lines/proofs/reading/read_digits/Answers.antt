use Rattle.std.proofs.Common.{arith}
use Rattle.lines.proofs.Steps.{bounds_here, short_here}
use Rattle.lines.proofs.reading.read_digits.Goals as goal

pub returns-then-byte-eq10-clause-short : goal.returns-then-byte-eq10-clause-short
returns-then-byte-eq10-clause-short c = short_here _ _ _ c.loop-i.invariant

pub overflow_mul-value : goal.overflow_mul-value
overflow_mul-value c =
    let b = bounds_here c.args.lines.now c.loop-i.i c.loop-i.value c.loop-i.invariant c.if-byte-eq10.false in
    omega (arith, b.2)

pub overflow_add-value : goal.overflow_add-value
overflow_add-value c =
    let b = bounds_here c.args.lines.now c.loop-i.i c.loop-i.value c.loop-i.invariant c.if-byte-eq10.false in
    omega (arith, b.1, b.2)
