use Rattle.std.proofs.Common.{arith}
use Rattle.reader.proofs.Settled.{settled_more}
use Rattle.reader.proofs.settling.settle.Goals as goal

pub words-preserved : goal.words-preserved
words-preserved c =
    settled_more c.args.table.now c.args.code.now c.words.code c.words.index c.settled.result (omega arith) c.words.auto.code c.words.invariant c.settled.ensures
