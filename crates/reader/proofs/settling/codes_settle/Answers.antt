use Rattle.reader.proofs.Settled.{settles}
use Rattle.reader.proofs.settling.codes_settle.Goals as goal

pub returns : goal.returns
returns c = settles
