use Rattle.reader.proofs.Settled.{in_use}
use Rattle.reader.proofs.settling.symbols_in_use_settle.Goals as goal

pub returns : goal.returns
returns c = in_use
