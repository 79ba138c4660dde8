use Rattle.emission.proofs.Stepping as th
use Rattle.emission.proofs.Tables.{by_class}
use Rattle.emission.proofs.entries_decide.Goals as goal

pub returns : goal.returns
returns c = record { refused = th.refused; left = th.left; entered = th.entered; ended = th.ended; by_class = by_class }
