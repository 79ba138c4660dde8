use Rattle.reading.proofs.Placing.{placed}
use Rattle.reading.proofs.labels_are_placed.Goals as goal

pub returns : goal.returns
returns c = placed
