use Rattle.reading.proofs.Ending.{ends}
use Rattle.reading.proofs.ends_are_told.Goals as goal

pub returns : goal.returns
returns c = ends
