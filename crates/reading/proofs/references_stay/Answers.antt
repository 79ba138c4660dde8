use Rattle.reading.proofs.Staying.{stays}
use Rattle.reading.proofs.references_stay.Goals as goal

pub returns : goal.returns
returns c = stays
