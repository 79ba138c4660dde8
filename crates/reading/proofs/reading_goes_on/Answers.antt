use Rattle.reading.proofs.Onward.{onward}
use Rattle.reading.proofs.reading_goes_on.Goals as goal

pub returns : goal.returns
returns c = onward
