use Rattle.reading.proofs.Resolving.{resolves}
use Rattle.reading.proofs.words_resolve.Goals as goal

pub returns : goal.returns
returns c = resolves
