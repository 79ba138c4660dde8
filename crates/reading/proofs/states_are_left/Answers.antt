use Rattle.reading.proofs.Leaving.{leaves}
use Rattle.reading.proofs.states_are_left.Goals as goal

pub returns : goal.returns
returns c = leaves
