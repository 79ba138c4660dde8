use Rattle.runs.proofs.steps_may_be_cut.Goals as goal
use Rattle.runs.proofs.Cut.{steps_may_be_cut_lem}

pub returns : goal.returns
returns c = steps_may_be_cut_lem
