use Rattle.runs.proofs.whole_run_exactly_when.Goals as goal
use Rattle.runs.proofs.Close.{whole_run_exactly_when_lem}

pub returns : goal.returns
returns c = whole_run_exactly_when_lem
