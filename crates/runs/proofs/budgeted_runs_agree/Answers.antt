use Rattle.runs.proofs.budgeted_runs_agree.Goals as goal
use Rattle.runs.proofs.Whole.{budgeted_runs_agree_lem}

pub returns : goal.returns
returns c = budgeted_runs_agree_lem
