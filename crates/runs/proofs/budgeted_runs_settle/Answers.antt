use Rattle.runs.proofs.budgeted_runs_settle.Goals as goal
use Rattle.runs.proofs.Whole.{budgeted_runs_settle_lem}

pub returns : goal.returns
returns c = budgeted_runs_settle_lem
