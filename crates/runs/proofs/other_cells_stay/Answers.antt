use Rattle.runs.proofs.other_cells_stay.Goals as goal
use Rattle.runs.proofs.Stands.{other_cells_stay_lem}

pub returns : goal.returns
returns c = other_cells_stay_lem
