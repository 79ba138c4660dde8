use Rattle.emission.proofs.Cells as th
use Rattle.emission.proofs.cells_are_known_at_use.Goals as goal

pub returns : goal.returns
returns c = record { known_cell = th.known_cell; next_cell = th.next_cell; below = th.below }
