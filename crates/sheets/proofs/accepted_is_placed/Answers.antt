use Rattle.sheets.proofs.Placing as proved
use Rattle.sheets.proofs.accepted_is_placed.Goals as goal

pub returns : goal.returns
returns c = proved.accepted_is_placed_lem
