use Rattle.sheets.proofs.Spelling as proved
use Rattle.sheets.proofs.symbols_stand.Goals as goal

pub returns : goal.returns
returns c = proved.symbols_stand_lem
