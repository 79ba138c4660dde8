use Rattle.sheets.proofs.Agreeing as proved
use Rattle.sheets.proofs.sheet_runs_agree.Goals as goal

pub returns : goal.returns
returns c = proved.sheet_runs_agree_lem
