use Rattle.sheets.proofs.Answering as proved
use Rattle.sheets.proofs.one_image.Goals as goal

pub returns : goal.returns
returns c = proved.one_image_lem
