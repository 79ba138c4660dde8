use Rattle.runs.proofs.code_is_sound.Goals as goal
use Rattle.runs.proofs.Stands.{code_is_sound_lem}

pub returns : goal.returns
returns c = code_is_sound_lem
