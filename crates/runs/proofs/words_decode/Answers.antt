use Rattle.runs.proofs.words_decode.Goals as goal
use Rattle.runs.proofs.Sound.{words_decode_lem}

pub returns : goal.returns
returns c = words_decode_lem
