use Rattle.emission.proofs.Grows as th
use Rattle.emission.proofs.Waits as w
use Rattle.emission.proofs.emission_is_stable.Goals as goal

pub returns : goal.returns
returns c = record { step = th.step_later; text = th.text_later; waits = w.text_waits }
