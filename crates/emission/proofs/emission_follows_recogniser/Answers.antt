use Rattle.emission.proofs.Controls as th
use Rattle.emission.proofs.Waits as w
use Rattle.emission.proofs.emission_follows_recogniser.Goals as goal

pub returns : goal.returns
returns c = record { step = th.control_step; text = th.control_reach; current = w.text_shown }
