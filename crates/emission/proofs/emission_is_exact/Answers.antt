use Rattle.emission.proofs.Programs as th
use Rattle.emission.proofs.emission_is_exact.Goals as goal

pub returns : goal.returns
returns c = record { sound = th.sound; complete = th.complete }
