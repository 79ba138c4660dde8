use Rattle.limits.proofs.Table as th
use Rattle.limits.proofs.table_is_exact.Goals as goal

pub returns : goal.returns
returns c = record { sound = th.sound; complete = th.complete }
