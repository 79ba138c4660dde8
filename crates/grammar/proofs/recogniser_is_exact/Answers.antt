use Rattle.grammar.proofs.Theorems as th
use Rattle.grammar.proofs.recogniser_is_exact.Goals as goal

pub returns : goal.returns
returns c = record { sound = th.accepts_sound; complete = th.accepts_complete }
