use Rattle.grammar.proofs.Theorems as th
use Rattle.grammar.proofs.recogniser_is_viable.Goals as goal

pub returns : goal.returns
returns c = record { goes_on = th.goes_on; refuses = th.refuses; stays = th.stays }
