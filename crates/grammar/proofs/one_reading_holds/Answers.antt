use Rattle.grammar.proofs.Theorems as th
use Rattle.grammar.proofs.one_reading_holds.Goals as goal

pub returns : goal.returns
returns c = th.one_reading
