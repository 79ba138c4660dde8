use Rattle.limits.proofs.Passing as th
use Rattle.limits.proofs.one_pass_suffices.Goals as goal

pub returns : goal.returns
returns c = th.one_pass
