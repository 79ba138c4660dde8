use Rattle.limits.proofs.Configs as th
use Rattle.limits.proofs.states_agree.Goals as goal

pub returns : goal.returns
returns c = record { role_by_state = th.role_by_state; shallow = th.shallow; nested = th.nested }
