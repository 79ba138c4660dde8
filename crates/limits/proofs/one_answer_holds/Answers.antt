use Rattle.limits.proofs.Answer as th
use Rattle.limits.proofs.one_answer_holds.Goals as goal

pub returns : goal.returns
returns c = record { some_refusal = th.some_refusal; refusal_some = th.refusal_some; none_accepted = th.none_accepted; accepted_none = th.accepted_none }
