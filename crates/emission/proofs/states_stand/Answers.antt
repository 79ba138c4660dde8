use Rattle.emission.proofs.Standing as th
use Rattle.emission.proofs.states_stand.Goals as goal

pub returns : goal.returns
returns c = record { below = th.text_below; nested = th.text_nested; no_name = th.no_name; no_number = th.no_number; no_other = th.no_other; further = th.further }
