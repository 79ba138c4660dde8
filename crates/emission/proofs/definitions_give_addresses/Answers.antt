use Rattle.emission.proofs.Labels as th
use Rattle.emission.proofs.definitions_give_addresses.Goals as goal

pub returns : goal.returns
returns c = record { first = th.first; stays = th.stays; undefined = th.undefined; defined = th.defined }
