use Rattle.emission.proofs.Sizes.{patch_length}
use Rattle.emission.proofs.Grows.{at_newest, at_older, at_within}
use Rattle.emission.proofs.Places as th
use Rattle.emission.proofs.words_have_addresses.Goals as goal

pub returns : goal.returns
returns c = record {
  newest = at_newest;
  older = at_older;
  beyond = th.beyond;
  inside = at_within;
  patched = th.patched;
  others = th.others;
  as_many = patch_length;
  in_place = th.in_place;
}
