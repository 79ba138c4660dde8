use Rattle.limits.proofs.Scans as scans
use Rattle.limits.proofs.Fitting as fitting
use Rattle.limits.proofs.Naming as naming
use Rattle.limits.proofs.trees_are_within_limits.Goals as goal

pub returns : goal.returns
returns c = record {
  same_uses = scans.same_uses;
  in_tokens = naming.in_tokens;
  fits = fitting.fits;
  short_names = λ w ts p h d. naming.short_names ts p d w h;
  one_kind = λ w ts p h d. naming.one_kind ts p d w h;
  once = λ w ts p h d. naming.once ts p d w h;
  defined = λ ts p m d. naming.defined ts p d m;
}
