use Rattle.std.proofs.Common.{rules}
use Rattle.runs.proofs.Thrice.{thrice_placed, thrice_ready}
use Rattle.runs.proofs.samples_hold.Goals as goal

pub returns : goal.returns
returns c = search (rules, thrice_placed, thrice_ready)
