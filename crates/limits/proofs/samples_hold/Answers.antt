use Rattle.std.proofs.Common.{rules}
use Rattle.token.specs.Lexis.{tokens_from}
use Rattle.limits.proofs.samples_hold.Goals as goal

pub returns : goal.returns
unfolding tokens_from
returns c = search rules
