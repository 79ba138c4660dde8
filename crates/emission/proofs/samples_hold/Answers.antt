use Rattle.std.proofs.Common.{rules}
use Rattle.token.specs.Lexis.{tokens_from}
use Rattle.emission.specs.Draft.{patch}
use Rattle.emission.proofs.samples_hold.Goals as goal

pub returns : goal.returns
unfolding tokens_from patch
returns c = search rules
