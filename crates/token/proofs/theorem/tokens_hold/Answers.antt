use Rattle.token.proofs.Readings.{tokens_exact}
use Rattle.token.proofs.theorem.tokens_hold.Goals as goal

pub returns : goal.returns
returns c = tokens_exact
