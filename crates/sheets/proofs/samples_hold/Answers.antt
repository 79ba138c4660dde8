use Rattle.std.proofs.Common.{rules}
use Rattle.std.specs.Int.{int_wrap}
use Rattle.token.specs.Lexis.{tokens_from}
use Rattle.sheets.proofs.samples_hold.Goals as goal

pub returns : goal.returns
unfolding int_wrap tokens_from
returns c = search rules
