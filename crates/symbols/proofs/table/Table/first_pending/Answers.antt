use Rattle.std.proofs.Common.{ap, ◌∙◌}
use Rattle.symbols.specs.Table.{refused_12}
use Rattle.symbols.proofs.Reading.{none_pending, some_pending}
use Rattle.symbols.proofs.table.Table.first_pending.Goals as goal

pub returns-in_err-index : goal.returns-in_err-index
returns-in_err-index c = λ w seen h. ap refused_12 c.from_residual.ensures ∙ none_pending w c.args.self.now seen h c.in_err-index.ensures

pub returns : goal.returns
returns c = λ w seen h. (let f = c.in_ok-index.ensures in some_pending w c.args.self.now seen h c.in_ok-index.index f.0 f.1 f.2)
