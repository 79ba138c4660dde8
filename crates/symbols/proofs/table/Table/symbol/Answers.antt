use Rattle.std.proofs.Common.{arith}
use Rattle.std.proofs.lemmas.Grind.{common_steps}
use Rattle.symbols.specs.Table.{EntryRead}
use Rattle.symbols.proofs.Reading.{described}
use Rattle.symbols.proofs.table.Table.symbol.Goals as goal

pub returns : goal.returns
returns c =
    let read : EntryRead c.args.self.now c.args.index c.copied.result = grind (arith, common_steps) in
    record { entry = read; describes = λ w seen u h i e. described w c.args.self.now seen h u i c.args.index e c.copied.result read }
