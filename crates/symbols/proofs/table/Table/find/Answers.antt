use Rattle.std.proofs.Common.{◌<◌, ◌≤◌, true, false, length, take, Some, subst, arith, rules, get_or-take}
use Rattle.std.specs.Fn.{FnReturnsAt}
use Rattle.std.proofs.lemmas.Iterator.{IsFirst-from_position, YieldsList-from_slice}
use Rattle.std.proofs.lemmas.List.{length-take-le}
use Rattle.symbols.specs.Entries.{Symbol, blank}
use Rattle.symbols.specs.Table.{size}
use Rattle.symbols.proofs.table.Table.find.Goals as goal

pub returns : goal.returns
returns g c =
    let xs = c.args.self.now.symbols.now in
    let i = c.in_ok-index.index in
    let first = IsFirst-from_position _ _ (Some i) (λ y. FnReturnsAt g.F.Fn c.args.test y true) (λ y. FnReturnsAt g.F.Fn c.args.test y false) c.in_ok-index.ensures.ran
    (YieldsList-from_slice (take c.len.result xs) c.iter.ensures.rest) (λ x q e. search rules) (λ x q e. search rules) in
    let room : size c.args.self.now ≤ length xs = c.args.self.now.within in
    let low : i < size c.args.self.now = omega (arith, first.0, c.len.ensures, length-take-le c.len.result xs (omega (arith, c.len.ensures))) in (
      low,
      subst (λ (y : Symbol). FnReturnsAt g.F.Fn c.args.test y true) (get_or-take c.len.result xs i blank (omega (arith, low, c.len.ensures))) (first.1 blank),
      λ k l. subst (λ (y : Symbol). FnReturnsAt g.F.Fn c.args.test y false) (get_or-take c.len.result xs k blank (omega (arith, low, l, c.len.ensures))) (first.2 k blank (omega arith) l),
    )
