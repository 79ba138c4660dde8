use Rattle.std.proofs.Common.{◌*ℤ◌, arith, w64, SFits, rules}
use Rattle.std.proofs.lemmas.Int.{ints, to_z-of_z}
use Rattle.arithmetic.proofs.operations.product.Goals as goal

pub returns : goal.returns
returns g c =
    let x = c.ranges.a in
    let y = c.ranges.b in
    let a : SFits w64 c.args.a = omega (arith, ints) in
    let b : SFits w64 c.args.b = omega (arith, ints) in
    let p : SFits w64 (c.args.a *ℤ c.args.b) = search rules in
    grind (arith, to_z-of_z)
