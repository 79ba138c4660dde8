use Rattle.std.proofs.Common.{◌≡◌, false, ℤ, pos, negsuc, refl, arith, w32, w64, SFits, of_z}
use Rattle.std.proofs.lemmas.Bool.Decides.{nat_tests}
use Rattle.std.proofs.lemmas.Int.{ints, to_z-of_z}
use Rattle.arithmetic.specs.Words.{is_zero}
use Rattle.arithmetic.specs.Wraps.{quot_fits}
use Rattle.arithmetic.proofs.operations.quotient.Goals as goal

not_zero : (b : ℤ) → (of_z w32 b ≡ 0 → ⊥) → is_zero b ≡ false
not_zero (pos n) h = grind (arith, nat_tests)
not_zero (negsuc n) h = refl

pub returns : goal.returns
returns g c =
    let x = c.ranges.a in
    let y = c.ranges.b in
    let a : SFits w64 c.args.a = omega (arith, ints) in
    let b : SFits w64 c.args.b = omega (arith, ints) in
    let p = quot_fits c.args.a c.args.b x in
    let z = not_zero c.args.b c.if-b-eq0.false in
    grind (arith, to_z-of_z)
