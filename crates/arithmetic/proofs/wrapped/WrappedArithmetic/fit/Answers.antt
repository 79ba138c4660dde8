use Rattle.std.proofs.Common.{arith, w64, SFits, rules}
use Rattle.std.proofs.lemmas.Nat.{and_mask}
use Rattle.std.proofs.lemmas.Int.{to_z-of_z}
use Rattle.arithmetic.specs.Wraps.{low_bits}
use Rattle.arithmetic.proofs.wrapped.WrappedArithmetic.fit.Goals as goal

pub returns : goal.returns
returns c =
    let f : SFits w64 c.args.n = search rules in
    grind (arith, to_z-of_z, and_mask c.cast_unsigned.result 32, low_bits c.args.n f)
