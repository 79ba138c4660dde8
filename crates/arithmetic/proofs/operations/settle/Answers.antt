use Rattle.std.proofs.Common.{◌∙◌, arith}
use Rattle.std.proofs.lemmas.Int.{ints, to_z-of_z}
use Rattle.arithmetic.proofs.operations.settle.Goals as goal

-- between the bounds a number is fitted to itself
pub returns-then-exact-HIGHEST : goal.returns-then-exact-HIGHEST
returns-then-exact-HIGHEST g c =
    let met = g.met.N.Arithmetic in
    let l = c.LOWEST.ensures ∙ met.bounds.0 in
    let h = c.HIGHEST.ensures ∙ met.bounds.1 in
    grind (arith, ints, to_z-of_z, met.lawful.same)
