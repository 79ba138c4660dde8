use Rattle.std.proofs.Common.{◌≡◌, ◌+◌, ◌-◌, ◌%◌, ◌++◌, drop, sym, ap, ◌∙◌, arith, length-set}
use Rattle.decimal.specs.Digits.{last_digits}
use Rattle.decimal.proofs.Writes.{turn}
use Rattle.decimal.proofs.write_digits.Goals as goal

pub loop-place-preserved : goal.loop-place-preserved
loop-place-preserved c =
    let l = c.loop-place in (
      omega (arith, l.invariant.0, length-set l.out (l.place - 1) (48 + l.n % 10)),
      sym (turn l.out l.place l.n (omega arith) l.invariant.0) ∙ l.invariant.1,
    )

pub returns : goal.returns
unfolding last_digits
returns c =
    let l = c.loop-place in
    let z : l.place ≡ 0 = omega arith in
    sym (ap (λ p. last_digits p l.n ++ drop p l.out) z) ∙ l.invariant.1
