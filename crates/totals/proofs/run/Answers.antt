use Rattle.std.proofs.Common.{◌≡◌, arith, w32, to_z, of_z, rules}
use Rattle.totals.specs.Running.{plus}
use Rattle.totals.proofs.Turns.{next, stopped}
use Rattle.totals.proofs.run.Goals as goal
use Rattle.totals.proofs.run.Goals.{After-print_line}
use Rattle.totals.proofs.run.Given.{Over}

-- the word that is printed is the total with the line
word : (g : Over) (c : After-print_line g) → to_z w32 (of_z w32 c.sum.result) ≡ plus g.N.Arithmetic.words c.loop.totals.total c.in-Some.line
word g c = search rules

pub loop-preserved : goal.loop-preserved
loop-preserved g c =
    let d = (goal.at.loop-preserved g c).After-print_line in
    let along = g.met.H.Host.along in
    record {
      kept = along _ _ _ c.loop.invariant.kept (along _ _ _ c.in-Some.ensures.kept c.print_line.ensures.kept);
      so_far = next _ _ _ _ _ _ _ c.loop.invariant.so_far _ c.in-Some.ensures.line c.loop-test.true _ _ (g.H.Host.meaning c.print_line.new.host) (word g d) c.in-Some.ensures.after (search rules) (search rules);
      lines = omega arith;
      complete = c.loop.invariant.complete;
    }

pub returns-then-is_err-clause-tallied : goal.returns-then-is_err-clause-tallied
returns-then-is_err-clause-tallied g c =
    let d = (goal.at.returns-then-is_err-clause-tallied g c).After-print_line in
    stopped _ _ _ _ _ _ _ c.loop.invariant.so_far _ c.in-Some.ensures.line c.loop-test.true _ _ (g.H.Host.meaning c.print_line.new.host) (word g d) c.in-Some.ensures.after (search rules) _ (omega arith) (search rules)

pub returns-then-is_err-clause-kept : goal.returns-then-is_err-clause-kept
returns-then-is_err-clause-kept g c =
    let along = g.met.H.Host.along in
    along _ _ _ c.loop.invariant.kept (along _ _ _ c.in-Some.ensures.kept c.print_line.ensures.kept)
