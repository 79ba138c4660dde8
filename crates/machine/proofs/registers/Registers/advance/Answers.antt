use Rattle.std.proofs.Common.{◌<◌, ◌∙◌, arith}
use Rattle.runs.specs.Events.{world}
use Rattle.machine.proofs.Turns.{on_run, on_count, off_run, off_count}
use Rattle.machine.proofs.registers.Registers.advance.Goals as goal

pub returns-then-not-step-clause-state : goal.returns-then-not-step-clause-state
returns-then-not-step-clause-state g c =
    let W = world g.N.Arithmetic.words g.H.Host.weight in
    let more : c.loop-done.done < c.args.budget = omega arith in
    off_run W _ _ _ _ _ _ more c.step.ensures.state c.if-not-step.ensures.count ∙ c.loop-done.invariant.ends

pub returns-then-not-step-clause-count : goal.returns-then-not-step-clause-count
returns-then-not-step-clause-count g c =
    let W = world g.N.Arithmetic.words g.H.Host.weight in
    let more : c.loop-done.done < c.args.budget = omega arith in
    off_count W _ _ _ _ _ _ more c.step.ensures.state c.if-not-step.ensures.count ∙ c.loop-done.invariant.counts

pub loop-done-preserved : goal.loop-done-preserved
loop-done-preserved g c =
    let W = world g.N.Arithmetic.words g.H.Host.weight in
    let more : c.loop-done.done < c.args.budget = omega arith in
    record {
      kept = g.met.H.Host.along _ _ _ c.loop-done.invariant.kept c.step.ensures.kept;
      ends = on_run W _ _ _ _ _ _ more c.step.ensures.state ∙ c.loop-done.invariant.ends;
      counts = on_count W _ _ _ _ _ _ more c.step.ensures.state c.if-not-step.ensures.count ∙ c.loop-done.invariant.counts;
    }
