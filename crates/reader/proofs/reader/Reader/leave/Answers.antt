use Rattle.std.proofs.Common.{◌≡◌, reverse, sym, ap, ◌∙◌, rules}
use Rattle.emission.specs.Classes.{meaning}
use Rattle.reading.specs.Steps.{Found}
use Rattle.reader.specs.Views.{plan, rooms, returns}
use Rattle.reader.proofs.Leaving.{left, taken, fewer}
use Rattle.reader.proofs.reader.Reader.leave.Goals as goal

pub states-smaller : goal.states-smaller
states-smaller c = fewer (rooms c.states.self) c.args.class (returns c.states.self) _ c.in-Some.top (plan c.states.self) c.in-Some.ensures.cases

pub states-preserved : goal.states-preserved
states-preserved c =
    let s = c.states.self in
    let k = c.perform.ensures.kept in
    let same : rooms (record { assembler = c.perform.new.self; returns = c.pop.new.self; counts = s.counts }) ≡ rooms s = λ i. record { marks = k.operators_room i; cells = k.operands_room i } in (
      left (rooms s) c.args.class (returns s) _ c.in-Some.top (plan s) c.in-Some.ensures.cases _ _ c.in-Leave.action same (sym c.in-Leave.ensures) c.perform.ensures.after ∙ c.states.invariant.0,
      c.states.invariant.1,
      search rules,
    )

pub returns-in-Take : goal.returns-in-Take
returns-in-Take c =
    let s = c.states.self in
    let f = sym c.states.invariant.0 ∙ taken (rooms s) c.args.class (returns s) _ c.in-Some.top (plan s) c.in-Some.ensures.cases (record { action = c.in-Take.action; states = reverse c.in-Take.states.now }) (sym c.entry.ensures ∙ ap meaning c.in-Take.is) in
    record {
      answer = ap (λ (x : Found). x.taken) f;
      below = sym (ap (λ (x : Found). x.below) f);
      plan = sym (ap (λ (x : Found). x.plan) f);
      counts = c.states.invariant.1;
      kept = search rules;
    }
