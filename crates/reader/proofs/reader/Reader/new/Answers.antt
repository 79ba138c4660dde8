use Rattle.std.proofs.Common.{ap, ◌∙◌, drop, rules}
use Rattle.reader.proofs.Beginning.{beyond_two, begins}
use Rattle.reader.proofs.reader.Reader.new.Goals as goal

pub returns-clause-states_beyond : goal.returns-clause-states_beyond
returns-clause-states_beyond c =
    beyond_two c.new-returns.result c.push.new.self c.push-2.new.self _ _ _ _ c.new-returns.ensures.lent.1.1 c.push.ensures.kept c.push-2.ensures.kept c.push.ensures.after c.push-2.ensures.after
    ∙ ap (drop 2) c.new-returns.ensures.lent.1.0

pub returns-clause-begins : goal.returns-clause-begins
returns-clause-begins c = λ w text t zeros rooms_are return_room_is text_is holds.
    begins w text (record { assembler = c.new.result; returns = c.push-2.new.self; counts = c.no_counts.result }) t c.args.code.now c.new.ensures.plan (search rules) c.no_counts.ensures zeros rooms_are return_room_is text_is holds
