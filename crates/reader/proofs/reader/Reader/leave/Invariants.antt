use Rattle.std.proofs.Common.{◌≡◌, length}
use Rattle.reading.specs.Steps.{leaving}
use Rattle.reader.specs.Views.{plan, rooms, returns, Keeps}
use Rattle.reader.proofs.reader.Reader.leave.Given as goal

abbrev pub invariant-states : goal.invariant-states
invariant-states l =
    (leaving (rooms l.self) l.class (returns l.self) (plan l.self) ≡ leaving (rooms l.initial.self) l.class (returns l.initial.self) (plan l.initial.self))
    × (l.self.counts ≡ l.initial.self.counts) × Keeps l.initial.self l.self

abbrev pub decreases-states : goal.decreases-states
decreases-states l = length (returns l.self)
