use Rattle.std.proofs.Common.{◌≡◌, reverse, take}
use Rattle.reading.specs.Steps.{pushed_all}
use Rattle.reader.specs.Views.{plan, returns, return_room, Keeps}
use Rattle.reader.proofs.reader.Reader.enter.Given as goal

-- the states so far stand on the stack, and nothing else changed
abbrev pub invariant-loop-state : goal.invariant-loop-state
invariant-loop-state l =
    (returns l.self ≡ pushed_all (return_room l.initial.self) (plan l.initial.self).made.count (reverse (take l.state-index l.step.states.now)) (returns l.initial.self))
    × (l.self.assembler ≡ l.initial.self.assembler) × (l.self.counts ≡ l.initial.self.counts) × Keeps l.initial.self l.self
