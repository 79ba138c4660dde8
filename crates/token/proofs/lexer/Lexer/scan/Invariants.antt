use Rattle.std.proofs.Common.{◌≡◌, ◌+◌, true, drop}
use Rattle.token.specs.Transducer.{inside, width, final}
use Rattle.token.proofs.lexer.Lexer.scan.Given as goal

abbrev pub invariant-loop-next : goal.invariant-loop-next
invariant-loop-next l =
    (l.self.text ≡ l.initial.self.text) × (l.self.at ≡ l.initial.self.at + l.next-index) × (inside l.self.state ≡ true)
    × (l.self.at + width l.self.state (drop l.self.at l.self.text.now) ≡ l.initial.self.at + width l.initial.self.state (drop l.initial.self.at l.initial.self.text.now))
    × (final l.self.state (drop l.self.at l.self.text.now) ≡ final l.initial.self.state (drop l.initial.self.at l.initial.self.text.now))
