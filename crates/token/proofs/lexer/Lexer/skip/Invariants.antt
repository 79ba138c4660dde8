use Rattle.std.proofs.Common.{◌≡◌, ◌+◌, false, drop}
use Rattle.token.specs.Transducer.{inside}
use Rattle.token.proofs.Pieces.{along}
use Rattle.token.proofs.lexer.Lexer.skip.Given as goal

abbrev pub invariant-loop-next : goal.invariant-loop-next
invariant-loop-next l =
    (l.self.text ≡ l.initial.self.text) × (inside l.self.state ≡ false)
    × (along l.self.state l.self.at (drop l.self.at l.self.text.now) ≡ along l.initial.self.state l.initial.self.at (drop l.initial.self.at l.initial.self.text.now))
    × (l.self.at ≡ l.initial.self.at + l.next-index)
