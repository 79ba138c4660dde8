use Rattle.std.proofs.Common.{◌≡◌, ◌+◌, drop, sym, ap, ◌∙◌, arith}
use Rattle.token.specs.Transducer.{moves, width, final}
use Rattle.token.proofs.Steps.{some_left, next_byte, goes_at}
use Rattle.token.proofs.lexer.Lexer.scan.Goals as goal

pub loop-next-preserved : goal.loop-next-preserved
loop-next-preserved c =
    let xs = c.args.self.now.text.now in
    let first = c.args.self.now.at in
    let l = c.loop-next.self in
    let m = c.step.new.self in
    let s = c.step.ensures in
    let h = c.loop-next.invariant in
    let same : l.text.now ≡ xs = ap (λ r. r.now) h.0 in
    let low = some_left xs l.text.now first c.loop-next.next-index l.at same h.1 c.loop-next-test.true in
    let moved = s.state ∙ ap (moves l.state) (next_byte xs l.text.now first c.loop-next.next-index l.at same h.1) in
    let on = sym c.if-not-inside.ensures in
    let bytes : m.text.now ≡ l.text.now = ap (λ r. r.now) s.same.0 in
    let at : m.at ≡ l.at = s.same.1 in
    let g = goes_at l.text.now l.at l.state m.state low moved h.2 on in (
      s.same.0 ∙ h.0,
      omega (arith, at, h.1),
      on,
      (λ k. (at k + 1) + width m.state (drop (at k + 1) (bytes k))) ∙ g.0 ∙ h.3,
      (λ k. final m.state (drop (at k + 1) (bytes k))) ∙ g.1 ∙ h.4,
    )
