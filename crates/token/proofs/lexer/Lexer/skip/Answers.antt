use Rattle.std.proofs.Common.{◌≡◌, ◌+◌, length, get_or, drop, sym, ap, ◌∙◌, arith}
use Rattle.std.proofs.lemmas.List.{drop_all}
use Rattle.token.specs.Lexis.{tokens_from, from}
use Rattle.token.specs.Transducer.{moves}
use Rattle.token.proofs.Pieces.{along}
use Rattle.token.proofs.Steps.{some_left, none_left, next_byte, idle_at, start_at, over_at}
use Rattle.token.proofs.lexer.Lexer.skip.Goals as goal

pub loop-next-preserved : goal.loop-next-preserved
loop-next-preserved c =
    let xs = c.args.self.now.text.now in
    let first = c.args.self.now.at in
    let l = c.loop-next.self in
    let m = c.step.new.self in
    let s = c.step.ensures in
    let h = c.loop-next.invariant in
    let same : l.text.now ≡ xs = ap (λ r. r.now) h.0 in
    let low = some_left xs l.text.now first c.loop-next.next-index l.at same h.3 c.loop-next-test.true in
    let moved = s.state ∙ ap (moves l.state) (next_byte xs l.text.now first c.loop-next.next-index l.at same h.3) in
    let on = sym c.if-inside.ensures in
    let bytes : m.text.now ≡ l.text.now = ap (λ r. r.now) s.same.0 in
    let at : m.at ≡ l.at = s.same.1 in (
      s.same.0 ∙ h.0,
      on,
      (λ k. along m.state (at k + 1) (drop (at k + 1) (bytes k))) ∙ idle_at l.text.now l.at l.state m.state low moved h.1 on ∙ h.2,
      omega (arith, at, h.3),
    )

pub returns-then-inside : goal.returns-then-inside
unfolding tokens_from
returns-then-inside c =
    let xs = c.args.self.now.text.now in
    let first = c.args.self.now.at in
    let l = c.loop-next.self in
    let m = c.step.new.self in
    let s = c.step.ensures in
    let h = c.loop-next.invariant in
    let same : l.text.now ≡ xs = ap (λ r. r.now) h.0 in
    let low = some_left xs l.text.now first c.loop-next.next-index l.at same h.3 c.loop-next-test.true in
    let moved = s.state ∙ ap (moves l.state) (next_byte xs l.text.now first c.loop-next.next-index l.at same h.3) in
    let on = sym c.if-inside.ensures in
    let bytes : m.text.now ≡ l.text.now = ap (λ r. r.now) s.same.0 in
    let at : m.at ≡ l.at = s.same.1 in
    let g = start_at l.text.now l.at l.state m.state low moved h.1 on in
    record {
      text = s.same.0 ∙ h.0;
      rest = (λ k. from 0 (at k) (drop (at k) (bytes k))) ∙ ap (λ u. along u l.at (drop l.at l.text.now)) (sym g.is_e1) ∙ h.2;
      to = omega (arith, at, h.3);
      begun = record { low = omega (arith, low, at, ap length bytes); led = moved ∙ (λ k. moves (g.is_e1 k) (get_or (sym bytes k) (sym at k) 0)); on = on };
    }

pub returns : goal.returns
unfolding tokens_from
returns c =
    let l = c.loop-next.self in
    let h = c.loop-next.invariant in
    let all = none_left c.args.self.now.text.now l.text.now c.args.self.now.at c.loop-next.next-index l.at (ap (λ r. r.now) h.0) h.3 c.loop-next-test.false in
    record {
      text = h.0;
      rest = over_at l.text.now l.at l.state all h.1 ∙ h.2;
      to = omega (arith, h.3);
      begun = (omega (arith, all), ap (from 0 l.at) (drop_all l.at l.text.now all));
    }
