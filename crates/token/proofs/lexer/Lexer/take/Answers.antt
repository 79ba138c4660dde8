use Rattle.std.proofs.Common.{◌≡◌, ◌+◌, ◌-◌, length, take, drop, Some, sym, refl, ap, ◌∙◌, arith}
use Rattle.token.specs.Lexis.{tokens_from, from}
use Rattle.token.specs.Transducer.{emitted}
use Rattle.token.specs.Views.{first, place, later, size}
use Rattle.token.proofs.Steps.{token_at, stands_at, found_from}
use Rattle.token.proofs.lexer.Lexer.take.Goals as goal

pub returns : goal.returns
unfolding tokens_from
returns c =
    let m = c.args.self.now in
    let n = c.scan-kind.new.self in
    let xs = m.text.now in
    let k = c.scan-kind.ensures in
    let all = token_at xs m.at n.at m.state c.requires.low c.requires.led c.requires.on k.to in
    let st = stands_at xs m.at n.at m.state c.requires.low c.requires.led c.requires.on k.to in
    let bytes : n.text.now ≡ xs = ap (λ r. r.now) k.text in
    let says = c.emit.ensures ∙ ap (λ s. Some (emitted s (take (n.at - m.at) (drop m.at xs)))) k.kind in
    record {
      first = says ∙ ap first (sym all);
      place = ap (place (length xs)) (sym all);
      rest = ap (λ l. from 0 n.at (drop n.at l)) bytes ∙ ap later (sym all);
      found = found_from st.0 refl says;
      from = omega arith;
      to = st.1 ∙ ap (λ o. m.at + size o) (sym says);
      text = k.text;
    }
