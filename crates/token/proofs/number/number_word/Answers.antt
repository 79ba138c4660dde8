use Rattle.std.proofs.Common.{get_or, take, sym, ap, ◌∙◌, w32, SFits, rules}
use Rattle.std.proofs.lemmas.List.{take_more}
use Rattle.std.proofs.lemmas.Int.{to_z-of_z}
use Rattle.token.specs.Lexis.{digit}
use Rattle.token.specs.Numbers.{every, word}
use Rattle.token.proofs.Decimals.{every_push, word_more, digit_some}
use Rattle.token.proofs.number.number_word.Goals as goal

pub loop-b-preserved : goal.loop-b-preserved
loop-b-preserved g c =
    let xs = c.args.digits.now in
    let i = c.loop-b.b-index in
    let w = g.N.Arithmetic.words in
    let b = get_or xs i 0 in
    let d = digit_some b c.in_ok-digit_value.field-0 c.in_ok-digit_value.ensures in
    let more = take_more xs i 0 c.loop-b-test.true in
    let f : SFits w32 c.append-word.result = search rules in (
      ap (every digit) more ∙ every_push digit (take i xs) b c.loop-b.invariant.0 d.0,
      to_z-of_z w32 c.append-word.result f ∙ word_more w g.met.N.Arithmetic.lawful (take i xs) b c.in_ok-digit_value.field-0 c.loop-b.invariant.1 d.0 d.1 c.append-word.ensures ∙ ap (word w) (sym more),
    )
