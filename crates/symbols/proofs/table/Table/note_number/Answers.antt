use Rattle.std.proofs.Common.{take, drop, sym, ap, ◌∙◌, w32, SFits, rules}
use Rattle.std.proofs.lemmas.Int.{to_z-of_z}
use Rattle.token.specs.Numbers.{word}
use Rattle.symbols.proofs.Noting.{word_of}
use Rattle.symbols.proofs.table.Table.note_number.Goals as goal

pub returns-in-Some-clause-told : goal.returns-in-Some-clause-told
returns-in-Some-clause-told g c = λ seen s address h z snd d.
    let x = word_of g.N.Arithmetic.words c.bytes.result.now c.in-Some.word c.in-Some.ensures in
    let f : SFits w32 c.in-Some.word = search rules in
    c.note_word.ensures.told g.N.Arithmetic.words seen s address h z snd
    (ap (word g.N.Arithmetic.words) (sym snd.bytes ∙ ap (λ n. take n (drop c.args.spelling.place c.args.self.now.text.now)) z ∙ sym c.bytes.ensures) ∙ x.1 ∙ sym (to_z-of_z w32 c.in-Some.word f))
