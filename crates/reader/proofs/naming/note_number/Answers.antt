use Rattle.std.proofs.Common.{Ok, Err, refl, rules}
use Rattle.limits.specs.Uses.{number_use}
use Rattle.symbols.specs.Table.{mention}
use Rattle.reader.proofs.Noted.{cell_noted, refusal_noted, digits_told}
use Rattle.reader.proofs.naming.note_number.Goals as goal

pub returns-in_err-index-clause-told : goal.returns-in_err-index-clause-told
returns-in_err-index-clause-told g c = λ seen address h short sound d.
    let a = c.args in
    let t = c.note_number.new.self in
    let w = g.N.Arithmetic.words in
    let f = c.in_err-index.field-0.0 in
    refusal_noted w t seen (mention number_use a.bytes.now a.place address) c.from_residual.result f (search rules)
    (digits_told w a.table.now t a.bytes.now a.place c.spelling.result (Err f) c.in_err-index.ensures.told c.spelling.ensures.place c.spelling.ensures.length seen address h short sound d)

pub returns-clause-told : goal.returns-clause-told
returns-clause-told g c = λ seen address h short sound d.
    let a = c.args in
    let t = c.note_number.new.self in
    let w = g.N.Arithmetic.words in
    let i = c.in_ok-index.index in
    cell_noted w t seen (mention number_use a.bytes.now a.place address) i c.cell_or_address.result
    (digits_told w a.table.now t a.bytes.now a.place c.spelling.result (Ok i) c.in_ok-index.ensures.told c.spelling.ensures.place c.spelling.ensures.length seen address h short sound d)
    refl
    c.cell_or_address.ensures.cell
