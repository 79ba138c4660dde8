use Rattle.std.proofs.Common.{Ok, sym, ◌∙◌}
use Rattle.symbols.specs.Entries.{meant as use_meant}
use Rattle.symbols.specs.Table.{mention}
use Rattle.reader.proofs.Noted.{cell_noted, name_told}
use Rattle.reader.proofs.naming.note_name.Goals as goal

pub returns-clause-told : goal.returns-clause-told
returns-clause-told c = λ w seen address h short given sound.
    let a = c.args in
    let r = use_meant a.role in
    let t = c.note_name.new.self in
    let i = c.in_ok-index.index in
    cell_noted w t seen (mention r a.bytes.now a.place address) i c.cell_or_address.result
    (name_told a.table.now t a.role a.bytes.now a.place c.spelling.result (Ok i) c.in_ok-index.ensures.told c.spelling.ensures.place c.spelling.ensures.length w seen address h short given sound)
    (sym c.is_label.ensures ∙ c.if-is_label.false)
    c.cell_or_address.ensures.cell
