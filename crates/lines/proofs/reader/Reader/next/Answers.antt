use Rattle.std.proofs.Common.{rules}
use Rattle.lines.proofs.Steps.{lawful_digits}
use Rattle.lines.proofs.reader.Reader.next.Goals as goal

pub read_digits-value-requires : goal.read_digits-value-requires
read_digits-value-requires c =
    let r = c.args.self.now in
    let l = c.in_ok-minus.ensures.lookup in
    lawful_digits r.text.now r.at c.in_ok-minus.field-0.now (search (rules, l)) (search (rules, l)) r.ok.1 _ c.from.ensures
