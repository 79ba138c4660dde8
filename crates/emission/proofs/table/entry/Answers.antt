use Rattle.std.proofs.Common.{[], get_or, ap, ◌∙◌}
use Rattle.emission.specs.Classes.{letters}
use Rattle.emission.proofs.Tables.{by_letter, entry_at}
use Rattle.emission.proofs.table.entry.Goals as goal

pub returns : goal.returns
returns c =
    c.lettered.ensures
    ∙ ap by_letter (c.letter.ensures ∙ (λ i. get_or (get_or letters (c.row.ensures i) []) (c.min.ensures i) 0))
    ∙ entry_at c.args.state c.args.class
