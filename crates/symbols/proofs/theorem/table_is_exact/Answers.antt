use Rattle.std.proofs.Common.{map, ap, ◌∙◌}
use Rattle.symbols.specs.Entries.{entry}
use Rattle.symbols.proofs.Whole.{same_uses, lowest_is, whole, earliest, agree}
use Rattle.symbols.proofs.theorem.table_is_exact.Goals as goal

pub returns : goal.returns
returns c = record {
  same_uses = same_uses;
  lowest_is = lowest_is;
  whole = λ w address at ts. whole at w address ts;
  earliest = λ us at ts. earliest at us ts;
  table = λ w at ts t address h e. h.symbols_are ∙ ap (map entry) (agree w _ _ _ e ∙ whole at w address ts);
}
