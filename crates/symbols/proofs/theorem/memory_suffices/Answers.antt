use Rattle.symbols.proofs.Whole.{few, has_index, apart, index_stays, cell_stays, placed, is_pending}
use Rattle.symbols.proofs.theorem.memory_suffices.Goals as goal

pub returns : goal.returns
returns c = record { few = few; has_index = has_index; apart = apart; index_stays = index_stays; cell_stays = cell_stays; placed = placed; is_pending = is_pending }
