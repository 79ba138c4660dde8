use Rattle.grammar.proofs.Theorems as th
use Rattle.grammar.proofs.parser_is_exact.Goals as goal

pub returns : goal.returns
returns c = record { sound = th.parse_sound; complete = th.parse_complete }
