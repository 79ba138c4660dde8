use Rattle.grammar.proofs.Faults as th
use Rattle.grammar.proofs.steps_find_the_fault.Goals as goal

pub returns : goal.returns
returns c = record { refused = th.refused; taken = λ ts k s t r next e d h. th.taken ts k s t r e d next h; closed = th.closed; unfinished = th.unfinished }
