use Rattle.emission.proofs.Rooms as th
use Rattle.emission.proofs.Operands.{text_operands}
use Rattle.emission.proofs.stacks_suffice.Goals as goal

pub returns : goal.returns
returns c = record { sized = th.text_sized; within = th.text_within; operands = text_operands }
