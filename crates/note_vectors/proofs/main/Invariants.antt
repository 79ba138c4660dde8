use Rattle.std.proofs.Common.{length}
use Rattle.note_vectors.proofs.main.Given as goal

abbrev pub decreases-loop-name : goal.decreases-loop-name
decreases-loop-name l = length l.rest
