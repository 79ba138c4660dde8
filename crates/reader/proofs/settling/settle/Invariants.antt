use Rattle.std.proofs.Common.{◌≡◌, ◌++◌, map, take, drop}
use Rattle.reader.specs.Settling.{settled_by}
use Rattle.reader.proofs.settling.settle.Given as goal

-- the words below the index are settled, and the others stand as they were
abbrev pub invariant-words : goal.invariant-words
invariant-words l = l.code ≡ map (settled_by l.table) (take l.index l.initial.code) ++ drop l.index l.initial.code
