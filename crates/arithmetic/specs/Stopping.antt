-- The ledger word stops at 99,999,999 and at -99,999,999.
use Rattle.std.specs.Prelude.{min, ℤ, pos, negsuc}
use Rattle.arithmetic.specs.Words.{Words}

-- the number itself, or the nearer of the two bounds
abbrev pub stopped : ℤ → ℤ
stopped (pos n) = pos (min n 99999999)
stopped (negsuc n) = negsuc (min n 99999998)

abbrev pub stopping : Words
stopping = record { lowest = negsuc 99999998; highest = pos 99999999; fit = stopped }
