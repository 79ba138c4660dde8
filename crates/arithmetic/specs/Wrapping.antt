-- The wrapped word keeps the low 32 bits of a number and takes them as signed.
use Rattle.std.specs.Prelude.{pos, negsuc}
use Rattle.std.specs.Int.{int_wrap, w32}
use Rattle.arithmetic.specs.Words.{Words}

abbrev pub wrapping : Words
wrapping = record { lowest = negsuc 2147483647; highest = pos 2147483647; fit = int_wrap w32 }
