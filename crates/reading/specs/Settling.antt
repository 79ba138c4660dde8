-- Settling a code: jumps to labels get their addresses from the table of symbols.
use Rattle.std.specs.Prelude.{ℕ, ◌/◌, ◌%◌, cond, List, ◌==◌, slice_index_or}
use Rattle.symbols.specs.Entries.{blank}
use Rattle.symbols.specs.declared.kinds.Symbol.{Symbol}
use Rattle.assembly.specs.Words.{packed, jump_operation, jump_zero_operation}

-- the address of the label with this symbol
abbrev pub address_at : List Symbol → ℕ → ℕ
address_at ss i = (slice_index_or ss i blank).at

-- a word of a code in the making, once all labels are known: the two operations of jumps to labels become BRU and BRZ
abbrev pub settled_word : List Symbol → ℕ → ℕ
settled_word ss v =
    cond (v / 4096 == jump_operation) (packed 0 (address_at ss (v % 4096)))
    (cond (v / 4096 == jump_zero_operation) (packed 1 (address_at ss (v % 4096))) v)
