-- Words made of instructions.
use Rattle.std.specs.Prelude.{ℕ, cond, Some, None, Option, nat_lt}
use Rattle.runs.specs.Machine.{operand, encode}
use Rattle.runs.specs.declared.instruction.Instruction.{Instruction}

-- the word that an instruction is made into; none where its operand has more than 12 bits
abbrev pub encoded : Instruction → Option ℕ
encoded i = cond (nat_lt (operand i) 4096) (Some (encode i)) None
