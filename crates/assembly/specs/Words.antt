-- The words of a code in the making.
use Rattle.std.specs.Prelude.{ℕ, ◌+◌, ◌*◌, ◌%◌}
use Rattle.runs.specs.Machine.{opcode, operand}
use Rattle.runs.specs.declared.instruction.Instruction.{Instruction}

-- an operation and the low 12 bits of an operand
abbrev pub packed : ℕ → ℕ → ℕ
packed o a = o * 4096 + a % 4096

abbrev pub instruction_word : Instruction → ℕ
instruction_word i = packed (opcode i) (operand i)

-- jumps to a label, whose operand is the label's symbol
abbrev pub jump_operation : ℕ
jump_operation = 11

abbrev pub jump_zero_operation : ℕ
jump_zero_operation = 12
