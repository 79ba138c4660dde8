-- The operations that stand for jumps to labels.
use Rattle.std.specs.Prelude.{ℕ}
use Rattle.assembly.specs.Words.{jump_operation, jump_zero_operation}
use Rattle.assembler.specs.declared.word.Jump.{Jump}
use Rattle.assembler.specs.declared.word.Jump.TheVariants.{Always, IfZero}

abbrev pub operation : Jump → ℕ
operation Always = jump_operation
operation IfZero = jump_zero_operation
