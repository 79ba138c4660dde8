-- The machine: words of code, what each asks for, and what carrying it out does.
use Rattle.std.specs.Prelude.{ℕ, zero, suc, ◌+◌, ◌*◌, ◌/◌, ◌%◌, Bool, true, false, cond, List, length, ℤ, pos, Some, None, Option, ◌==◌, int_lt, nat_lt, slice_index, slice_index_or, slice_set}
use Rattle.arithmetic.specs.Words.{Words, is_zero, sum, difference, product, quotient}
use Rattle.host.specs.Meaning.{Meaning, first, taken, fits, marked}
use Rattle.runs.specs.Events.{World, Mark, number, line_end, Status, Running, Stopped, NoLine, NoPaper, Corrupt}
pub use Rattle.runs.specs.declared.instruction.Instruction.{Instruction}
pub use Rattle.runs.specs.declared.instruction.Instruction.TheVariants.{Bru, Brz, Brn, Brp, Ada, Sub, Mul, Div, Lda, Sta, Read, Convert, Newline, Stop}

-- Words.

-- the number of an instruction's operation; the calls share 10
abbrev pub opcode : Instruction → ℕ
opcode (Bru a) = 0
opcode (Brz a) = 1
opcode (Brn a) = 2
opcode (Brp a) = 3
opcode (Ada a) = 4
opcode (Sub a) = 5
opcode (Mul a) = 6
opcode (Div a) = 7
opcode (Lda a) = 8
opcode (Sta a) = 9
opcode Read = 10
opcode Convert = 10
opcode Newline = 10
opcode Stop = 10

-- an address, a cell, or what is called
abbrev pub operand : Instruction → ℕ
operand (Bru a) = a
operand (Brz a) = a
operand (Brn a) = a
operand (Brp a) = a
operand (Ada a) = a
operand (Sub a) = a
operand (Mul a) = a
operand (Div a) = a
operand (Lda a) = a
operand (Sta a) = a
operand Read = 0
operand Convert = 1
operand Newline = 2
operand Stop = 3

-- a word is the operation's number times 4,096 plus the operand
abbrev pub encode : Instruction → ℕ
encode i = opcode i * 4096 + operand i

-- what operation 10 calls; no call is above 3
abbrev pub called : ℕ → Option Instruction
called n = cond (n == 0) (Some Read) (cond (n == 1) (Some Convert) (cond (n == 2) (Some Newline) (cond (n == 3) (Some Stop) None)))

-- no operation is above 10
abbrev pub operation : ℕ → ℕ → Option Instruction
operation n a =
    cond (n == 0) (Some (Bru a)) (cond (n == 1) (Some (Brz a)) (cond (n == 2) (Some (Brn a)) (cond (n == 3) (Some (Brp a))
    (cond (n == 4) (Some (Ada a)) (cond (n == 5) (Some (Sub a)) (cond (n == 6) (Some (Mul a)) (cond (n == 7) (Some (Div a))
    (cond (n == 8) (Some (Lda a)) (cond (n == 9) (Some (Sta a)) (cond (n == 10) (called a) None))))))))))

-- what a word means, taken apart again
abbrev pub decode : ℕ → Option Instruction
decode n = operation (n / 4096) (n % 4096)

-- a jump leads into the code, and a cell is in use
abbrev pub inside : ℕ → ℕ → Instruction → Bool
inside size used (Bru a) = nat_lt a size
inside size used (Brz a) = nat_lt a size
inside size used (Brn a) = nat_lt a size
inside size used (Brp a) = nat_lt a size
inside size used (Ada a) = nat_lt a used
inside size used (Sub a) = nat_lt a used
inside size used (Mul a) = nat_lt a used
inside size used (Div a) = nat_lt a used
inside size used (Lda a) = nat_lt a used
inside size used (Sta a) = nat_lt a used
inside size used Read = true
inside size used Convert = true
inside size used Newline = true
inside size used Stop = true

abbrev pub allowed : ℕ → ℕ → Option Instruction → Option Instruction
allowed size used None = None
allowed size used (Some i) = cond (inside size used i) (Some i) None

-- what a word asks for, in a code of this size with so many cells in use; none where it is corrupt, whether its jump would be taken or not
abbrev pub asked : ℕ → ℕ → ℕ → Option Instruction
asked size used n = allowed size used (decode n)

-- what the word at an address asks for; none outside the code
abbrev pub fetch : List ℕ → ℕ → ℕ → Option Instruction
fetch code used a = cond (nat_lt a (length code)) (asked (length code) used (slice_index code a)) None

-- States and steps.

pub record State : Type 0 where
  pub address : ℕ
  pub accumulator : ℤ
  pub cells : List ℤ
  pub host : Meaning
  pub status : Status

abbrev pub state : ℕ → ℤ → List ℤ → Meaning → Status → State
state a z s h t = record { address = a; accumulator = z; cells = s; host = h; status = t }

-- what a cell is worth: its number, fitted where it is no word
abbrev pub held : Words → List ℤ → ℕ → ℤ
held w s a = w.fit (slice_index_or s a (pos 0))

-- on at this address
abbrev pub jump : ℕ → State → State
jump a m = state a m.accumulator m.cells m.host m.status

-- this into the accumulator, and on
abbrev pub load : ℤ → State → State
load z m = state (suc m.address) z m.cells m.host m.status

-- the accumulator into this cell, and on
abbrev pub store : ℕ → State → State
store a m = state (suc m.address) m.accumulator (slice_set m.cells a m.accumulator) m.host m.status

-- the run closes, and nothing else changes
abbrev pub shut : Status → State → State
shut t m = state m.address m.accumulator m.cells m.host t

-- the line that waits first is taken, and its fitted value loaded
abbrev pub take_line : Words → Option ℤ → State → State
take_line w None m = shut NoLine m
take_line w (Some z) m = state (suc m.address) (w.fit z) m.cells (taken m.host) m.status

-- a mark of this weight is made, if there is paper for it
abbrev pub make_mark : Bool → ℕ → Mark → State → State
make_mark true g k m = state (suc m.address) m.accumulator m.cells (marked g k m.host) m.status
make_mark false g k m = shut NoPaper m

abbrev pub put_mark : World → Mark → State → State
put_mark W k m = make_mark (fits (W.weight k) m.host) (W.weight k) k m

abbrev pub carry_out : World → Instruction → State → State
carry_out W (Bru a) m = jump a m
carry_out W (Brz a) m = jump (cond (is_zero m.accumulator) a (suc m.address)) m
carry_out W (Brn a) m = jump (cond (int_lt m.accumulator (pos 0)) a (suc m.address)) m
carry_out W (Brp a) m = jump (cond (int_lt (pos 0) m.accumulator) a (suc m.address)) m
carry_out W (Ada a) m = load (sum W.words m.accumulator (held W.words m.cells a)) m
carry_out W (Sub a) m = load (difference W.words m.accumulator (held W.words m.cells a)) m
carry_out W (Mul a) m = load (product W.words m.accumulator (held W.words m.cells a)) m
carry_out W (Div a) m = load (quotient W.words m.accumulator (held W.words m.cells a)) m
carry_out W (Lda a) m = load (held W.words m.cells a) m
carry_out W (Sta a) m = store a m
carry_out W Read m = take_line W.words (first m.host.lines) m
carry_out W Convert m = put_mark W (number m.accumulator) m
carry_out W Newline m = put_mark W line_end m
carry_out W Stop m = shut Stopped m

-- while the run is open the instruction that was fetched is carried out, or, where there is none, the run closes as corrupt at its address
abbrev pub move : World → Status → Option Instruction → State → State
move W Running (Some i) m = carry_out W i m
move W Running None m = shut (Corrupt m.address) m
move W Stopped o m = m
move W NoLine o m = m
move W NoPaper o m = m
move W (Corrupt a) o m = m

-- how many instructions that is
abbrev pub counted : Status → Option Instruction → ℕ
counted Running (Some i) = 1
counted Running None = 0
counted Stopped o = 0
counted NoLine o = 0
counted NoPaper o = 0
counted (Corrupt a) o = 0

module _ (W : World) (code : List ℕ) (used : ℕ) where
  abbrev pub step : State → State
  step m = move W m.status (fetch code used m.address) m

  -- n steps; the last does not look at the word after it
  abbrev pub run : ℕ → State → State
  run zero m = m
  run (suc n) m = run n (step m)

  -- the instructions that are carried out in n steps
  abbrev pub count : ℕ → State → ℕ
  count zero m = 0
  count (suc n) m = counted m.status (fetch code used m.address) + count n (step m)

-- before the first step
abbrev pub loaded : List ℤ → Meaning → State
loaded s h = state 0 (pos 0) s h Running
