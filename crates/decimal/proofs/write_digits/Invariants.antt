use Rattle.std.proofs.Common.{◌≡◌, ◌≤◌, ◌++◌, length, drop}
use Rattle.decimal.specs.Digits.{last_digits}
use Rattle.decimal.proofs.write_digits.Given as goal

-- with the digits that are still to be written, the bytes are what they are to be throughout
abbrev pub invariant-loop-place : goal.invariant-loop-place
invariant-loop-place l =
    (l.place ≤ length l.out) × (last_digits l.place l.n ++ drop l.place l.out ≡ last_digits (length l.initial.out) l.initial.n)
