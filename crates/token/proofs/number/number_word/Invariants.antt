use Rattle.std.proofs.Common.{◌≡◌, true, take}
use Rattle.token.specs.Lexis.{digit}
use Rattle.token.specs.Numbers.{every, word}
use Rattle.token.proofs.number.number_word.Given as goal

-- the digits so far are digits, and their word is had
abbrev pub invariant-loop-b : goal.invariant-loop-b
invariant-loop-b g l = (every digit (take l.b-index l.digits) ≡ true) × (l.word ≡ word g.N.Arithmetic.words (take l.b-index l.digits))
