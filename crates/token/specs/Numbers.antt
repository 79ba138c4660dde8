-- The number that digits write, and its word.
use Rattle.std.specs.Prelude.{ℕ, ◌+◌, ◌-◌, ◌*◌, ◌^◌, Bool, true, cond, ◌&&◌, List, [], ◌∷◌, length, ℤ, pos, Some, None, Option}
use Rattle.arithmetic.specs.Words.{Words}
use Rattle.token.specs.Lexis.{digit}

-- every byte passes a test
abbrev pub every : (ℕ → Bool) → List ℕ → Bool
every test [] = true
every test (b ∷ bs) = test b && every test bs

-- a digit counts as often as ten to the number of digits after it
abbrev pub decimal : List ℕ → ℕ
decimal [] = 0
decimal (b ∷ bs) = (b - 48) * 10 ^ length bs + decimal bs

-- the word of a number: the number fitted
abbrev pub word : Words → List ℕ → ℤ
word words digits = words.fit (pos (decimal digits))

-- the same, unless some byte is no digit
abbrev pub word_if_digits : Words → List ℕ → Option ℤ
word_if_digits words bytes = cond (every digit bytes) (Some (word words bytes)) None
