-- The transducer's states, byte by byte.
use Rattle.std.specs.Prelude.{◌≡◌, ℕ, ◌<◌, Bool, true, false, cond, List, length, ◌==◌, slice_index}
use Rattle.token.specs.declared.lexer.State.{State}
use Rattle.token.specs.declared.lexer.State.TheVariants.{E1, E2, E3, E4, E5, E6, E7}
use Rattle.token.specs.Tokens.{Token, number, sign, Becomes}
use Rattle.token.specs.Lexis.{blank, letter, digit, alphanumeric, equals, front, begins, named, lone}

-- the state that a byte leads to; from a state inside a token, E1 says that the token ends before the byte
abbrev pub moves : State → ℕ → State
moves E1 b = cond (blank b) E1 (cond (b == 37) E6 (cond (letter b) E2 (cond (digit b) E3 (cond (b == 58) E4 E7))))
moves E2 b = cond (alphanumeric b) E2 E1
moves E3 b = cond (digit b) E3 E1
moves E4 b = cond (equals b) E5 E1
moves E5 b = E1
moves E6 b = cond (b == 10) E1 E6
moves E7 b = E1

-- the states inside a token
abbrev pub inside : State → Bool
inside E1 = false
inside E2 = true
inside E3 = true
inside E4 = true
inside E5 = true
inside E6 = false
inside E7 = true

-- how many of the next bytes belong to the token
abbrev pub width : State → List ℕ → ℕ
width E1 bs = 0
width E2 bs = front alphanumeric bs
width E3 bs = front digit bs
width E4 bs = cond (begins equals bs) 1 0
width E5 bs = 0
width E6 bs = 0
width E7 bs = 0

-- the state at the token's end
abbrev pub final : State → List ℕ → State
final E1 bs = E1
final E2 bs = E2
final E3 bs = E3
final E4 bs = cond (begins equals bs) E5 E4
final E5 bs = E5
final E6 bs = E6
final E7 bs = E7

-- the token that ends in a state, by its bytes
abbrev pub emitted : State → List ℕ → Token
emitted E1 bytes = lone (slice_index bytes 0)
emitted E2 bytes = named bytes
emitted E3 bytes = number bytes
emitted E4 bytes = lone (slice_index bytes 0)
emitted E5 bytes = sign Becomes
emitted E6 bytes = lone (slice_index bytes 0)
emitted E7 bytes = lone (slice_index bytes 0)

-- a token's first byte stands at an offset, and led to a state
pub record Begun (text : List ℕ) (at : ℕ) (s : State) : Type 0 where
  pub low : at < length text
  pub led : s ≡ moves E1 (slice_index text at)
  pub on : inside s ≡ true
