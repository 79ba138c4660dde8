-- The parts of a file of cases: lines that byte 10 ends, and payloads of a stated length.
use Rattle.std.specs.Prelude.{◌≡◌, ℕ, ◌<◌, List, ◌∷◌, ◌++◌, length, Some, None, Option, ◌≢◌, slice_index}
use Rattle.std.specs.Borrow.{Bor}

-- no byte 10 among the first n bytes
abbrev pub NoEnd : List ℕ → ℕ → Type 0
NoEnd text n = (k : ℕ) → k < n → slice_index text k ≢ 10

-- a text is a line, byte 10 and the rest, and the line has no byte 10; or there is no byte 10 in it
abbrev pub LineSplit : List ℕ → Option (Bor (List ℕ) × Bor (List ℕ)) → Type 0
LineSplit text None = NoEnd text (length text)
LineSplit text (Some p) = (text ≡ p.0.now ++ (10 ∷ p.1.now)) × NoEnd text (length p.0.now)

-- a payload of n bytes, byte 10 and the rest; or no byte 10 stands at n
abbrev pub Payload : List ℕ → ℕ → Option (Bor (List ℕ) × Bor (List ℕ)) → Type 0
Payload text n None = n < length text → slice_index text n ≢ 10
Payload text n (Some p) = (text ≡ p.0.now ++ (10 ∷ p.1.now)) × (length p.0.now ≡ n)
