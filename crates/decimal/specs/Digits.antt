-- Numbers in plain decimals: `decimal n` are the digits of n without leading zeros, and `signed z` has "-" before them where z is negative.
use Rattle.std.specs.Prelude.{ℕ, zero, suc, ◌+◌, ◌/◌, ◌%◌, cond, List, [], ◌∷◌, ◌++◌, length, take, drop, nat_le}
pub use Rattle.std.specs.Fmt.{decimal, signed_decimal as signed}

-- the last k digits of n, zeros in front where it has fewer
unfoldable pub last_digits : ℕ → ℕ → List ℕ
last_digits zero n = []
last_digits (suc k) n = last_digits k (n / 10) ++ ((48 + n % 10) ∷ [])

-- the bytes bs in place of what stood in xs from `start` on
abbrev pub overwritten : List ℕ → ℕ → List ℕ → List ℕ
overwritten xs start bs = take start xs ++ (bs ++ drop (start + length bs) xs)

-- the same where they fit, and else xs as it was
abbrev pub written : List ℕ → ℕ → List ℕ → List ℕ
written xs start bs = cond (nat_le (start + length bs) (length xs)) (overwritten xs start bs) xs
