-- The form of input lines, as rules: what a reader has to believe.
use Rattle.std.specs.Prelude.{◌≡◌, ℕ, ◌+◌, ◌-◌, ◌*◌, ◌≤◌, Bool, true, ◌&&◌, List, [], ◌∷◌, ◌++◌, length, ℤ, pos, neg_ℤ, nat_le}

-- "0" to "9"
abbrev pub digit : ℕ → Bool
digit b = nat_le 48 b && nat_le b 57

abbrev pub all_digits : List ℕ → Bool
all_digits [] = true
all_digits (b ∷ bs) = digit b && all_digits bs

-- the number that digits write, after a number that was written before them
abbrev pub number_after : ℕ → List ℕ → ℕ
number_after n [] = n
number_after n (b ∷ bs) = number_after (10 * n + (b - 48)) bs

abbrev pub number_of : List ℕ → ℕ
number_of ds = number_after 0 ds

-- 1 to 18 digits
pub record Numeral (ds : List ℕ) : Type 0 where
  pub digits : all_digits ds ≡ true
  pub some : 1 ≤ length ds
  pub few : length ds ≤ 18

-- a line: a numeral, "-" before it or not, and byte 10; with its number
pub data Line : List ℕ → ℤ → Type 0 where
  plain : (ds : List ℕ) → Numeral ds → Line (ds ++ (10 ∷ [])) (pos (number_of ds))
  negative : (ds : List ℕ) → Numeral ds → Line (45 ∷ (ds ++ (10 ∷ []))) (neg_ℤ (pos (number_of ds)))

-- a lawful text: lines and nothing else; with their numbers
pub data Lines : List ℕ → List ℤ → Type 0 where
  none : Lines [] []
  more : {l t : List ℕ} {z : ℤ} {zs : List ℤ} → Line l z → Lines t zs → Lines (l ++ t) (z ∷ zs)
