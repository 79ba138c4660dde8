-- An arithmetic as plain data, its operations, and the laws that each arithmetic owes.
use Rattle.std.specs.Prelude.{◌≡◌, ℕ, zero, suc, ◌+◌, ◌*◌, ◌≤◌, Bool, false, cond, ◌↔◌, ℤ, pos, negsuc, ◌+ℤ◌, ◌-ℤ◌, ◌*ℤ◌, ◌≤ℤ◌, ◌==◌, int_div}

-- the lowest and the highest word, and the word that a whole number is fitted to
pub record Words : Type 0 where
  pub lowest : ℤ
  pub highest : ℤ
  pub fit : ℤ → ℤ

-- every whole number from the lowest to the highest is a word
abbrev pub Word : Words → ℤ → Type 0
Word w n = (w.lowest ≤ℤ n) × (n ≤ℤ w.highest)

abbrev pub is_zero : ℤ → Bool
is_zero (pos n) = n == 0
is_zero (negsuc n) = false

-- sum, difference and product are the fitted exact ones
abbrev pub sum : Words → ℤ → ℤ → ℤ
sum w a b = w.fit (a +ℤ b)

abbrev pub difference : Words → ℤ → ℤ → ℤ
difference w a b = w.fit (a -ℤ b)

abbrev pub product : Words → ℤ → ℤ → ℤ
product w a b = w.fit (a *ℤ b)

-- a quotient drops its fraction towards zero and is fitted; divided by 0, a number stays as it is
abbrev pub quotient : Words → ℤ → ℤ → ℤ
quotient w a b = cond (is_zero b) a (w.fit (int_div a b))

-- 1 is taken k times
abbrev pub less : Words → ℕ → ℤ → ℤ
less w zero n = n
less w (suc k) n = less w k (difference w n (pos 1))

-- what each arithmetic owes
pub record Lawful (w : Words) : Type 0 where
  -- the bounds lie within 32 signed bits, the lowest is at most -1 and the highest at least 127
  pub low : (negsuc 2147483647 ≤ℤ w.lowest) × (w.lowest ≤ℤ negsuc 0)
  pub high : (pos 127 ≤ℤ w.highest) × (w.highest ≤ℤ pos 2147483647)
  -- a number is fitted to a word, and a word to itself
  pub within : (n : ℤ) → Word w (w.fit n)
  pub same : (n : ℤ) → Word w n → w.fit n ≡ n
  -- one digit more, after a number that is fitted already
  pub digit : (n d : ℕ) → d ≤ 9 → w.fit ((pos 10 *ℤ w.fit (pos n)) +ℤ pos d) ≡ w.fit (pos (10 * n + d))
  -- 1 taken k times from a word gives 0 exactly when the word is k
  pub counts : (k : ℕ) → k ≤ 63 → (n : ℤ) → Word w n → (less w k n ≡ pos 0) ↔ (n ≡ pos k)
