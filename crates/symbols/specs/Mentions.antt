-- The uses of names and numbers that a table has been told, newest first, and what they make of it.
use Rattle.std.specs.Prelude.{◌≡◌, ℕ, ◌+◌, ◌<◌, cond, not, ◌&&◌, List, [], ◌∷◌, ◌++◌, map, length, take, drop, ℤ, pos, nat_le, nat_lt}
use Rattle.std.proofs.Math.Option.{Option, none, some}
use Rattle.std.specs.Str.{bytes_eq}
use Rattle.token.specs.Tokens.{Token, Placed}
use Rattle.token.specs.Numbers.{word}
use Rattle.trees.specs.Trees.{Name}
use Rattle.arithmetic.specs.Words.{Words}
use Rattle.limits.specs.Uses.{Use, use_of, is_literal, is_definition, is_label, Key, key, known, cells, labels}
use Rattle.limits.specs.Rules.{name_limit, cell_limit, label_limit, tokens_of, Refused}
use Rattle.limits.specs.Refusals.{Check, check, lowest, among, differ, or_else, refused, unmet}
use Rattle.limits.specs.Symbols.{Symbol, symbol}

-- a use, the place of its token, and the address that it gives its label, if it stands before a command
pub record Mention : Type 0 where
  pub used : Use
  pub place : ℕ
  pub address : ℕ

abbrev pub uses_of : List Mention → List Use
uses_of ms = map (λ (m : Mention). m.used) ms

-- the address of a label that stands before no command yet; no other is so large
abbrev pub pending : ℕ
pending = 65535

-- where a label stands
abbrev pub address_in : List Mention → Name → ℕ
address_in [] x = pending
address_in (m ∷ seen) x = cond (is_definition m.used.role && bytes_eq x m.used.spelling) m.address (address_in seen x)

-- a mention is spelled in the text at its place, and its address is one
pub record Sound (text : List ℕ) (m : Mention) : Type 0 where
  pub bytes : take (length m.used.spelling) (drop m.place text) ≡ m.used.spelling
  pub address : m.address < pending

abbrev pub AllSound : List ℕ → List Mention → Type 0
AllSound text [] = Unit {0}
AllSound text (m ∷ seen) = Sound text m × AllSound text seen

module _ (w : Words) where
  -- the symbols, in the order of their first mention
  abbrev pub entries : (Name → ℕ) → List Mention → List Symbol
  entries address [] = []
  entries address (m ∷ seen) =
      cond (known w (key w m.used) (uses_of seen)) (entries address seen)
      (entries address seen ++ (symbol w address (uses_of seen) m.place m.used ∷ []))

  -- how many symbols there are after some uses
  abbrev pub count : List Use → ℕ
  count us = cells w us + labels w us

  -- how many there were at the first use of a symbol, which is its index
  abbrev pub index : Key → List Use → ℕ
  index k [] = 0
  index k (u ∷ us) = cond (known w k us) (index k us) (count us)

  -- a number's cell holds its word, and a variable's 0
  abbrev pub initial : Use → ℤ
  initial u = cond (is_literal u.role) (word w u.spelling) (pos 0)

  -- what the cells of variables and numbers hold
  abbrev pub contents : List Use → List ℤ
  contents [] = []
  contents (u ∷ us) = cond (not (is_label u.role) && not (known w (key w u) us)) (contents us ++ (initial u ∷ [])) (contents us)

  -- the refusals 4 to 8 at the use u, after the uses us
  abbrev pub use_checks : List Use → Use → List Check
  use_checks us u =
      check 4 (not (is_literal u.role) && nat_lt name_limit (length u.spelling))
      ∷ check 5 (is_definition u.role && among is_definition u.spelling us)
      ∷ check 6 (among (differ u.role) u.spelling us)
      ∷ check 7 (not (is_label u.role) && (not (known w (key w u) us) && nat_le cell_limit (cells w us)))
      ∷ check 8 (is_label u.role && (not (known w (key w u) us) && nat_le label_limit (labels w us)))
      ∷ []

  -- the lowest that stands
  abbrev pub use_refusal : List Use → Use → Option ℕ
  use_refusal us u = lowest (use_checks us u)

  -- no use was refused
  abbrev pub Accepted : List Use → Type 0
  Accepted [] = Unit {0}
  Accepted (u ∷ us) = (use_refusal us u ≡ none) × Accepted us

-- the earliest mention of a label that is not among the definitions of us
abbrev pub earliest_unmet : List Use → List Mention → Option Refused
earliest_unmet us [] = none
earliest_unmet us (m ∷ seen) = or_else (earliest_unmet us seen) (refused (unmet us (some m.used)) m.place)

abbrev pub with_mention : ℕ → ℕ → Option Use → List Mention → List Mention
with_mention p a none seen = seen
with_mention p a (some u) seen = record { used = u; place = p; address = a } ∷ seen

-- the mentions among the tokens past, newest first, where the tokens rest come next;
-- `address` says which address a label has that stands after some tokens
abbrev pub mentions_before : (List Token → ℕ) → List Placed → List Token → List Mention
mentions_before address [] rest = []
mentions_before address (p ∷ past) rest =
    with_mention p.offset (address (tokens_of past)) (use_of (tokens_of past) p.token rest) (mentions_before address past (p.token ∷ rest))
