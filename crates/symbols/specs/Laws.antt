-- The theorems about the table: it is the table of the tokens, and no text outgrows it.
use Rattle.token.specs.declared.kinds.Keyword.TheVariants.{If}
use Rattle.token.specs.declared.kinds.Sign.TheVariants.{Open}
use Rattle.std.specs.Prelude.{◌≡◌, ℕ, ◌+◌, ◌<◌, ◌≤◌, true, false, ◌&&◌, ◌↔◌, List, [], ◌∷◌, map, reverse, length, take, nat_le}
use Rattle.std.proofs.Math.Option.{Option, none, some}
use Rattle.token.specs.Tokens.{Token, keyword, sign, Placed}
use Rattle.trees.specs.Trees.{Name}
use Rattle.arithmetic.specs.Words.{Words}
use Rattle.grammar.specs.Tests.{is}
use Rattle.limits.specs.Uses.{Use, In, use_at, uses_before, is_definition, is_listed, is_label, Key, known, cells, is_operator, operators, depth, parts, names}
use Rattle.limits.specs.Rules.{operator_limit, depth_limit, list_limit, here, tokens_of}
use Rattle.limits.specs.Refusals.{Check, check, lowest, or_else, among, used_so, limit_checks, first_unmet}
use Rattle.limits.specs.Symbols.{first_cell, cells_before, symbols}
use Rattle.symbols.specs.declared.table.Table.{Table}
use Rattle.symbols.specs.Entries.{entry}
use Rattle.symbols.specs.Mentions.{Mention, uses_of, pending, address_in, AllSound, entries, index, use_refusal, Accepted, earliest_unmet, mentions_before}
use Rattle.symbols.specs.Table.{size, most_symbols, most_cells, Holds, Keeps}

-- the refusals 4 to 8 are those of a token's use, if it has one
abbrev pub symbol_refusal : Words → List Use → Option Use → Option ℕ
symbol_refusal w us none = none
symbol_refusal w us (some u) = use_refusal w us u

-- the refusals 9 to 11 are left
abbrev pub form_checks_at : List Token → List Token → Option Use → List Check
form_checks_at past rest u =
    check 9 (here is_operator rest && nat_le operator_limit (operators past))
    ∷ check 10 (here (is (sign Open)) rest && nat_le depth_limit (depth past))
    ∷ check 10 (here (is (keyword If)) rest && nat_le depth_limit (length (parts past)))
    ∷ check 11 (used_so (λ r s. is_listed r && nat_le list_limit (names past)) u)
    ∷ []

abbrev pub form_checks : List Token → List Token → List Check
form_checks past rest = form_checks_at past rest (use_at past rest)

-- What the mentions of tokens come to. `at` says which address a label has that stands after some tokens.
pub record OfTokens : Type 0 where
  -- their uses are those of the tokens
  pub same_uses : (at : List Token → ℕ) (past : List Placed) (rest : List Token) → uses_of (mentions_before at past rest) ≡ uses_before (tokens_of past) rest
  -- of the refusals 4 to 11 at a token the lowest is that of its use, and else one of 9 to 11
  pub lowest_is : (w : Words) (past rest : List Token) →
      lowest (limit_checks w past rest) ≡ or_else (symbol_refusal w (uses_before past rest) (use_at past rest)) (lowest (form_checks past rest))
  -- their symbols are those of the tokens
  pub whole : (w : Words) (address : Name → ℕ) (at : List Token → ℕ) (ts : List Placed) → entries w address (mentions_before at (reverse ts) []) ≡ symbols w address ts
  -- refusal 12 is at the earliest mention of a label that stands before no command
  pub earliest : (us : List Use) (at : List Token → ℕ) (ts : List Placed) → earliest_unmet us (mentions_before at (reverse ts) []) ≡ first_unmet us [] ts
  -- a table that holds all tokens has their symbols, with the addresses that the labels were given
  pub table : (w : Words) (at : List Token → ℕ) (ts : List Placed) (t : Table) (address : Name → ℕ) → Holds w t (mentions_before at (reverse ts) []) →
      ((m : Mention) → In m (mentions_before at (reverse ts) []) → is_label m.used.role ≡ true →
      address_in (mentions_before at (reverse ts) []) m.used.spelling ≡ address m.used.spelling) →
      take (size t) t.symbols.now ≡ map entry (symbols w address ts)

-- What holds of all uses without refusal.
pub record OfUses : Type 0 where
  -- there is room for them
  pub few : (w : Words) (address : Name → ℕ) (seen : List Mention) → Accepted w (uses_of seen) →
      (length (entries w address seen) ≤ most_symbols) × (first_cell + cells w (uses_of seen) ≤ most_cells)
  -- a symbol has an index in the table exactly if it is known, and no two have the same
  pub has_index : (w : Words) (k : Key) (seen : List Mention) (address : Name → ℕ) → known w k (uses_of seen) ≡ true → index w k (uses_of seen) < length (entries w address seen)
  pub apart : (w : Words) (k l : Key) (seen : List Mention) → known w k (uses_of seen) ≡ true → known w l (uses_of seen) ≡ true →
      index w k (uses_of seen) ≡ index w l (uses_of seen) → k ≡ l
  -- index and cell of a known symbol stay
  pub index_stays : (w : Words) (k : Key) (u : Use) (us : List Use) → known w k us ≡ true → index w k (u ∷ us) ≡ index w k us
  pub cell_stays : (w : Words) (k : Key) (u : Use) (us : List Use) → known w k us ≡ true → cells_before w k (u ∷ us) ≡ cells_before w k us
  -- a label has the address that its definition gave it
  pub placed : (w : Words) (seen : List Mention) (m : Mention) → Accepted w (uses_of seen) → In m seen → is_definition m.used.role ≡ true →
      address_in seen m.used.spelling ≡ m.address
  -- a label is pending exactly if it stands before no command
  pub is_pending : (text : List ℕ) (seen : List Mention) (x : Name) → AllSound text seen → (address_in seen x ≡ pending) ↔ (among is_definition x (uses_of seen) ≡ false)

-- What calls keep, they keep in a row.
pub record Kept : Type 0 where
  pub still : (a : Table) → Keeps a a
  pub along : (a b c : Table) → Keeps a b → Keeps b c → Keeps a c
