-- What the table is told of a token, and what it answers.
use Rattle.std.specs.Prelude.{◌≡◌, ℕ, ◌+◌, ◌<◌, true, false, List, ◌∷◌, length, Some, None, Ok, Err, Option, Result}
use Rattle.std.proofs.Math.Option as maybe
use Rattle.fault.specs.declared.Fault.{Fault}
use Rattle.fault.specs.Refusals.{numbered}
use Rattle.token.specs.Lexis.{digit}
use Rattle.token.specs.Numbers.{every}
use Rattle.token.specs.Tokens.{Token, name, number, keyword, sign, other}
use Rattle.arithmetic.specs.Words.{Words}
use Rattle.limits.specs.Uses.{number_use, Use, In, is_label, key}
use Rattle.limits.specs.Symbols.{first_cell, cells_before}
use Rattle.symbols.specs.declared.table.Table.{Table}
use Rattle.symbols.specs.Mentions.{Mention, uses_of, index, Sound, use_refusal}
use Rattle.symbols.specs.declared.kinds.Role.{Role}
use Rattle.symbols.specs.Entries.{meant}
use Rattle.symbols.specs.Table.{Holds, Gives, mention}
use Rattle.reading.specs.References.{reference}

-- a mention is entered, and what it refers to is answered; or the lowest refusal that stands at it
abbrev pub Noted : Words → Table → List Mention → Mention → Result ℕ Fault → Type 0
Noted w b seen m (Ok r) = (use_refusal w (uses_of seen) m.used ≡ maybe.none) × Holds w b (m ∷ seen) × (r ≡ reference w (uses_of (m ∷ seen)) m.used)
Noted w b seen m (Err f) = (use_refusal w (uses_of seen) m.used ≡ maybe.some (numbered f.refusal)) × (f.place ≡ m.place)

-- the cell of a variable or a number, at the index of its symbol
abbrev pub CellRead : Table → ℕ → ℕ → Type 0
CellRead t i r =
    (w : Words) (seen : List Mention) (u : Use) → Holds w t seen → In u (uses_of seen) → is_label u.role ≡ false → i ≡ index w (key w u) (uses_of seen) →
    r ≡ first_cell + cells_before w (key w u) (uses_of seen)

-- places and lengths have 16 bits
pub record Short (place : ℕ) (bytes : List ℕ) : Type 0 where
  pub place_short : place < 65535
  pub bytes_short : length bytes < 65535

-- a name in a role, at a place; its address is the one that the role gives
abbrev pub NameNoted : Table → Table → Role → ℕ → List ℕ → Result ℕ Fault → Type 0
NameNoted a b r p s x =
    (w : Words) (seen : List Mention) (address : ℕ) → Holds w a seen → Short p s → Gives r address → Sound a.text.now (mention (meant r) s p address) →
    Noted w b seen (mention (meant r) s p address) x

-- a number
abbrev pub NumberNoted : Words → Table → Table → ℕ → List ℕ → Result ℕ Fault → Type 0
NumberNoted w a b p s x =
    (seen : List Mention) (address : ℕ) → Holds w a seen → Short p s → Sound a.text.now (mention number_use s p address) → every digit s ≡ true →
    Noted w b seen (mention number_use s p address) x

-- any token: others are not told, and refer to nothing
abbrev pub TokenNoted : Words → Table → Table → Role → ℕ → Option Token → Result ℕ Fault → Type 0
TokenNoted w a b r p None x = (b ≡ a) × (x ≡ Ok 0)
TokenNoted w a b r p (Some (name s)) x = NameNoted a b r p s x
TokenNoted w a b r p (Some (number s)) x = NumberNoted w a b p s x
TokenNoted w a b r p (Some (keyword k)) x = (b ≡ a) × (x ≡ Ok 0)
TokenNoted w a b r p (Some (sign s)) x = (b ≡ a) × (x ≡ Ok 0)
TokenNoted w a b r p (Some (other v)) x = (b ≡ a) × (x ≡ Ok 0)
