-- What the table answers of a name or a number, as what it refers to.
use Rattle.std.proofs.Common.{◌≡◌, ℕ, ◌+◌, min, true, false, cond, List, ◌∷◌, length, Ok, Err, Result, sym, ap, ◌∙◌, subst, arith}
use Rattle.fault.specs.declared.Fault.{Fault}
use Rattle.arithmetic.specs.Words.{Words}
use Rattle.token.specs.Lexis.{digit}
use Rattle.token.specs.Numbers.{every}
use Rattle.limits.specs.Uses.{number_use, at_head, is_label, key}
use Rattle.limits.specs.Symbols.{first_cell, cells_before}
use Rattle.symbols.specs.declared.table.Table.{Table}
use Rattle.symbols.specs.declared.kinds.Role.{Role}
use Rattle.symbols.specs.declared.kinds.Spelling.{Spelling}
use Rattle.symbols.specs.Entries.{meant}
use Rattle.symbols.specs.Mentions.{Mention, uses_of, index, Sound}
use Rattle.symbols.specs.Table.{Holds, Taken, Decides, NameTold, DigitsTold, Gives, mention}
use Rattle.reader.specs.Telling.{Noted, CellRead, Short}

-- the cell at the index of a use that is taken
pub cell_noted : (w : Words) (b : Table) (seen : List Mention) (m : Mention) (i v : ℕ) → Taken w b seen m i → is_label m.used.role ≡ false → CellRead b i v →
    Noted w b seen m (Ok v)
cell_noted w b seen m i v t l h =
    let u = m.used in
    let e : v ≡ first_cell + cells_before w (key w u) (uses_of (m ∷ seen)) = h w (m ∷ seen) u t.holds at_head l t.is_index in (
      t.no_refusal,
      t.holds,
      e ∙ ap (λ x. cond x (index w (key w u) (uses_of (m ∷ seen))) (first_cell + cells_before w (key w u) (uses_of (m ∷ seen)))) (sym l),
    )

-- a refusal is passed on
pub refusal_noted : (w : Words) (b : Table) (seen : List Mention) (m : Mention) (x : Result ℕ Fault) (f : Fault) → x ≡ Err f → Decides w b seen m (Err f) → Noted w b seen m x
refusal_noted w b seen m x f e d = subst (Noted w b seen m) (sym e) d

-- places and lengths of a text that is short enough stand in 16 bits
pub name_told : (a b : Table) (r : Role) (s : List ℕ) (p : ℕ) (at : Spelling) (x : Result ℕ Fault) → NameTold a b r at x → at.place ≡ min p 65535 → at.length ≡ min (length s) 65535 →
    (w : Words) (seen : List Mention) (address : ℕ) → Holds w a seen → Short p s → Gives r address → Sound a.text.now (mention (meant r) s p address) →
    Decides w b seen (mention (meant r) s p address) x
name_told a b r s p at x told e f w seen address h short given sound =
    let i : at.place ≡ p = omega (arith, short.place_short) in
    subst (λ k. Decides w b seen (mention (meant r) s k address) x) i
    (told w seen s address h (omega (arith, short.bytes_short)) given (subst (λ k. Sound a.text.now (mention (meant r) s k address)) (sym i) sound))

pub digits_told : (w : Words) (a b : Table) (s : List ℕ) (p : ℕ) (at : Spelling) (x : Result ℕ Fault) → DigitsTold w a b at x → at.place ≡ min p 65535 → at.length ≡ min (length s) 65535 →
    (seen : List Mention) (address : ℕ) → Holds w a seen → Short p s → Sound a.text.now (mention number_use s p address) → every digit s ≡ true →
    Decides w b seen (mention number_use s p address) x
digits_told w a b s p at x told e f seen address h short sound d =
    let i : at.place ≡ p = omega (arith, short.place_short) in
    subst (λ k. Decides w b seen (mention number_use s k address) x) i
    (told seen s address h (omega (arith, short.bytes_short)) (subst (λ k. Sound a.text.now (mention number_use s k address)) (sym i) sound) d)
