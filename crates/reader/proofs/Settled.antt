-- Settling a code, word by word.
use Rattle.std.proofs.Common.{◌≡◌, ℕ, ◌+◌, ◌%◌, ◌/◌, ◌<◌, Bool, true, false, ◌||◌, List, [], ◌∷◌, ◌++◌, map, reverse, length, take, drop, cond, ◌==◌, get_or, set, refl, sym, ap, ◌∙◌, subst, arith, get_or-take}
use lib.ListN.{length-map}
use Rattle.std.proofs.lemmas.List.{get_or_default, length-take}
use Rattle.std.proofs.lemmas.List.Edits.{map_over_more}
use Rattle.trees.specs.Trees.{Name}
use Rattle.arithmetic.specs.Words.{Words}
use Rattle.runs.specs.declared.instruction.Instruction.{Instruction}
use Rattle.limits.specs.Uses.{Use, uses, Key, label_key, known}
use Rattle.limits.specs.Rules.{tokens_of}
use Rattle.emission.specs.Draft.{Word, fixed, jump, jump_zero, words_of}
use Rattle.symbols.specs.declared.table.Table.{Table}
use Rattle.symbols.specs.declared.kinds.Symbol.{Symbol}
use Rattle.symbols.specs.Entries.{blank, entry}
use Rattle.symbols.specs.Mentions.{Mention, uses_of, address_in, entries, index, mentions_before}
use Rattle.symbols.specs.Table.{Holds, size}
use Rattle.symbols.proofs.Whole.{has_index}
use Rattle.assembly.specs.Words.{packed, instruction_word, jump_operation, jump_zero_operation}
use Rattle.assembly.specs.Drawn.{coded}
use Rattle.reading.specs.References.{numbering, Labelled}
use Rattle.reading.specs.Settling.{address_at, settled_word}
use Rattle.reading.proofs.Resolving.{labelled_onto, all_uses, resolves}
use Rattle.reader.specs.Settling.{address_by, settled_by, is_jump, InUse, Settles}

-- a word depends on the address only where it is a jump
either : (j z : Bool) (a b v : ℕ) → (j || z ≡ true → a ≡ b) → cond j (packed 0 a) (cond z (packed 1 a) v) ≡ cond j (packed 0 b) (cond z (packed 1 b) v)
either true z a b v h = ap (packed 0) (h refl)
either false true a b v h = ap (packed 1) (h refl)
either false false a b v h = refl

pub in_use : InUse
in_use t v l =
    either (v / 4096 == jump_operation) (v / 4096 == jump_zero_operation) (address_by t (v % 4096)) (address_at t.symbols.now (v % 4096)) v
    (λ e. ap (λ (s : Symbol). s.at) (get_or-take (size t) t.symbols.now (v % 4096) blank (l e)))

-- one word more
pub settled_more : (t : Table) (xs ys : List ℕ) (i r : ℕ) → i < length ys → length ys ≡ length xs → ys ≡ map (settled_by t) (take i xs) ++ drop i xs → r ≡ settled_by t (get_or ys i 0) →
    set ys i r ≡ map (settled_by t) (take (i + 1) xs) ++ drop (i + 1) xs
settled_more t xs ys i r l same h e =
    ap (λ v. set ys i v) e ∙ map_over_more (settled_by t) xs ys i (get_or ys i 0) (omega arith) h (get_or_default ys i 0 (get_or ys i 0) l)

-- A whole code.

-- the machine's own words are no jumps to labels
no_jump : (i : Instruction) → is_jump (instruction_word i) ≡ true → ⊥
no_jump i e = grind arith

module _ (w : Words) (us : List Use) (t : Table) (number : Name → ℕ) (used : (l : Name) → known w (label_key l) us ≡ true → number l < size t) where
  all_in_use : (vs : List Word) → Labelled w us vs → map (settled_by t) (map (coded number) vs) ≡ map (settled_word t.symbols.now) (map (coded number) vs)
  all_in_use [] h = refl
  all_in_use (fixed i ∷ vs) h = (λ j. in_use t (instruction_word i) (λ e. absurd (no_jump i e)) j ∷ all_in_use vs h j)
  all_in_use (jump l ∷ vs) h = (λ j. in_use t (packed jump_operation (number l)) (λ e. omega (arith, used l h.0)) j ∷ all_in_use vs h.1 j)
  all_in_use (jump_zero l ∷ vs) h = (λ j. in_use t (packed jump_zero_operation (number l)) (λ e. omega (arith, used l h.0)) j ∷ all_in_use vs h.1 j)

-- the symbol of a known key is in use
held_index : (w : Words) (t : Table) (seen : List Mention) → Holds w t seen → (k : Key) → known w k (uses_of seen) ≡ true → index w k (uses_of seen) < size t
held_index w t seen h k e =
    let a = has_index w k seen (address_in seen) e in
    let es = entries w (address_in seen) seen in
    let b = sym (length-map es entry) ∙ ap length (sym h.symbols_are) ∙ length-take (size t) t.symbols.now in
    omega (arith, a, b)

pub settles : Settles
settles w ts address t d p end parses clear met short held matches labelled =
    let us = uses (tokens_of ts) in
    let same = all_uses address ts in
    let used : (l : Name) → known w (label_key l) us ≡ true → index w (label_key l) us < size t = subst
    (λ (x : List Use). (l : Name) → known w (label_key l) x ≡ true → index w (label_key l) x < size t) same
    (λ l e. held_index w t (mentions_before address (reverse ts) []) held (label_key l) e) in
    all_in_use w us t (numbering w (tokens_of ts)) used (reverse (words_of d)) (labelled_onto w us (words_of d) [] labelled tt)
    ∙ resolves w ts address t d p end parses clear met short held matches labelled
