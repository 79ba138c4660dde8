-- The words of a whole draft, coded and settled, are the code of its program.
use Rattle.std.proofs.Common.{◌≡◌, ℕ, pred, ◌+◌, ◌*◌, ◌/◌, ◌%◌, ◌<◌, ◌≤◌, min, true, cond, eqb, List, [], ◌∷◌, map, reverse, length, sym, refl, ap, ◌∙◌, subst, arith}
use mathlib.Core.List.{reverse_aux}
use lib.ListN.{length-map}
use mathlib.Mathlib.Data.List.Basic.{map-reverse_aux}
use Rattle.std.proofs.lemmas.Bool.{true_from_ne_false}
use Rattle.std.specs.List.{AllByRecursion as All}
use Rattle.token.specs.Tokens.{Token, Placed}
use Rattle.trees.specs.Trees.{Name, Program, commands}
use Rattle.arithmetic.specs.Words.{Words}
use Rattle.grammar.specs.Grammar.{Parses}
use Rattle.grammar.proofs.Theorems.{one_reading}
use Rattle.runs.specs.declared.instruction.Instruction.{Instruction}
use Rattle.runs.specs.declared.instruction.Instruction.TheVariants.{Bru, Brz}
use Rattle.runs.specs.Machine.{encode}
use Rattle.runs.specs.Code.{program_size, address_of, instructions, code_of}
use Rattle.runs.specs.Placed.{variables, literals, wholes, collected}
use Rattle.runs.proofs.Basics.{all_among}
use Rattle.runs.proofs.Sound.{Bound, codes_size, codes_bound}
use Rattle.runs.proofs.Stands.{code_is_sound_lem}
use Rattle.limits.specs.Uses.{Role, variable_use, number_use, Use, made, In, uses_before, uses, is_definition, is_label, Key, label_key, key_by, key, known}
use Rattle.limits.specs.Rules.{code_limit, Clear, Met, tokens_of}
use Rattle.limits.specs.Refusals.{among}
use Rattle.limits.specs.Symbols.{first_cell, cells_before}
use Rattle.limits.proofs.Keys.{clash, known_sound, known_complete}
use Rattle.limits.proofs.Lists.{seen_earlier}
use Rattle.limits.proofs.Search.{all_seen, somewhere_defined}
use Rattle.limits.proofs.Cells.{variable_in, literal_in, few_cells}
use Rattle.limits.proofs.Fitting.{fits}
use Rattle.limits.proofs.Naming.{in_tokens}
use Rattle.sheets.proofs.Members.{all_variables, all_literals, few_operators}
use Rattle.emission.specs.Draft.{Word, fixed, jump, jump_zero, Draft, words_of, here, label_address, resolved}
use Rattle.emission.specs.Layouts.{layout}
use Rattle.emission.specs.Laws.{Whole}
use Rattle.emission.proofs.Programs.{sound}
use Rattle.symbols.specs.declared.table.Table.{Table}
use Rattle.symbols.specs.declared.kinds.Symbol.{Symbol}
use Rattle.symbols.specs.Mentions.{Mention, uses_of, address_in, index, mentions_before}
use Rattle.symbols.specs.Table.{Holds}
use Rattle.symbols.proofs.Reading.{describes}
use Rattle.symbols.proofs.Whole.{same_uses, few, has_index}
use Rattle.assembly.specs.Words.{packed, instruction_word, jump_operation, jump_zero_operation}
use Rattle.assembly.specs.Drawn.{coded}
use Rattle.reading.specs.References.{numbering, Matches, Labelled}
use Rattle.reading.specs.Settling.{address_at, settled_word}
use Rattle.reading.specs.Laws.{Resolves}
use Rattle.reading.proofs.Placing.{placed}

-- Words.

-- what a word of a code in the making becomes, by its parts
abbrev settled_as : List Symbol → ℕ → ℕ → ℕ → ℕ
settled_as ss o a v = cond (eqb o jump_operation) (packed 0 (address_at ss a)) (cond (eqb o jump_zero_operation) (packed 1 (address_at ss a)) v)

taken_apart : (ss : List Symbol) (o a : ℕ) → a < 4096 → settled_word ss (packed o a) ≡ settled_as ss o a (o * 4096 + a)
taken_apart ss o a h =
    let v : packed o a ≡ o * 4096 + a = omega arith in
    let x : (o * 4096 + a) / 4096 ≡ o = omega arith in
    let y : (o * 4096 + a) % 4096 ≡ a = omega arith in
    ap (settled_word ss) v ∙ (λ i. settled_as ss (x i) (y i) (o * 4096 + a))

-- any cell may be written
abbrev pub Anywhere : ℕ → Type 0
Anywhere c = Unit {0}

fixed_word : (ss : List Symbol) (u : ℕ) → u ≤ 512 → (i : Instruction) → Bound 4096 u Anywhere i → settled_word ss (instruction_word i) ≡ encode i
fixed_word ss u l i h = grind arith

-- a jump to a label gets the label's address, which is below 4,096
jump_word : (ss : List Symbol) (n a : ℕ) → n < 4096 → a < 4096 → address_at ss n ≡ a → settled_word ss (packed jump_operation n) ≡ encode (Bru a)
jump_word ss n a l h e = taken_apart ss 11 n l ∙ ap (packed 0) e ∙ omega arith

jump_zero_word : (ss : List Symbol) (n a : ℕ) → n < 4096 → a < 4096 → address_at ss n ≡ a → settled_word ss (packed jump_zero_operation n) ≡ encode (Brz a)
jump_zero_word ss n a l h e = taken_apart ss 12 n l ∙ ap (packed 1) e ∙ omega arith

-- `number` gives a label its symbol, and the symbol has the address that `to` gives the label
pub record Numbered (ss : List Symbol) (number to : Name → ℕ) (l : Name) : Type 0 where
  pub low_number : number l < 4096
  pub at_number : address_at ss (number l) ≡ to l

module _ (w : Words) (us : List Use) where
  pub labelled_onto : (vs ws : List Word) → Labelled w us vs → Labelled w us ws → Labelled w us (reverse_aux vs ws)
  labelled_onto [] ws h g = g
  labelled_onto (fixed i ∷ vs) ws h g = labelled_onto vs (fixed i ∷ ws) h g
  labelled_onto (jump l ∷ vs) ws h g = labelled_onto vs (jump l ∷ ws) h.1 (h.0, g)
  labelled_onto (jump_zero l ∷ vs) ws h g = labelled_onto vs (jump_zero l ∷ ws) h.1 (h.0, g)

  module _ (ss : List Symbol) (number to : Name → ℕ) (u : ℕ) (few : u ≤ 512) (numbered : (l : Name) → known w (label_key l) us ≡ true → Numbered ss number to l) where
    all_words : (vs : List Word) → Labelled w us vs → All (Bound 4096 u Anywhere) (map (resolved to) vs) → map (settled_word ss) (map (coded number) vs) ≡ map encode (map (resolved to) vs)
    all_words [] h b = refl
    all_words (fixed i ∷ vs) h b = (λ j. fixed_word ss u few i b.0 j ∷ all_words vs h b.1 j)
    all_words (jump l ∷ vs) h b =
        let n = numbered l h.0 in
        (λ j. jump_word ss (number l) (to l) n.low_number b.0 n.at_number j ∷ all_words vs h.1 b.1 j)
    all_words (jump_zero l ∷ vs) h b =
        let n = numbered l h.0 in
        (λ j. jump_zero_word ss (number l) (to l) n.low_number b.0 n.at_number j ∷ all_words vs h.1 b.1 j)

-- The instructions of a program without refusal have operands below 4,096: addresses in the code, and cells in use.
pub bounded : (w : Words) (ts : List Token) (p : Program) → Clear w ts → Parses ts p → program_size p ≤ 4096 → All (Bound 4096 (layout w ts).used Anywhere) (instructions (layout w ts) p)
bounded w ts p clear parses short =
    let y = layout w ts in
    let s = code_is_sound_lem.size y p in
    let n = length-map (instructions y p) encode in
    let e = codes_size y (address_of p) (commands p) 0 in
    codes_bound y (address_of p) 4096 (omega arith) (λ l. let a = code_is_sound_lem.addresses p l in omega arith) Anywhere tt (λ c a b. tt) (commands p) 0 (omega arith)
    (all_among _ (collected wholes (commands p)) (few_operators (commands p) (fits w ts p clear parses)))
    (all_among _ (collected variables (commands p)) (λ x v. ((variable_in w ts x (in_tokens ts p parses (made variable_use x) (all_variables (commands p) x v))).1, tt)))
    (all_among _ (collected literals (commands p)) (λ x v. (literal_in w ts x (in_tokens ts p parses (made number_use x) (all_literals (commands p) x v))).1))

-- The labels of the uses.

-- a use with a label's key is one of the label
pub by_label : (w : Words) (r : Role) (s l : List ℕ) → key_by w r s ≡ label_key l → (is_label r ≡ true) × (s ≡ l)
by_label w r s l e = grind arith

-- a label that is mentioned is among the definitions
pub met_defined : (ts : List Token) → Met ts → (r : Role) (l : Name) → In (made r l) (uses ts) → is_label r ≡ true → among is_definition l (uses ts) ≡ true
met_defined ts met r l i b =
    let k = seen_earlier ts r l (length ts) (rw (all_seen ts) i) in
    true_from_ne_false (among is_definition l (uses ts)) (λ e.
    met k.index (record { role = r; spelling = l; mentioned = k.used; label = b; nowhere = λ j u. clash (somewhere_defined ts l j u) e }))

-- the uses of all mentions are those of the tokens
pub all_uses : (address : List Token → ℕ) (ts : List Placed) → uses_of (mentions_before address (reverse ts) []) ≡ uses (tokens_of ts)
all_uses address ts = same_uses address (reverse ts) [] ∙ ap (λ z. uses_before z []) (map-reverse_aux (λ (p : Placed). p.token) ts [])

module _ (w : Words) (ts : List Placed) (address : List Token → ℕ) (t : Table) (d : Draft) (p : Program) (whole : Whole (layout w (tokens_of ts)) p d)
    (met : Met (tokens_of ts)) (short : here d ≤ code_limit) (held : Holds w t (mentions_before address (reverse ts) []))
    (matches : Matches d.definitions (mentions_before address (reverse ts) [])) where
  abbrev seen : List Mention
  seen = mentions_before address (reverse ts) []

  low_index : (k : Key) → known w k (uses_of seen) ≡ true → index w k (uses_of seen) < 4096
  low_index k e =
      let a = has_index w k seen (address_in seen) e in
      let b = (few w (address_in seen) seen held.accepted).0 in
      omega arith

  low_address : (l : Name) → label_address d l < 4096
  low_address l =
      let a = whole.same_addresses l in
      let b = code_is_sound_lem.addresses p l in
      let c = whole.same_size in
      omega arith

  numbered_by : (us : List Use) → uses_of seen ≡ us → ((r : Role) (l : Name) → In (made r l) us → is_label r ≡ true → among is_definition l us ≡ true) →
      (l : Name) (u : Use) → In u us → key w u ≡ label_key l → Numbered t.symbols.now (λ x. index w (label_key x) us) (label_address d) l
  numbered_by us e defined l u i k =
      let b = by_label w u.role u.spelling l k in
      let n : index w (label_key l) us ≡ index w (key w u) (uses_of seen) = (λ j. index w (sym k j) (sym e j)) in
      let m : among is_definition l (uses_of seen) ≡ true =
      ap (among is_definition l) e ∙ defined u.role l (subst (λ (x : List ℕ). In (made u.role x) us) b.1 i) b.0 in
      let low = low_address l in
      let z : min (label_address d l) 4096 ≡ label_address d l = omega arith in
      record {
        low_number = rw e at (low_index (label_key l) (ap (known w (label_key l)) e ∙ known_complete w (label_key l) u us i k));
        at_number = (describes w t seen held u (rw e i) (index w (label_key l) us) n).at_is
            ∙ (λ j. cond (b.0 j) (address_in seen (b.1 j)) (first_cell + cells_before w (key w u) (uses_of seen)))
            ∙ placed w d.definitions seen matches held.accepted l (pred (here d)) m ∙ z;
      }

  pub numbered : (l : Name) → known w (label_key l) (uses (tokens_of ts)) ≡ true → Numbered t.symbols.now (numbering w (tokens_of ts)) (label_address d) l
  numbered l k =
      let u = known_sound w (label_key l) (uses (tokens_of ts)) k in
      numbered_by (uses (tokens_of ts)) (all_uses address ts) (met_defined (tokens_of ts) met) l u.0 u.1 u.2

  settled_whole : Clear w (tokens_of ts) → Parses (tokens_of ts) p → Labelled w (uses (tokens_of ts)) (words_of d) →
      map (settled_word t.symbols.now) (map (coded (numbering w (tokens_of ts))) (reverse (words_of d))) ≡ code_of (layout w (tokens_of ts)) p
  settled_whole clear parses labelled =
      let size : program_size p ≤ 4096 = omega (arith, whole.same_size) in
      let low = bounded w (tokens_of ts) p clear parses size in
      all_words w (uses (tokens_of ts)) t.symbols.now (numbering w (tokens_of ts)) (label_address d) (layout w (tokens_of ts)).used (few_cells w (tokens_of ts) clear) numbered
      (reverse (words_of d)) (labelled_onto w (uses (tokens_of ts)) (words_of d) [] labelled tt) (rw whole.same_instructions low)
      ∙ whole.same_words

pub resolves : Resolves
resolves w ts address t d p end parses clear met short held matches labelled =
    let x = sound (layout w (tokens_of ts)) (tokens_of ts) d end in
    let whole : Whole (layout w (tokens_of ts)) p d = subst (λ (q : Program). Whole (layout w (tokens_of ts)) q d) (one_reading (tokens_of ts) x.0 p x.1 parses) x.2 in
    settled_whole w ts address t d p whole met short held matches clear parses labelled
