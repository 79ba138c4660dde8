-- What is found in the table, and what is not, by the uses that it holds.
use Rattle.std.proofs.Common.{◌≡◌, ℕ, ◌+◌, ◌<◌, true, false, cond, eqb, ltb, ◌⊎◌, List, [], ◌∷◌, map, length, get_or, take, drop, ℤ, pos, sym, refl, ap, ◌∙◌, subst, inl, inr, arith, get_or-drop, get_or-take}
use Rattle.std.proofs.lemmas.List.{get_or-map, length-map}
use Rattle.std.proofs.lemmas.Bool.{false≢true, and_parts, and_from, eq-eqb, lt-ltb}
use Rattle.token.specs.Numbers.{word}
use Rattle.arithmetic.specs.Words.{Words}
use Rattle.limits.specs.Uses.{Role, definition, target, listed, variable_use, number_use, Use, In, at_head, in_tail, is_literal, is_label, Key, label_key, variable_key, number_key, same_word, key_by, known}
use Rattle.limits.specs.Symbols.{first_cell, kind_of}
use Rattle.limits.proofs.Keys.{Way, holds, fails, way, clash, same_word_sound, same_word_refl, same_bytes_sound, same_bytes_complete}
use Rattle.symbols.specs.declared.table.Table.{Table}
use Rattle.symbols.specs.Entries.{Spelling, blank, entry, kind_entry, part}
use Rattle.symbols.specs.Mentions.{Mention, uses_of, address_in, Sound, AllSound, contents}
use Rattle.symbols.specs.Table.{size, Holds, has_name, of_label, of_number, is_named, is_valued}
use Rattle.symbols.proofs.Firsts.{First, no_first, entered, key_of, firsts, entries_are, firsts_count, contents_count, FirstAt, first_at, has_first}
use Rattle.symbols.proofs.Exact.{in_cases}

-- kinds and roles
named_role : (r : Role) → has_name (kind_entry (kind_of r)) ≡ true → is_literal r ≡ false
named_role definition e = refl
named_role target e = refl
named_role listed e = refl
named_role variable_use e = refl
named_role number_use e = absurd (false≢true e)

role_named : (r : Role) → is_literal r ≡ false → has_name (kind_entry (kind_of r)) ≡ true
role_named definition e = refl
role_named target e = refl
role_named listed e = refl
role_named variable_use e = refl
role_named number_use e = absurd (clash refl e)

numbered_role : (r : Role) → of_number (kind_entry (kind_of r)) ≡ true → r ≡ number_use
numbered_role definition e = absurd (false≢true e)
numbered_role target e = absurd (false≢true e)
numbered_role listed e = absurd (false≢true e)
numbered_role variable_use e = absurd (false≢true e)
numbered_role number_use e = refl

pub label_role : (r : Role) → of_label (kind_entry (kind_of r)) ≡ is_label r
label_role definition = refl
label_role target = refl
label_role listed = refl
label_role variable_use = refl
label_role number_use = refl

pub record Named (r : Role) (t s : List ℕ) : Type 0 where
  pub is_name : is_literal r ≡ false
  pub spells : t ≡ s

label_name : (w : Words) (r : Role) (t s : List ℕ) → key_by w r t ≡ label_key s → Named r t s
label_name w definition t s e = record { is_name = refl; spells = cc }
label_name w target t s e = record { is_name = refl; spells = cc }
label_name w listed t s e = record { is_name = refl; spells = cc }
label_name w variable_use t s e = absurd (cc)
label_name w number_use t s e = absurd (cc)

variable_name : (w : Words) (r : Role) (t s : List ℕ) → key_by w r t ≡ variable_key s → Named r t s
variable_name w definition t s e = absurd (cc)
variable_name w target t s e = absurd (cc)
variable_name w listed t s e = absurd (cc)
variable_name w variable_use t s e = record { is_name = refl; spells = cc }
variable_name w number_use t s e = absurd (cc)

record Valued (w : Words) (r : Role) (t : List ℕ) (v : ℤ) : Type 0 where
  is_number : r ≡ number_use
  is_word : word w t ≡ v

number_name : (w : Words) (r : Role) (t : List ℕ) (v : ℤ) → key_by w r t ≡ number_key v → Valued w r t v
number_name w definition t v e = absurd (cc)
number_name w target t v e = absurd (cc)
number_name w listed t v e = absurd (cc)
number_name w variable_use t v e = absurd (cc)
number_name w number_use t v e = record { is_number = refl; is_word = cc }

-- a mention of a sound list is sound
pub sound_in : (text : List ℕ) (seen : List Mention) → AllSound text seen → (m : Mention) → In m seen → Sound text m
sound_in text [] a m i = elim i [ ]
sound_in text (v ∷ seen) a m i = by (in_cases i) (λ j. sound_in text seen a.1 m j)
  where
    by : (v ≡ m) ⊎ In m seen → (In m seen → Sound text m) → Sound text m
    by (inl e) ih = subst (λ (x : Mention). Sound text x) e a.0
    by (inr j) ih = ih j

-- the uses of mentions
pub use_in : (seen : List Mention) (m : Mention) → In m seen → In m.used (uses_of seen)
use_in [] m i = elim i [ ]
use_in (v ∷ seen) m i = by (in_cases i) (λ j. use_in seen m j)
  where
    by : (v ≡ m) ⊎ In m seen → (In m seen → In m.used (uses_of seen)) → In m.used (v.used ∷ uses_of seen)
    by (inl e) ih = subst (λ (x : Mention). In m.used (x.used ∷ uses_of seen)) (sym e) at_head
    by (inr j) ih = in_tail (ih j)

module _ (w : Words) (t : Table) (seen : List Mention) (h : Holds w t seen) where
  abbrev us : List Use
  us = uses_of seen

  abbrev pub the : ℕ → First
  the i = get_or (firsts w seen) i no_first

  pub firsts_size : length (firsts w seen) ≡ size t
  firsts_size = firsts_count w seen ∙ (λ i. sym h.cell_count i + sym h.label_count i)

  pub symbols_firsts : take (size t) t.symbols.now ≡ map entry (map (entered (address_in seen)) (firsts w seen))
  symbols_firsts = h.symbols_are ∙ ap (map entry) (entries_are w (address_in seen) seen)

  pub entry_at : (i : ℕ) → i < size t → get_or t.symbols.now i blank ≡ entry (entered (address_in seen) (the i))
  entry_at i l =
      let e = firsts_size in
      let p : i < length (firsts w seen) = omega (arith, e) in
      let q : i < length (map (entered (address_in seen)) (firsts w seen)) = rw (length-map (firsts w seen) (entered (address_in seen))) p in
      sym (get_or-take (size t) t.symbols.now i blank l) ∙ ap (λ x. get_or x i blank) symbols_firsts
      ∙ get_or-map entry (map (entered (address_in seen)) (firsts w seen)) i (entered (address_in seen) no_first) blank q
      ∙ ap entry (get_or-map (entered (address_in seen)) (firsts w seen) i no_first (entered (address_in seen) no_first) p)

  pub the_first : (i : ℕ) → i < size t → FirstAt w seen i (the i)
  the_first i l = first_at w seen i (omega (arith, firsts_size))

  -- a first mention is spelled in the text
  first_bytes : (i : ℕ) → i < size t → take (length (the i).mention.used.spelling) (drop (the i).mention.place t.text.now) ≡ (the i).mention.used.spelling
  first_bytes i l = (sound_in t.text.now seen h.sound (the i).mention (the_first i l).is_in).bytes

  -- the cell of a variable or a number
  pub cell_at : (n : ℕ) → n < t.celled → get_or t.cells.now (first_cell + n) (pos 0) ≡ get_or (contents w us) n (pos 0)
  cell_at n l = sym (get_or-drop first_cell t.cells.now n (pos 0)) ∙ sym (get_or-take t.celled (drop first_cell t.cells.now) n (pos 0) l) ∙ ap (λ x. get_or x n (pos 0)) h.cells_are

  -- the name s, at a place
  module _ (at : Spelling) (s : List ℕ) (sized : length s ≡ at.length) (bytes : take (length s) (drop at.place t.text.now) ≡ s) where
    spelled : part t.text.now at ≡ s
    spelled = ap (λ n. take n (drop at.place t.text.now)) (sym sized) ∙ bytes

    pub name_found : (i : ℕ) → i < size t → is_named t.text.now at (get_or t.symbols.now i blank) ≡ true → Named (the i).mention.used.role (the i).mention.used.spelling s
    name_found i l e =
        let f = the i in
        let x : is_named t.text.now at (entry (entered (address_in seen) f)) ≡ true = ap (is_named t.text.now at) (sym (entry_at i l)) ∙ e in
        let a = and_parts (has_name (kind_entry (kind_of f.mention.used.role))) _ x in
        let b = and_parts (eqb (length f.mention.used.spelling) at.length) _ a.1 in
        record { is_name = named_role f.mention.used.role a.0; spells = sym (first_bytes i l) ∙ same_bytes_sound _ _ b.1 ∙ spelled }

    named : (i : ℕ) → i < size t → Named (the i).mention.used.role (the i).mention.used.spelling s → is_named t.text.now at (get_or t.symbols.now i blank) ≡ true
    named i l a =
        let f = the i in
        ap (is_named t.text.now at) (entry_at i l)
        ∙ and_from (has_name (kind_entry (kind_of f.mention.used.role))) _ (role_named f.mention.used.role a.is_name)
        (and_from (eqb (length f.mention.used.spelling) at.length) _ (eq-eqb _ _ (ap length a.spells ∙ sized))
        (same_bytes_complete _ _ (first_bytes i l ∙ a.spells ∙ sym spelled)))

    module _ (none : (i : ℕ) → i < size t → is_named t.text.now at (get_or t.symbols.now i blank) ≡ false) where
      absent : (k : Key) → ((i : ℕ) → key_of w (the i) ≡ k → Named (the i).mention.used.role (the i).mention.used.spelling s) → known w k us ≡ false
      absent k names = by (way (known w k us))
        where
          by : Way (known w k us) → known w k us ≡ false
          by (fails e) = e
          by (holds e) =
              let x = has_first w seen k e in
              let l : x.place < size t = omega (arith, x.within, firsts_size) in
              absurd (clash (named x.place l (names x.place x.is_key)) (none x.place l))

      pub no_label_key : known w (label_key s) us ≡ false
      no_label_key = absent (label_key s) (λ i e. label_name w (the i).mention.used.role (the i).mention.used.spelling s e)

      pub no_variable_key : known w (variable_key s) us ≡ false
      no_variable_key = absent (variable_key s) (λ i e. variable_name w (the i).mention.used.role (the i).mention.used.spelling s e)

  -- a number with the word v
  module _ (v : ℤ) where
    first_word : (i : ℕ) → i < size t → (the i).mention.used.role ≡ number_use →
        ((the i).before < t.celled) × (get_or t.cells.now (first_cell + (the i).before) (pos 0) ≡ word w (the i).mention.used.spelling)
    first_word i l r =
        let f = the_first i l in
        let n : is_label (the i).mention.used.role ≡ false = ap is_label r in
        let b : (the i).before < t.celled = omega (arith, f.in_cells n, contents_count w us, h.cell_count) in
        (b, cell_at (the i).before b ∙ f.holds_it n ∙ ap (λ x. cond (is_literal x) (word w (the i).mention.used.spelling) (pos 0)) r)

    abbrev at_cell : ℕ → ℕ
    at_cell i = cond (is_label (the i).mention.used.role) (address_in seen (the i).mention.used.spelling) (first_cell + (the i).before)

    at_is : (i : ℕ) → (the i).mention.used.role ≡ number_use → at_cell i ≡ first_cell + (the i).before
    at_is i r = ap (λ x. cond (is_label x) (address_in seen (the i).mention.used.spelling) (first_cell + (the i).before)) r

    pub number_found : (i : ℕ) → i < size t → is_valued t.cells.now v (get_or t.symbols.now i blank) ≡ true → key_of w (the i) ≡ number_key v
    number_found i l e =
        let f = the i in
        let x : is_valued t.cells.now v (entry (entered (address_in seen) f)) ≡ true = ap (is_valued t.cells.now v) (sym (entry_at i l)) ∙ e in
        let a = and_parts (of_number (kind_entry (kind_of f.mention.used.role))) _ x in
        let b = and_parts (ltb (at_cell i) (length t.cells.now)) _ a.1 in
        let r = numbered_role f.mention.used.role a.0 in
        let c : get_or t.cells.now (at_cell i) (pos 0) ≡ v = same_word_sound _ _ b.1 in
        let y = first_word i l r in
        let z : word w f.mention.used.spelling ≡ v = sym y.1 ∙ ap (λ m. get_or t.cells.now m (pos 0)) (sym (at_is i r)) ∙ c in
        ap (λ q. key_by w q f.mention.used.spelling) r ∙ ap number_key z

    pub no_number_key : ((i : ℕ) → i < size t → is_valued t.cells.now v (get_or t.symbols.now i blank) ≡ false) → known w (number_key v) us ≡ false
    no_number_key none = by (way (known w (number_key v) us))
      where
        by : Way (known w (number_key v) us) → known w (number_key v) us ≡ false
        by (fails e) = e
        by (holds e) =
            let x = has_first w seen (number_key v) e in
            let i = x.place in
            let l : i < size t = omega (arith, x.within, firsts_size) in
            let q = number_name w (the i).mention.used.role (the i).mention.used.spelling v x.is_key in
            let y = first_word i l q.is_number in
            let a = at_is i q.is_number in
            let m : at_cell i < length t.cells.now = omega (arith, a, y.0) in
            let val : is_valued t.cells.now v (get_or t.symbols.now i blank) ≡ true =
            ap (is_valued t.cells.now v) (entry_at i l)
            ∙ and_from (of_number (kind_entry (kind_of (the i).mention.used.role))) _ (ap (λ r. of_number (kind_entry (kind_of r))) q.is_number)
            (and_from (ltb (at_cell i) (length t.cells.now)) _ (lt-ltb _ _ m)
            (ap (λ z. same_word z v) (ap (λ z. get_or t.cells.now z (pos 0)) a ∙ y.1 ∙ q.is_word) ∙ same_word_refl v)) in
            absurd (clash val (none i l))
