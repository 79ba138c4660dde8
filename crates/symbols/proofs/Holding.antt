-- What the table holds after one use more.
use Rattle.std.proofs.Common.{◌≡◌, ◌≢◌, ℕ, ◌+◌, ◌<◌, ◌≤◌, Bool, true, false, cond, eqb, not, ◌&&◌, ◌⊎◌, List, [], ◌∷◌, ◌++◌, map, length, get_or, take, drop, set, ℤ, sym, refl, ap, ◌∙◌, subst, inl, inr, add-one, arith, length-set, get_or-set_other, get_or-set_same, ext_get_or}
use mathlib.Core.Option.{none}
use lib.Seq.{take-set-lt, drop-set-add, map-set}
use Rattle.std.specs.Str.{bytes_eq}
use Rattle.std.proofs.lemmas.List.{get_or-map, length-map, map-append, take_more_set, length-drop}
use Rattle.std.proofs.lemmas.Bool.{false≢true, and_left, and_right, and_parts}
use Rattle.std.proofs.lemmas.Bool.Decides.{eqb_tells}
use Rattle.trees.specs.Trees.{Name}
use Rattle.arithmetic.specs.Words.{Words}
use Rattle.limits.specs.Uses.{Role, definition, target, listed, variable_use, number_use, Use, is_definition, is_label, Key, label_key, key_by, key, known, count_if, cells, labels}
use Rattle.limits.specs.Symbols.{first_cell, kind_of}
use Rattle.limits.proofs.Keys.{Way, holds, fails, way, clash, same_bytes_sound, same_bytes_complete}
use Rattle.symbols.specs.declared.table.Table.{Table}
use Rattle.symbols.specs.Entries.{Kind, Label, Spelling, Symbol, blank, entry, kind_entry}
use Rattle.symbols.specs.Mentions.{Mention, uses_of, address_in, Sound, AllSound, entries, index, initial, contents, use_refusal}
use Rattle.symbols.specs.Table.{size, Holds, AddsCell, AddsLabel, PlacesLabel, cell_symbol, label_symbol, moved_to}
use Rattle.symbols.proofs.Firsts.{First, no_first, entered, key_of, firsts, entries_are, firsts_new, firsts_old}
use Rattle.symbols.proofs.Finding.{the, firsts_size, symbols_firsts, entry_at, the_first}

-- two functions over a list
module _ {A B : Type 0} (g h : A → B) (xs : List A) (d : A) where
  pub map_same : ((i : ℕ) → i < length xs → g (get_or xs i d) ≡ h (get_or xs i d)) → map g xs ≡ map h xs
  map_same e = ext_get_or (h d) (map g xs) (map h xs) (length-map xs g ∙ sym (length-map xs h)) (λ i l.
      (let l' : i < length xs = subst (λ (n : ℕ). i < n) (length-map xs g) l in
      get_or-map g xs i d (h d) l' ∙ e i l' ∙ sym (get_or-map h xs i d (h d) l')))

  -- that differ at one place
  pub map_but : (j : ℕ) → j < length xs → ((i : ℕ) → i < length xs → (i ≡ j → ⊥) → g (get_or xs i d) ≡ h (get_or xs i d)) → map g xs ≡ set (map h xs) j (g (get_or xs j d))
  map_but j m e = ext_get_or (h d) (map g xs) (set (map h xs) j (g (get_or xs j d))) (length-map xs g ∙ sym (length-set (map h xs) j (g (get_or xs j d)) ∙ length-map xs h)) (λ i l. at i (subst (λ (n : ℕ). i < n) (length-map xs g) l) (eqb_tells i j))
    where
      at : (i : ℕ) → i < length xs → ((eqb i j ≡ true) × (i ≡ j)) ⊎ ((eqb i j ≡ false) × (i ≢ j)) → get_or (map g xs) i (h d) ≡ get_or (set (map h xs) j (g (get_or xs j d))) i (h d)
      at i l (inl q) =
          let n : j < length (map h xs) = rw (length-map xs h) m in
          get_or-map g xs i d (h d) l ∙ ap (λ x. g (get_or xs x d)) q.1 ∙ sym (ap (λ x. get_or (set (map h xs) j (g (get_or xs j d))) x (h d)) q.1 ∙ get_or-set_same (map h xs) j (g (get_or xs j d)) (h d) n)
      at i l (inr q) = get_or-map g xs i d (h d) l ∙ e i l q.1 ∙ sym (get_or-map h xs i d (h d) l) ∙ sym (get_or-set_other (map h xs) j i (g (get_or xs j d)) (h d) q.1)

label_kind : (r : Role) → is_label r ≡ true → kind_entry (kind_of r) ≡ Label
label_kind definition e = refl
label_kind target e = refl
label_kind listed e = refl
label_kind variable_use e = absurd (false≢true e)
label_kind number_use e = absurd (false≢true e)

pub label_keyed : (w : Words) (r : Role) (s : List ℕ) → is_label r ≡ true → key_by w r s ≡ label_key s
label_keyed w definition s e = refl
label_keyed w target s e = refl
label_keyed w listed s e = refl
label_keyed w variable_use s e = absurd (false≢true e)
label_keyed w number_use s e = absurd (false≢true e)

pub cell_defines_none : (r : Role) → is_label r ≡ false → is_definition r ≡ false
cell_defines_none definition e = absurd (clash refl e)
cell_defines_none target e = refl
cell_defines_none listed e = refl
cell_defines_none variable_use e = refl
cell_defines_none number_use e = refl

module _ (w : Words) (a : Table) (seen : List Mention) (h : Holds w a seen) (m : Mention)
    (ok : use_refusal w (uses_of seen) m.used ≡ none) (snd : Sound a.text.now m) where
  abbrev us : List Use
  us = uses_of seen

  abbrev k : Key
  k = key w m.used

  abbrev r : Role
  r = m.used.role

  abbrev s : List ℕ
  s = m.used.spelling

  -- where it is spelled
  abbrev pub spot : Spelling
  spot = record { place = m.place; length = length s }

  abbrev fs : List First
  fs = firsts w seen

  abbrev now_at : Name → ℕ
  now_at = address_in seen

  abbrev then_at : Name → ℕ
  then_at = address_in (m ∷ seen)

  abbrev f : First
  f = record { mention = m; before = cells w us }

  quiet : is_definition r ≡ false → then_at ≡ now_at
  quiet e = (λ i x. cond (e i && bytes_eq x s) m.address (now_at x))

  -- an entry changes only if it is that of the label that is placed
  unchanged : (g : First) → (key_of w g ≡ label_key s → ⊥) → entered then_at g ≡ entered now_at g
  unchanged g not-it = ap (λ n. record { kind = kind_of g.mention.used.role; place = g.mention.place; length = length g.mention.used.spelling; at = n }) (by (way (is_label g.mention.used.role)) (way (is_definition r && bytes_eq g.mention.used.spelling s)))
    where
      by : Way (is_label g.mention.used.role) → Way (is_definition r && bytes_eq g.mention.used.spelling s) →
          cond (is_label g.mention.used.role) (then_at g.mention.used.spelling) (first_cell + g.before) ≡ cond (is_label g.mention.used.role) (now_at g.mention.used.spelling) (first_cell + g.before)
      by (fails e) q = (λ i. cond (e i) (then_at g.mention.used.spelling) (first_cell + g.before)) ∙ sym (λ i. cond (e i) (now_at g.mention.used.spelling) (first_cell + g.before))
      by (holds e) (fails q) = ap (λ x. cond (is_label g.mention.used.role) (cond x m.address (now_at g.mention.used.spelling)) (first_cell + g.before)) q
      by (holds e) (holds q) =
          let z = same_bytes_sound _ _ (and_parts (is_definition r) (bytes_eq g.mention.used.spelling s) q).1 in
          absurd (not-it (label_keyed w g.mention.used.role g.mention.used.spelling e ∙ ap label_key z))

  same_size : (b : Bool) (n : ℕ) → b ≡ false → count_if b n ≡ n
  same_size b n e = ap (λ x. count_if x n) e

  -- a known symbol, that is not placed now
  module _ (old : known w k us ≡ true) where
    cells_stay : cells w (m.used ∷ us) ≡ cells w us
    cells_stay = same_size _ (cells w us) (and_right (not (is_label r)) _ (ap not old))

    labels_stay : labels w (m.used ∷ us) ≡ labels w us
    labels_stay = same_size _ (labels w us) (and_right (is_label r) _ (ap not old))

    contents_stay : contents w (m.used ∷ us) ≡ contents w us
    contents_stay = ap (λ x. cond x (contents w us ++ (initial w m.used ∷ [])) (contents w us)) (and_right (not (is_label r)) _ (ap not old))

    entries_then : entries w then_at (m ∷ seen) ≡ map (entered then_at) fs
    entries_then = entries_are w then_at (m ∷ seen) ∙ ap (map (entered then_at)) (firsts_old w m seen old)

    pub holds_old : is_definition r ≡ false → Holds w a (m ∷ seen)
    holds_old e = record {
      symbols_room = h.symbols_room;
      cells_room = h.cells_room;
      accepted = (ok, h.accepted);
      sound = (snd, h.sound);
      cell_count = h.cell_count ∙ sym cells_stay;
      label_count = h.label_count ∙ sym labels_stay;
      symbols_are = symbols_firsts w a seen h ∙ ap (map entry) (ap (λ x. map (entered x) fs) (sym (quiet e)) ∙ sym entries_then);
      cells_are = h.cells_are ∙ sym contents_stay;
    }

    -- the label at the index i gets its address
    pub holds_placed : (b : Table) (i : ℕ) → i < size a → key_of w (the w a seen h i) ≡ label_key s → is_label (the w a seen h i).mention.used.role ≡ true →
        (the w a seen h i).mention.used.spelling ≡ s → is_definition r ≡ true → PlacesLabel a b i m.address → Holds w b (m ∷ seen)
    holds_placed b i l q lab sp d p =
        let g = the w a seen h i in
        let len = firsts_size w a seen h in
        let moved : map (entered then_at) fs ≡ set (map (entered now_at) fs) i (entered then_at g) =
        map_but (entered then_at) (entered now_at) fs no_first i (omega (arith, len)) (λ j jl ne. unchanged (get_or fs j no_first) (λ e. ne
        (sym (the_first w a seen h j (omega (arith, len))).at_index ∙ ap (λ x. index w x us) (e ∙ sym q) ∙ (the_first w a seen h i l).at_index))) in
        let at_new : then_at g.mention.used.spelling ≡ m.address =
        (λ j. cond (d j && bytes_eq (sp j) s) m.address (now_at g.mention.used.spelling)) ∙ ap (λ x. cond x m.address (now_at g.mention.used.spelling)) (same_bytes_complete s s refl) in
        let gets : moved_to m.address (get_or a.symbols.now i blank) ≡ entry (entered then_at g) =
        ap (moved_to m.address) (entry_at w a seen h i l)
        ∙ ap (λ n. record { kind = kind_entry (kind_of g.mention.used.role); spelling = record { place = g.mention.place; length = length g.mention.used.spelling }; at = n })
        (sym ((λ j. cond (lab j) (then_at g.mention.used.spelling) (first_cell + g.before)) ∙ at_new)) in
        record {
          symbols_room = subst (λ (n : ℕ). 702 ≤ n) (sym (ap length p.symbols_are ∙ length-set a.symbols.now i _)) h.symbols_room;
          cells_room = subst (λ (n : ℕ). 512 ≤ n) (sym (ap length p.cells_are)) h.cells_room;
          accepted = (ok, h.accepted);
          sound = subst (λ t. AllSound t.now (m ∷ seen)) (sym p.text) (snd, h.sound);
          cell_count = p.celled_are ∙ h.cell_count ∙ sym cells_stay;
          label_count = p.labels_are ∙ h.label_count ∙ sym labels_stay;
          symbols_are = (λ j. take (p.celled_are j + p.labels_are j) (p.symbols_are j)) ∙ take-set-lt (size a) a.symbols.now i _ l
              ∙ (λ j. set (symbols_firsts w a seen h j) i (gets j)) ∙ sym (map-set entry (map (entered now_at) fs) i (entered then_at g)) ∙ ap (map entry) (sym moved ∙ sym entries_then);
          cells_are = (λ j. take (p.celled_are j) (drop first_cell (p.cells_are j))) ∙ h.cells_are ∙ sym contents_stay;
        }

  -- a new symbol
  module _ (new : known w k us ≡ false) where
    -- what is at the end of the entries
    grown : (at : ℕ) (v : Symbol) → at < length a.symbols.now → at ≡ size a → map (entered then_at) fs ≡ map (entered now_at) fs → v ≡ entry (entered then_at f) →
        take (at + 1) (set a.symbols.now at v) ≡ map entry (entries w then_at (m ∷ seen))
    grown at v l q same e =
        take_more_set a.symbols.now at v l
        ∙ (λ j. (ap (λ n. take n a.symbols.now) q ∙ symbols_firsts w a seen h ∙ ap (map entry) (sym same)) j ++ (e j ∷ []))
        ∙ sym (ap (map entry) (entries_are w then_at (m ∷ seen) ∙ ap (map (entered then_at)) (firsts_new w m seen new) ∙ map-append (entered then_at) fs (f ∷ []))
        ∙ map-append entry (map (entered then_at) fs) (entered then_at f ∷ []))

    pub holds_cell : (b : Table) (c : Kind) (v : ℤ) → is_label r ≡ false → c ≡ kind_entry (kind_of r) → v ≡ initial w m.used →
        AddsCell a b (cell_symbol c spot a.celled) v → a.celled < 446 → Holds w b (m ∷ seen)
    holds_cell b c v n kd val p low =
        let gets : cell_symbol c spot a.celled ≡ entry (entered then_at f) =
        (λ j. record { kind = kd j; spelling = spot; at = first_cell + h.cell_count j }) ∙ sym (λ j. record { kind = kind_entry (kind_of r); spelling = spot; at = cond (n j) (then_at s) (first_cell + cells w us) }) in
        let one : a.celled + 1 + a.labels ≡ size a + 1 = omega arith in
        let room : size a < length a.symbols.now = omega arith in
        let croom : a.celled < length (drop first_cell a.cells.now) = simp length-drop (omega arith) in
        let more : (not (is_label r) && not (known w k us)) ≡ true = (λ j. not (n j) && not (new j)) in
        let none_more : (is_label r && not (known w k us)) ≡ false = and_left (is_label r) _ n in
        record {
          symbols_room = subst (λ (n : ℕ). 702 ≤ n) (sym (ap length p.symbols_are ∙ length-set a.symbols.now (size a) _)) h.symbols_room;
          cells_room = subst (λ (n : ℕ). 512 ≤ n) (sym (ap length p.cells_are ∙ length-set a.cells.now (first_cell + a.celled) v)) h.cells_room;
          accepted = (ok, h.accepted);
          sound = subst (λ t. AllSound t.now (m ∷ seen)) (sym p.text) (snd, h.sound);
          cell_count = p.celled_are ∙ ap (λ x. x + 1) h.cell_count ∙ add-one (cells w us) ∙ sym (ap (λ x. count_if x (cells w us)) more);
          label_count = p.labels_are ∙ h.label_count ∙ sym (same_size _ (labels w us) none_more);
          symbols_are = (λ j. take (p.celled_are j + p.labels_are j) (p.symbols_are j)) ∙ ap (λ x. take x (set a.symbols.now (size a) (cell_symbol c spot a.celled))) one
              ∙ grown (size a) _ room refl (ap (λ x. map (entered x) fs) (quiet (cell_defines_none r n))) gets;
          cells_are = (λ j. take (p.celled_are j) (drop first_cell (p.cells_are j))) ∙ ap (take (a.celled + 1)) (drop-set-add first_cell a.cells.now a.celled v)
              ∙ take_more_set (drop first_cell a.cells.now) a.celled v croom ∙ (λ j. h.cells_are j ++ (val j ∷ []))
              ∙ sym (ap (λ x. cond x (contents w us ++ (initial w m.used ∷ [])) (contents w us)) more);
        }

    pub holds_label : (b : Table) (at : ℕ) → is_label r ≡ true → at ≡ then_at s → known w (label_key s) us ≡ false →
        AddsLabel a b (label_symbol spot at) → a.labels < 256 → Holds w b (m ∷ seen)
    holds_label b at n is_at gone p low =
        let len = firsts_size w a seen h in
        let same : map (entered then_at) fs ≡ map (entered now_at) fs = map_same (entered then_at) (entered now_at) fs no_first (λ j jl.
        unchanged (get_or fs j no_first) (λ e. clash (sym (ap (λ x. known w x us) e) ∙ (the_first w a seen h j (omega (arith, len))).is_known) gone)) in
        let gets : label_symbol spot at ≡ entry (entered then_at f) =
        (λ j. record { kind = sym (label_kind r n) j; spelling = spot; at = is_at j }) ∙ sym (λ j. record { kind = kind_entry (kind_of r); spelling = spot; at = cond (n j) (then_at s) (first_cell + cells w us) }) in
        let one : a.celled + (a.labels + 1) ≡ size a + 1 = omega arith in
        let room : size a < length a.symbols.now = omega arith in
        let more : (is_label r && not (known w k us)) ≡ true = (λ j. n j && not (new j)) in
        let none_more : (not (is_label r) && not (known w k us)) ≡ false = and_left (not (is_label r)) _ (ap not n) in
        record {
          symbols_room = subst (λ (n : ℕ). 702 ≤ n) (sym (ap length p.symbols_are ∙ length-set a.symbols.now (size a) _)) h.symbols_room;
          cells_room = subst (λ (n : ℕ). 512 ≤ n) (sym (ap length p.cells_are)) h.cells_room;
          accepted = (ok, h.accepted);
          sound = subst (λ t. AllSound t.now (m ∷ seen)) (sym p.text) (snd, h.sound);
          cell_count = p.celled_are ∙ h.cell_count ∙ sym (same_size _ (cells w us) none_more);
          label_count = p.labels_are ∙ ap (λ x. x + 1) h.label_count ∙ add-one (labels w us) ∙ sym (ap (λ x. count_if x (labels w us)) more);
          symbols_are = (λ j. take (p.celled_are j + p.labels_are j) (p.symbols_are j)) ∙ ap (λ x. take x (set a.symbols.now (size a) (label_symbol spot at))) one
              ∙ grown (size a) _ room refl same gets;
          cells_are = (λ j. take (p.celled_are j) (drop first_cell (p.cells_are j))) ∙ h.cells_are
              ∙ sym (ap (λ x. cond x (contents w us ++ (initial w m.used ∷ [])) (contents w us)) none_more);
        }
