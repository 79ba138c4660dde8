-- What is read from the table: the entry of a use, and the earliest label that stands before no command.
use Rattle.std.proofs.Common.{◌≡◌, ℕ, zero, suc, ◌+◌, ◌<◌, Bool, true, false, cond, not, ◌&&◌, eqb, ◌⊎◌, List, [], ◌∷◌, ◌++◌, length, get_or, Some, None, Option, sym, refl, ap, ◌∙◌, subst, inl, inr, arith}
use mathlib.Core.Option.{Option as Maybe, none, some}
use Rattle.arithmetic.specs.Words.{Words}
use Rattle.limits.specs.Uses.{Role, definition, target, listed, variable_use, number_use, Use, made, In, is_definition, is_label, Key, label_key, variable_key, number_key, key_by, key, known}
use Rattle.limits.specs.Rules.{Refused}
use Rattle.limits.specs.Refusals.{among, or_else, refused, unmet}
use Rattle.limits.specs.Symbols.{Kind, variable_kind, number_kind, label_kind, kind_of, first_cell, cells_before}
use Rattle.limits.proofs.Keys.{Way, holds, fails, way, known_complete}
use Rattle.symbols.specs.declared.table.Table.{Table}
use Rattle.symbols.specs.Entries.{Symbol, blank, entry, kind_entry}
use Rattle.symbols.specs.Mentions.{Mention, uses_of, pending, address_in, index, earliest_unmet}
use Rattle.symbols.specs.Table.{size, Holds, Describes, Described, EntryRead, is_pending}
use Rattle.symbols.proofs.Firsts.{First, no_first, entered, key_of, firsts, firsts_old, firsts_new, first_at, Has, has_first}
use Rattle.symbols.proofs.Exact.{in_cases, pending_none, placed_below}
use Rattle.symbols.proofs.Finding.{the, firsts_size, entry_at, the_first, label_role}
use Rattle.symbols.proofs.Noting.{below_other}

-- what a key says of a use
abbrev kind_by : Key → Kind
kind_by (label_key x) = label_kind
kind_by (variable_key x) = variable_kind
kind_by (number_key v) = number_kind

kind_is : (w : Words) (r : Role) (s : List ℕ) → kind_of r ≡ kind_by (key_by w r s)
kind_is w definition s = refl
kind_is w target s = refl
kind_is w listed s = refl
kind_is w variable_use s = refl
kind_is w number_use s = refl

abbrev at_by : (List ℕ → ℕ) → ℕ → Key → ℕ
at_by address n (label_key x) = address x
at_by address n (variable_key x) = n
at_by address n (number_key v) = n

at_is : (w : Words) (address : List ℕ → ℕ) (n : ℕ) (r : Role) (s : List ℕ) → cond (is_label r) (address s) n ≡ at_by address n (key_by w r s)
at_is w address n definition s = refl
at_is w address n target s = refl
at_is w address n listed s = refl
at_is w address n variable_use s = refl
at_is w address n number_use s = refl

-- a label without a definition
abbrev bad : List Use → Use → Bool
bad us u = is_label u.role && not (among is_definition u.spelling us)

abbrev bad_by : List Use → Key → Bool
bad_by us (label_key x) = not (among is_definition x us)
bad_by us (variable_key x) = false
bad_by us (number_key v) = false

bad_is : (w : Words) (us : List Use) (r : Role) (s : List ℕ) → bad us (made r s) ≡ bad_by us (key_by w r s)
bad_is w us definition s = refl
bad_is w us target s = refl
bad_is w us listed s = refl
bad_is w us variable_use s = refl
bad_is w us number_use s = refl

module _ (w : Words) (t : Table) (seen : List Mention) (h : Holds w t seen) where
  -- the entry of a use
  module _ (u : Use) (used : In u (uses_of seen)) where
    abbrev us : List Use
    us = uses_of seen

    has : Has w seen (key w u)
    has = has_first w seen (key w u) (known_complete w (key w u) u us used refl)

    has_low : has.place < size t
    has_low = omega (arith, has.within, firsts_size w t seen h)

    place_is : index w (key w u) us ≡ has.place
    place_is = ap (λ k. index w k us) (sym has.is_key) ∙ (the_first w t seen h has.place has_low).at_index

    module _ (i : ℕ) (e : i ≡ index w (key w u) us) where
      pub index_low : i < size t
      index_low = subst (λ (n : ℕ). n < size t) (sym (e ∙ place_is)) has_low

      is_key : key_of w (the w t seen h i) ≡ key w u
      is_key = ap (λ n. key_of w (the w t seen h n)) (e ∙ place_is) ∙ has.is_key

      pub describes : Describes w seen u (get_or t.symbols.now i blank)
      describes =
          let f = the w t seen h i in
          let x = entry_at w t seen h i index_low in
          record {
            kind_is = ap (λ (s : Symbol). s.kind) x ∙ ap kind_entry (kind_is w f.mention.used.role f.mention.used.spelling ∙ ap kind_by is_key ∙ sym (kind_is w u.role u.spelling));
            at_is = ap (λ (s : Symbol). s.at) x ∙ at_is w (address_in seen) (first_cell + f.before) f.mention.used.role f.mention.used.spelling
                ∙ (λ j. at_by (address_in seen) (first_cell + (sym (the_first w t seen h i index_low).cells_are ∙ ap (λ k. cells_before w k us) is_key) j) (is_key j))
                ∙ sym (at_is w (address_in seen) (first_cell + cells_before w (key w u) us) u.role u.spelling);
          }

      -- what is read there
      pub described : (x : Option Symbol) → EntryRead t i x → Described w seen u x
      described None r = absurd (omega (arith, r, index_low))
      described (Some s) r = subst (λ (x : Symbol). Describes w seen u x) (sym r.1) describes

  -- an entry is pending exactly if its label has no definition
  module _ (i : ℕ) (l : i < size t) where
    abbrev f : First
    f = the w t seen h i

    abbrev q : Role
    q = f.mention.used.role

    abbrev s : List ℕ
    s = f.mention.used.spelling

    pub pending_is : is_pending (get_or t.symbols.now i blank) ≡ bad (uses_of seen) (the w t seen h i).mention.used
    pending_is = ap is_pending (entry_at w t seen h i l) ∙ by (way (is_label q)) (way (among is_definition s (uses_of seen)))
      where
        by : Way (is_label q) → Way (among is_definition s (uses_of seen)) → is_pending (entry (entered (address_in seen) f)) ≡ (is_label q && not (among is_definition s (uses_of seen)))
        by (fails e) m = (λ j. (label_role q ∙ e) j && eqb (entered (address_in seen) f).at pending) ∙ sym (λ j. e j && not (among is_definition s (uses_of seen)))
        by (holds e) (holds m) =
            (λ j. (label_role q ∙ e) j && eqb (cond (e j) (address_in seen s) (first_cell + f.before)) pending)
            ∙ below_other (address_in seen s) (placed_below t.text.now seen h.sound s m) ∙ sym (λ j. e j && not (m j))
        by (holds e) (fails m) =
            (λ j. (label_role q ∙ e) j && eqb (cond (e j) (pending_none seen s m j) (first_cell + f.before)) pending) ∙ sym (λ j. e j && not (m j))

-- The earliest such mention is a first one.
pub or_none : {A : Type 0} (x : Maybe A) → or_else x none ≡ x
or_none none = refl
or_none (some x) = refl

pub or_assoc : {A : Type 0} (x y z : Maybe A) → or_else x (or_else y z) ≡ or_else (or_else x y) z
or_assoc none y z = refl
or_assoc (some x) y z = refl

module _ (us : List Use) where
  -- refusal 12 at one mention
  abbrev one : Mention → Maybe Refused
  one m = refused (unmet us (some m.used)) m.place

  one_none : (m : Mention) → bad us m.used ≡ false → one m ≡ none
  one_none m e = ap (λ b. refused (cond b (some 12) none) m.place) e

  one_some : (m : Mention) → bad us m.used ≡ true → one m ≡ some (record { number = 12; place = m.place })
  one_some m e = ap (λ b. refused (cond b (some 12) none) m.place) e

  abbrev scan : List First → Maybe Refused
  scan [] = none
  scan (f ∷ fs) = or_else (one f.mention) (scan fs)

  scan_more : (fs : List First) (f : First) → scan (fs ++ (f ∷ [])) ≡ or_else (scan fs) (one f.mention)
  scan_more [] f = or_none (one f.mention)
  scan_more (g ∷ fs) f = ap (or_else (one g.mention)) (scan_more fs f) ∙ or_assoc (one g.mention) (scan fs) (one f.mention)

  earliest_some : (seen : List Mention) (m : Mention) → In m seen → bad us m.used ≡ true → (x : Refused) × (earliest_unmet us seen ≡ some x)
  earliest_some [] m i e = elim i [ ]
  earliest_some (v ∷ seen) m i e = by (in_cases i) (λ j. earliest_some seen m j e)
    where
      first_of : (a b : Maybe Refused) (y : Refused) → b ≡ some y → (x : Refused) × (or_else a b ≡ some x)
      first_of none b y p = (y, p)
      first_of (some z) b y p = (z, refl)

      by : (v ≡ m) ⊎ In m seen → (In m seen → (x : Refused) × (earliest_unmet us seen ≡ some x)) → (x : Refused) × (earliest_unmet us (v ∷ seen) ≡ some x)
      by (inl p) ih = first_of (earliest_unmet us seen) (one v) _ (one_some v (ap (λ (z : Mention). bad us z.used) p ∙ e))
      by (inr j) ih = let y = ih j in (y.0, ap (λ z. or_else z (one v)) y.1)

  pub earliest_is : (w : Words) (seen : List Mention) → earliest_unmet us seen ≡ scan (firsts w seen)
  earliest_is w [] = refl
  earliest_is w (m ∷ seen) = by (way (known w (key w m.used) (uses_of seen))) (way (bad us m.used)) (earliest_is w seen)
    where
      by : Way (known w (key w m.used) (uses_of seen)) → Way (bad us m.used) → earliest_unmet us seen ≡ scan (firsts w seen) → earliest_unmet us (m ∷ seen) ≡ scan (firsts w (m ∷ seen))
      by (fails k) b ih = ap (λ x. or_else x (one m)) ih ∙ sym (ap scan (firsts_new w m seen k) ∙ scan_more (firsts w seen) _)
      by (holds k) (fails b) ih = ap (or_else (earliest_unmet us seen)) (one_none m b) ∙ or_none (earliest_unmet us seen) ∙ ih ∙ sym (ap scan (firsts_old w m seen k))
      by (holds k) (holds b) ih =
          let x = has_first w seen (key w m.used) k in
          let f = first_at w seen x.place x.within in
          let v = (get_or (firsts w seen) x.place no_first).mention in
          let bv : bad us v.used ≡ true = bad_is w us v.used.role v.used.spelling ∙ ap (bad_by us) x.is_key ∙ sym (bad_is w us m.used.role m.used.spelling) ∙ b in
          let y = earliest_some seen v f.is_in bv in
          ap (λ z. or_else z (one m)) y.1 ∙ sym y.1 ∙ ih ∙ sym (ap scan (firsts_old w m seen k))

  scan_none : (fs : List First) → ((i : ℕ) → i < length fs → bad us (get_or fs i no_first).mention.used ≡ false) → scan fs ≡ none
  scan_none [] e = refl
  scan_none (f ∷ fs) e =
      let a : one f.mention ≡ none = one_none f.mention (e 0 (omega arith)) in
      ap (λ x. or_else x (scan fs)) a ∙ scan_none fs (λ i l. e (suc i) (omega arith))

  scan_some : (fs : List First) (i : ℕ) → i < length fs → bad us (get_or fs i no_first).mention.used ≡ true → ((k : ℕ) → k < i → bad us (get_or fs k no_first).mention.used ≡ false) →
      scan fs ≡ some (record { number = 12; place = (get_or fs i no_first).mention.place })
  scan_some [] i l b e = absurd (omega arith)
  scan_some (f ∷ fs) zero l b e = ap (λ x. or_else x (scan fs)) (one_some f.mention b)
  scan_some (f ∷ fs) (suc i) l b e =
      let a : one f.mention ≡ none = one_none f.mention (e 0 (omega arith)) in
      ap (λ x. or_else x (scan fs)) a ∙ scan_some fs i (omega arith) b (λ k m. e (suc k) (omega arith))

module _ (w : Words) (t : Table) (seen : List Mention) (h : Holds w t seen) where
  pub none_pending : ((i : ℕ) → i < size t → is_pending (get_or t.symbols.now i blank) ≡ false) → none ≡ earliest_unmet (uses_of seen) seen
  none_pending e =
      sym (earliest_is (uses_of seen) w seen ∙ scan_none (uses_of seen) (firsts w seen) (λ i l.
      (let m : i < size t = omega (arith, firsts_size w t seen h) in sym (pending_is w t seen h i m) ∙ e i m)))

  pub some_pending : (i : ℕ) → i < size t → is_pending (get_or t.symbols.now i blank) ≡ true → ((k : ℕ) → k < i → is_pending (get_or t.symbols.now k blank) ≡ false) →
      some (record { number = 12; place = (get_or t.symbols.now i blank).spelling.place }) ≡ earliest_unmet (uses_of seen) seen
  some_pending i l b e =
      ap (λ (s : Symbol). some (record { number = 12; place = s.spelling.place })) (entry_at w t seen h i l)
      ∙ sym (earliest_is (uses_of seen) w seen ∙ scan_some (uses_of seen) (firsts w seen) i (omega (arith, firsts_size w t seen h)) (sym (pending_is w t seen h i l) ∙ b)
      (λ k m. (let n : k < size t = omega arith in sym (pending_is w t seen h k n) ∙ e k m)))
