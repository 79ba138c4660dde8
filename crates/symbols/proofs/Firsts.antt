-- The first mentions, by index: each symbol has one, and it says what the table holds of it.
use Rattle.std.proofs.Common.{◌≡◌, ℕ, ◌+◌, ◌<◌, ◌≤◌, Bool, true, false, cond, not, ◌&&◌, ◌⊎◌, List, [], ◌∷◌, ◌++◌, map, length, get_or, ℤ, pos, sym, refl, ap, ◌∙◌, subst, inl, inr, arith, length-append}
use lib.Seq.{get_or-append_seam}
use Rattle.std.proofs.lemmas.List.{get_or_append_left, map-append}
use Rattle.std.proofs.lemmas.Bool.{false≢true, cases_lt, or_cases, or_left, or_right}
use Rattle.trees.specs.Trees.{Name}
use Rattle.arithmetic.specs.Words.{Words}
use Rattle.limits.specs.Uses.{number_use, Use, made, In, at_head, in_tail, is_label, Key, same_key, key, known, count_if, cells, labels}
use Rattle.limits.specs.Symbols.{Symbol, kind_of, first_cell, cells_before}
use Rattle.limits.proofs.Keys.{Way, holds, fails, way, same_key_sound, same_key_complete}
use Rattle.symbols.specs.Mentions.{Mention, uses_of, entries, count, index, initial, contents}

-- the first mention of a symbol, and how many cells there were before it
pub record First : Type 0 where
  pub mention : Mention
  pub before : ℕ

abbrev pub no_first : First
no_first = record { mention = record { used = made number_use []; place = 0; address = 0 }; before = 0 }

-- its entry
abbrev pub entered : (Name → ℕ) → First → Symbol
entered address f = record {
  kind = kind_of f.mention.used.role;
  place = f.mention.place;
  length = length f.mention.used.spelling;
  at = cond (is_label f.mention.used.role) (address f.mention.used.spelling) (first_cell + f.before);
}

module _ (w : Words) where
  abbrev pub key_of : First → Key
  key_of f = key w f.mention.used

  abbrev pub firsts : List Mention → List First
  firsts [] = []
  firsts (m ∷ seen) =
      cond (known w (key w m.used) (uses_of seen)) (firsts seen) (firsts seen ++ (record { mention = m; before = cells w (uses_of seen) } ∷ []))

  -- the entries are those of the first mentions
  map_more : {A B : Type 0} (f : A → B) (b : Bool) (xs : List B) (ys : List A) (y : A) → xs ≡ map f ys → cond b xs (xs ++ (f y ∷ [])) ≡ map f (cond b ys (ys ++ (y ∷ [])))
  map_more f true xs ys y e = e
  map_more f false xs ys y e = ap (λ v. v ++ (f y ∷ [])) e ∙ sym (map-append f ys (y ∷ []))

  pub entries_are : (address : Name → ℕ) (seen : List Mention) → entries w address seen ≡ map (entered address) (firsts seen)
  entries_are address [] = refl
  entries_are address (m ∷ seen) =
      map_more (entered address) (known w (key w m.used) (uses_of seen)) (entries w address seen) (firsts seen) (record { mention = m; before = cells w (uses_of seen) }) (entries_are address seen)

  -- how many there are
  counted : {A : Type 0} (a b : Bool) (c l : ℕ) (xs : List A) (x : A) → length xs ≡ c + l →
      length (cond b xs (xs ++ (x ∷ []))) ≡ count_if (not a && not b) c + count_if (a && not b) l
  counted true true c l xs x e = e
  counted true false c l xs x e = length-append xs (x ∷ []) ∙ omega (arith, e)
  counted false true c l xs x e = e
  counted false false c l xs x e = length-append xs (x ∷ []) ∙ omega (arith, e)

  pub firsts_count : (seen : List Mention) → length (firsts seen) ≡ count w (uses_of seen)
  firsts_count [] = refl
  firsts_count (m ∷ seen) =
      counted (is_label m.used.role) (known w (key w m.used) (uses_of seen)) (cells w (uses_of seen)) (labels w (uses_of seen)) (firsts seen)
      (record { mention = m; before = cells w (uses_of seen) }) (firsts_count seen)

  contents_more : (b : Bool) (n : ℕ) (xs : List ℤ) (x : ℤ) → length xs ≡ n → length (cond b (xs ++ (x ∷ [])) xs) ≡ count_if b n
  contents_more true n xs x e = length-append xs (x ∷ []) ∙ omega (arith, e)
  contents_more false n xs x e = e

  pub contents_count : (us : List Use) → length (contents w us) ≡ cells w us
  contents_count [] = refl
  contents_count (u ∷ us) = contents_more (not (is_label u.role) && not (known w (key w u) us)) (cells w us) (contents w us) (initial w u) (contents_count us)

  -- what is known of the i-th first mention
  pub record FirstAt (seen : List Mention) (i : ℕ) (f : First) : Type 0 where
    pub is_known : known w (key_of f) (uses_of seen) ≡ true
    pub at_index : index w (key_of f) (uses_of seen) ≡ i
    pub cells_are : cells_before w (key_of f) (uses_of seen) ≡ f.before
    pub is_in : In f.mention seen
    pub in_cells : is_label f.mention.used.role ≡ false → f.before < length (contents w (uses_of seen))
    pub holds_it : is_label f.mention.used.role ≡ false → get_or (contents w (uses_of seen)) f.before (pos 0) ≡ initial w f.mention.used

  still_in : (b : Bool) (n : ℕ) (xs : List ℤ) (x : ℤ) → n < length xs → n < length (cond b (xs ++ (x ∷ [])) xs)
  still_in true n xs x l = rw (length-append xs (x ∷ [])) (omega arith)
  still_in false n xs x l = l

  still_holds : (b : Bool) (n : ℕ) (xs : List ℤ) (x v : ℤ) → n < length xs → get_or xs n (pos 0) ≡ v → get_or (cond b (xs ++ (x ∷ [])) xs) n (pos 0) ≡ v
  still_holds true n xs x v l e = get_or_append_left xs (x ∷ []) (pos 0) n l ∙ e
  still_holds false n xs x v l e = e

  -- one mention more
  pub older : (m : Mention) (seen : List Mention) (i : ℕ) (f : First) → FirstAt seen i f → FirstAt (m ∷ seen) i f
  older m seen i f a =
      let us = uses_of seen in
      let b = not (is_label m.used.role) && not (known w (key w m.used) us) in
      record {
        is_known = or_right (same_key (key_of f) (key w m.used)) (known w (key_of f) us) a.is_known;
        at_index = ap (λ x. cond x (index w (key_of f) us) (count w us)) a.is_known ∙ a.at_index;
        cells_are = ap (λ x. cond x (cells_before w (key_of f) us) (cells w us)) a.is_known ∙ a.cells_are;
        is_in = in_tail a.is_in;
        in_cells = λ h. still_in b f.before (contents w us) (initial w m.used) (a.in_cells h);
        holds_it = λ h. still_holds b f.before (contents w us) (initial w m.used) (initial w f.mention.used) (a.in_cells h) (a.holds_it h);
      }

  pub newest : (m : Mention) (seen : List Mention) → known w (key w m.used) (uses_of seen) ≡ false →
      FirstAt (m ∷ seen) (count w (uses_of seen)) (record { mention = m; before = cells w (uses_of seen) })
  newest m seen e =
      let us = uses_of seen in
      let k = key w m.used in
      record {
        is_known = or_left (same_key k k) (known w k us) (same_key_complete k k refl);
        at_index = ap (λ x. cond x (index w k us) (count w us)) e;
        cells_are = ap (λ x. cond x (cells_before w k us) (cells w us)) e;
        is_in = at_head;
        in_cells = λ h. (let l : cells w us < length (contents w us ++ (initial w m.used ∷ [])) = rw (length-append (contents w us) (initial w m.used ∷ [])) (omega (arith, contents_count us)) in
            subst (λ (x : List ℤ). cells w us < length x) (sym (more h)) l);
        holds_it = λ h. ap (λ x. get_or x (cells w us) (pos 0)) (more h) ∙ ap (λ n. get_or (contents w us ++ (initial w m.used ∷ [])) n (pos 0)) (sym (contents_count us))
            ∙ get_or-append_seam (contents w us) (initial w m.used) [] (pos 0);
      }
    where
      more : is_label m.used.role ≡ false → contents w (uses_of (m ∷ seen)) ≡ contents w (uses_of seen) ++ (initial w m.used ∷ [])
      more h = (λ i. cond (not (h i) && not (e i)) (contents w (uses_of seen) ++ (initial w m.used ∷ [])) (contents w (uses_of seen)))

  pub firsts_old : (m : Mention) (seen : List Mention) → known w (key w m.used) (uses_of seen) ≡ true → firsts (m ∷ seen) ≡ firsts seen
  firsts_old m seen e = ap (λ x. cond x (firsts seen) (firsts seen ++ (record { mention = m; before = cells w (uses_of seen) } ∷ []))) e

  pub firsts_new : (m : Mention) (seen : List Mention) → known w (key w m.used) (uses_of seen) ≡ false →
      firsts (m ∷ seen) ≡ firsts seen ++ (record { mention = m; before = cells w (uses_of seen) } ∷ [])
  firsts_new m seen e = ap (λ x. cond x (firsts seen) (firsts seen ++ (record { mention = m; before = cells w (uses_of seen) } ∷ []))) e

  pub first_at : (seen : List Mention) (i : ℕ) → i < length (firsts seen) → FirstAt seen i (get_or (firsts seen) i no_first)
  first_at [] i l = absurd (omega arith)
  first_at (m ∷ seen) i l = go (way (known w (key w m.used) (uses_of seen))) (λ h. first_at seen i h)
    where
      us : List Use
      us = uses_of seen

      f : First
      f = record { mention = m; before = cells w (uses_of seen) }

      go : Way (known w (key w m.used) (uses_of seen)) → (i < length (firsts seen) → FirstAt seen i (get_or (firsts seen) i no_first)) → FirstAt (m ∷ seen) i (get_or (firsts (m ∷ seen)) i no_first)
      go (holds e) ih =
          let l' : i < length (firsts seen) = subst (λ (x : List First). i < length x) (firsts_old m seen e) l in
          subst (λ (x : List First). FirstAt (m ∷ seen) i (get_or x i no_first)) (sym (firsts_old m seen e)) (older m seen i (get_or (firsts seen) i no_first) (ih l'))
      go (fails e) ih = subst (λ (x : List First). FirstAt (m ∷ seen) i (get_or x i no_first)) (sym (firsts_new m seen e)) (by (cases_lt i (length (firsts seen))))
        where
          l' : i < length (firsts seen ++ (record { mention = m; before = cells w (uses_of seen) } ∷ []))
          l' = subst (λ (x : List First). i < length x) (firsts_new m seen e) l

          by : (i < length (firsts seen)) ⊎ (length (firsts seen) ≤ i) → FirstAt (m ∷ seen) i (get_or (firsts seen ++ (record { mention = m; before = cells w (uses_of seen) } ∷ [])) i no_first)
          by (inl h) = subst (λ (x : First). FirstAt (m ∷ seen) i x) (sym (get_or_append_left (firsts seen) _ no_first i h)) (older m seen i (get_or (firsts seen) i no_first) (ih h))
          by (inr h) =
              let z : length (firsts seen) ≡ i = omega (arith, length-append (firsts seen) (record { mention = m; before = cells w (uses_of seen) } ∷ []), l') in
              let y : count w (uses_of seen) ≡ i = sym (firsts_count seen) ∙ z in
              let x : get_or (firsts seen ++ (record { mention = m; before = cells w (uses_of seen) } ∷ [])) i no_first ≡ record { mention = m; before = cells w (uses_of seen) } =
              ap (λ n. get_or (firsts seen ++ (record { mention = m; before = cells w (uses_of seen) } ∷ [])) n no_first) (sym z) ∙ get_or-append_seam (firsts seen) _ [] no_first in
              subst (λ (v : First). FirstAt (m ∷ seen) i v) (sym x) (subst (λ (n : ℕ). FirstAt (m ∷ seen) n (record { mention = m; before = cells w (uses_of seen) })) y (newest m seen e))

  -- a known symbol has a first mention
  pub record Has (seen : List Mention) (k : Key) : Type 0 where
    pub place : ℕ
    pub within : place < length (firsts seen)
    pub is_key : key_of (get_or (firsts seen) place no_first) ≡ k

  pub has_first : (seen : List Mention) (k : Key) → known w k (uses_of seen) ≡ true → Has seen k
  has_first [] k e = absurd (false≢true e)
  has_first (m ∷ seen) k e =
      go (or_cases (same_key k (key w m.used)) (known w k (uses_of seen)) e) (way (known w (key w m.used) (uses_of seen))) (λ k h. has_first seen k h)
    where
      kept : Has seen k → Has (m ∷ seen) k
      kept h = by (way (known w (key w m.used) (uses_of seen)))
        where
          by : Way (known w (key w m.used) (uses_of seen)) → Has (m ∷ seen) k
          by (holds q) = record {
            place = h.place;
            within = subst (λ (x : List First). h.place < length x) (sym (firsts_old m seen q)) h.within;
            is_key = ap (λ x. key_of (get_or x h.place no_first)) (firsts_old m seen q) ∙ h.is_key;
          }
          by (fails q) =
              let l : h.place < length (firsts seen ++ (record { mention = m; before = cells w (uses_of seen) } ∷ [])) = rw (length-append (firsts seen) (record { mention = m; before = cells w (uses_of seen) } ∷ [])) (omega (arith, h.within)) in
              record {
                place = h.place;
                within = subst (λ (x : List First). h.place < length x) (sym (firsts_new m seen q)) l;
                is_key = ap (λ x. key_of (get_or x h.place no_first)) (firsts_new m seen q) ∙ ap key_of (get_or_append_left (firsts seen) _ no_first h.place h.within) ∙ h.is_key;
              }

      last : known w (key w m.used) (uses_of seen) ≡ false → key w m.used ≡ k → Has (m ∷ seen) k
      last q p =
          let l : length (firsts seen) < length (firsts seen ++ (record { mention = m; before = cells w (uses_of seen) } ∷ [])) = rw (length-append (firsts seen) (record { mention = m; before = cells w (uses_of seen) } ∷ [])) (omega arith) in
          record {
            place = length (firsts seen);
            within = subst (λ (x : List First). length (firsts seen) < length x) (sym (firsts_new m seen q)) l;
            is_key = ap (λ x. key_of (get_or x (length (firsts seen)) no_first)) (firsts_new m seen q) ∙ ap key_of (get_or-append_seam (firsts seen) _ [] no_first) ∙ p;
          }

      go : (same_key k (key w m.used) ≡ true) ⊎ (known w k (uses_of seen) ≡ true) → Way (known w (key w m.used) (uses_of seen)) → ((k : Key) → known w k (uses_of seen) ≡ true → Has seen k) → Has (m ∷ seen) k
      go (inr h) q ih = kept (ih k h)
      go (inl h) (fails q) ih = last q (sym (same_key_sound k (key w m.used) h))
      go (inl h) (holds q) ih =
          let p = same_key_sound k (key w m.used) h in
          kept (ih k (ap (λ x. known w x (uses_of seen)) p ∙ q))
