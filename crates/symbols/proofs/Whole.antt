-- The mentions of tokens, and the laws of uses without refusal.
use Rattle.std.proofs.Common.{◌≡◌, ℕ, ◌+◌, ◌<◌, ◌≤◌, Bool, true, false, cond, not, ◌&&◌, leb, ◌⊎◌, ◌↔◌, List, [], ◌∷◌, ◌++◌, length, get_or, sym, refl, ap, ◌∙◌, inl, inr, append_assoc, append-nil, arith}
use mathlib.Core.List.{reverse_aux}
use mathlib.Core.Option.{Option, none, some}
use Rattle.std.specs.Str.{bytes_eq}
use Rattle.std.proofs.lemmas.List.{length-map}
use Rattle.std.proofs.lemmas.Bool.{leb-false, and_parts, and_from}
use Rattle.token.specs.Tokens.{Token, Placed}
use Rattle.trees.specs.Trees.{Name}
use Rattle.arithmetic.specs.Words.{Words}
use Rattle.limits.specs.Uses.{Use, In, at_head, in_tail, use_of, use_at, with_use, uses_before, is_definition, is_label, Key, key, known, count_if, cells, labels}
use Rattle.limits.specs.Rules.{cell_limit, label_limit, tokens_of, Refused}
use Rattle.limits.specs.Refusals.{lowest, or_else, among, refused, unmet, limit_checks_at, limit_checks, first_unmet}
use Rattle.limits.specs.Symbols.{Symbol, symbol, entered, symbols_after, symbols, kind_of, first_cell, cells_before}
use Rattle.limits.proofs.Keys.{Way, holds, fails, way, clash, same_bytes_sound, among_complete}
use Rattle.symbols.specs.Mentions.{Mention, uses_of, pending, address_in, AllSound, entries, count, index, Accepted, earliest_unmet, with_mention, mentions_before}
use Rattle.symbols.specs.Laws.{symbol_refusal, form_checks_at, form_checks}
use Rattle.symbols.proofs.Firsts.{no_first, firsts, entries_are, firsts_count, key_of, first_at, Has, has_first}
use Rattle.symbols.proofs.Exact.{answer, in_cases, defined_here, five_fails, seven_fails, eight_fails, is_long_lem, is_second, is_other, no_cell_left, no_label_left, pending_none, placed_below}
use Rattle.symbols.proofs.Finding.{use_in}
use Rattle.symbols.proofs.Reading.{or_assoc, or_none}

module _ (at : List Token → ℕ) where
  use_more : (p a : ℕ) (o : Option Use) (seen : List Mention) (us : List Use) → uses_of seen ≡ us → uses_of (with_mention p a o seen) ≡ with_use o us
  use_more p a none seen us e = e
  use_more p a (some u) seen us e = ap (λ x. u ∷ x) e

  pub same_uses : (past : List Placed) (rest : List Token) → uses_of (mentions_before at past rest) ≡ uses_before (tokens_of past) rest
  same_uses [] rest = refl
  same_uses (p ∷ past) rest =
      use_more p.offset (at (tokens_of past)) (use_of (tokens_of past) p.token rest) (mentions_before at past (p.token ∷ rest)) (uses_before (tokens_of past) (p.token ∷ rest)) (same_uses past (p.token ∷ rest))

  -- one token further
  module _ (w : Words) (address : Name → ℕ) where
    grow : (xs ys : List Symbol) (x : Symbol) (b : Bool) → xs ++ cond b ys (x ∷ ys) ≡ cond b xs (xs ++ (x ∷ [])) ++ ys
    grow xs ys x true = refl
    grow xs ys x false = sym (append_assoc xs (x ∷ []) ys)

    one_more : (p a : ℕ) (o : Option Use) (seen : List Mention) (us : List Use) (ys : List Symbol) → uses_of seen ≡ us →
        entries w address seen ++ entered w address us p o ys ≡ entries w address (with_mention p a o seen) ++ ys
    one_more p a none seen us ys e = refl
    one_more p a (some u) seen us ys e =
        ap (λ v. entries w address seen ++ entered w address v p (some u) ys) (sym e) ∙ grow (entries w address seen) ys (symbol w address (uses_of seen) p u) (known w (key w u) (uses_of seen))

    whole_from : (ps past : List Placed) → entries w address (mentions_before at past (tokens_of ps)) ++ symbols_after w address (tokens_of past) ps ≡ entries w address (mentions_before at (reverse_aux ps past) [])
    whole_from [] past = append-nil (entries w address (mentions_before at past []))
    whole_from (p ∷ ps) past =
        one_more p.offset (at (tokens_of past)) (use_at (tokens_of past) (p.token ∷ tokens_of ps)) (mentions_before at past (p.token ∷ tokens_of ps)) (uses_before (tokens_of past) (p.token ∷ tokens_of ps))
        (symbols_after w address (p.token ∷ tokens_of past) ps) (same_uses past (p.token ∷ tokens_of ps))
        ∙ whole_from ps (p ∷ past)

    pub whole : (ts : List Placed) → entries w address (mentions_before at (reverse_aux ts []) []) ≡ symbols w address ts
    whole ts = sym (whole_from ts [])

  module _ (us : List Use) where
    unmet_more : (p a : ℕ) (o : Option Use) (seen : List Mention) (y : Option Refused) →
        or_else (earliest_unmet us seen) (or_else (refused (unmet us o) p) y) ≡ or_else (earliest_unmet us (with_mention p a o seen)) y
    unmet_more p a none seen y = refl
    unmet_more p a (some u) seen y = or_assoc (earliest_unmet us seen) (refused (unmet us (some u)) p) y

    earliest_from : (ps past : List Placed) → or_else (earliest_unmet us (mentions_before at past (tokens_of ps))) (first_unmet us (tokens_of past) ps) ≡ earliest_unmet us (mentions_before at (reverse_aux ps past) [])
    earliest_from [] past = or_none (earliest_unmet us (mentions_before at past []))
    earliest_from (p ∷ ps) past =
        unmet_more p.offset (at (tokens_of past)) (use_at (tokens_of past) (p.token ∷ tokens_of ps)) (mentions_before at past (p.token ∷ tokens_of ps)) (first_unmet us (p.token ∷ tokens_of past) ps)
        ∙ earliest_from ps (p ∷ past)

    pub earliest : (ts : List Placed) → earliest_unmet us (mentions_before at (reverse_aux ts []) []) ≡ first_unmet us [] ts
    earliest ts = sym (earliest_from ts [])

-- the refusals 4 to 8 come first
five_first : (a b c d e : Bool) (o : Option ℕ) → cond a (some 4) (cond b (some 5) (cond c (some 6) (cond d (some 7) (cond e (some 8) o)))) ≡ or_else (answer a b c d e) o
five_first true b c d e o = refl
five_first false true c d e o = refl
five_first false false true d e o = refl
five_first false false false true e o = refl
five_first false false false false true o = refl
five_first false false false false false o = refl

lowest_at : (w : Words) (past rest : List Token) (us : List Use) (o : Option Use) → lowest (limit_checks_at w past rest us o) ≡ or_else (symbol_refusal w us o) (lowest (form_checks_at past rest o))
lowest_at w past rest us none = refl
lowest_at w past rest us (some u) =
    five_first (is_long_lem w u.role u.spelling) (is_second w us u.role u.spelling) (is_other w us u.role u.spelling) (no_cell_left w us u.role u.spelling) (no_label_left w us u.role u.spelling)
    (lowest (form_checks_at past rest (some u)))

pub lowest_is : (w : Words) (past rest : List Token) →
    lowest (limit_checks w past rest) ≡ or_else (symbol_refusal w (uses_before past rest) (use_at past rest)) (lowest (form_checks past rest))
lowest_is w past rest = lowest_at w past rest (uses_before past rest) (use_at past rest)

-- addresses matter only for labels
pub agree : (w : Words) (f g : Name → ℕ) (seen : List Mention) → ((m : Mention) → In m seen → is_label m.used.role ≡ true → f m.used.spelling ≡ g m.used.spelling) →
    entries w f seen ≡ entries w g seen
agree w f g [] e = refl
agree w f g (m ∷ seen) e = go (agree w f g seen (λ v i l. e v (in_tail i) l))
  where
    at_same : Way (is_label m.used.role) → cond (is_label m.used.role) (f m.used.spelling) (first_cell + cells w (uses_of seen)) ≡ cond (is_label m.used.role) (g m.used.spelling) (first_cell + cells w (uses_of seen))
    at_same (holds l) = ap (λ x. cond (is_label m.used.role) x (first_cell + cells w (uses_of seen))) (e m at_head l)
    at_same (fails l) = (λ i. cond (l i) (f m.used.spelling) (first_cell + cells w (uses_of seen))) ∙ sym (λ i. cond (l i) (g m.used.spelling) (first_cell + cells w (uses_of seen)))

    same : symbol w f (uses_of seen) m.place m.used ≡ symbol w g (uses_of seen) m.place m.used
    same = ap (λ n. record { kind = kind_of m.used.role; place = m.place; length = length m.used.spelling; at = n }) (at_same (way (is_label m.used.role)))

    go : entries w f seen ≡ entries w g seen → entries w f (m ∷ seen) ≡ entries w g (m ∷ seen)
    go r = (λ i. cond (known w (key w m.used) (uses_of seen)) (r i) (r i ++ (same i ∷ [])))

-- without refusal there are few
stays : (a b : Bool) (n top : ℕ) → (a && (b && leb top n)) ≡ false → n ≤ top → count_if (a && b) n ≤ top
stays true true n top e l = leb-false top n e
stays true false n top e l = l
stays false b n top e l = l

module _ (w : Words) where
  few_both : (us : List Use) → Accepted w us → (cells w us ≤ cell_limit) × (labels w us ≤ label_limit)
  few_both [] a = (omega arith, omega arith)
  few_both (u ∷ us) a =
      let ih = few_both us a.1 in
      let r = u.role in
      let s = u.spelling in (
        stays (not (is_label r)) (not (known w (key w u) us)) (cells w us) cell_limit (seven_fails (is_long_lem w r s) (is_second w us r s) (is_other w us r s) (no_cell_left w us r s) (no_label_left w us r s) a.0) ih.0,
        stays (is_label r) (not (known w (key w u) us)) (labels w us) label_limit (eight_fails (is_long_lem w r s) (is_second w us r s) (is_other w us r s) (no_cell_left w us r s) (no_label_left w us r s) a.0) ih.1,
      )

  entries_count : (address : Name → ℕ) (seen : List Mention) → length (entries w address seen) ≡ count w (uses_of seen)
  entries_count address seen = ap length (entries_are w address seen) ∙ length-map (firsts w seen) _ ∙ firsts_count w seen

  pub few : (address : Name → ℕ) (seen : List Mention) → Accepted w (uses_of seen) → (length (entries w address seen) ≤ 702) × (first_cell + cells w (uses_of seen) ≤ 512)
  few address seen a =
      let x = few_both (uses_of seen) a in
      (omega (arith, entries_count address seen), omega arith)

  -- indices
  index_of : (k : Key) (seen : List Mention) (h : Has w seen k) → index w k (uses_of seen) ≡ h.place
  index_of k seen h = ap (λ x. index w x (uses_of seen)) (sym h.is_key) ∙ (first_at w seen h.place h.within).at_index

  pub has_index : (k : Key) (seen : List Mention) (address : Name → ℕ) → known w k (uses_of seen) ≡ true → index w k (uses_of seen) < length (entries w address seen)
  has_index k seen address e =
      let h = has_first w seen k e in
      omega (arith, index_of k seen h, h.within, entries_count address seen, firsts_count w seen)

  pub apart : (k l : Key) (seen : List Mention) → known w k (uses_of seen) ≡ true → known w l (uses_of seen) ≡ true → index w k (uses_of seen) ≡ index w l (uses_of seen) → k ≡ l
  apart k l seen e f q =
      let h = has_first w seen k e in
      let j = has_first w seen l f in
      let same : h.place ≡ j.place = sym (index_of k seen h) ∙ q ∙ index_of l seen j in
      sym h.is_key ∙ ap (λ n. key_of w (get_or (firsts w seen) n no_first)) same ∙ j.is_key

  pub index_stays : (k : Key) (u : Use) (us : List Use) → known w k us ≡ true → index w k (u ∷ us) ≡ index w k us
  index_stays k u us e = ap (λ b. cond b (index w k us) (count w us)) e

  pub cell_stays : (k : Key) (u : Use) (us : List Use) → known w k us ≡ true → cells_before w k (u ∷ us) ≡ cells_before w k us
  cell_stays k u us e = ap (λ b. cond b (cells_before w k us) (cells w us)) e

  pub placed : (seen : List Mention) (m : Mention) → Accepted w (uses_of seen) → In m seen → is_definition m.used.role ≡ true → address_in seen m.used.spelling ≡ m.address
  placed [] m a i d = elim i [ ]
  placed (v ∷ seen) m a i d = go (in_cases i) (λ j. placed seen m a.1 j d)
    where
      go : (v ≡ m) ⊎ In m seen → (In m seen → address_in seen m.used.spelling ≡ m.address) → address_in (v ∷ seen) m.used.spelling ≡ m.address
      go (inl e) ih = ap (λ (x : Mention). address_in (x ∷ seen) m.used.spelling) e ∙ defined_here seen m d
      go (inr j) ih = by (way (is_definition v.used.role && bytes_eq m.used.spelling v.used.spelling))
        where
          by : Way (is_definition v.used.role && bytes_eq m.used.spelling v.used.spelling) → address_in (v ∷ seen) m.used.spelling ≡ m.address
          by (fails e) = ap (λ b. cond b v.address (address_in seen m.used.spelling)) e ∙ ih j
          by (holds e) =
              let x = and_parts (is_definition v.used.role) (bytes_eq m.used.spelling v.used.spelling) e in
              let r = v.used.role in
              let t = v.used.spelling in
              let five = five_fails (is_long_lem w r t) (is_second w (uses_of seen) r t) (is_other w (uses_of seen) r t) (no_cell_left w (uses_of seen) r t) (no_label_left w (uses_of seen) r t) a.0 in
              let again : among is_definition t (uses_of seen) ≡ true =
              ap (λ z. among is_definition z (uses_of seen)) (sym (same_bytes_sound _ _ x.1)) ∙ among_complete is_definition m.used.role m.used.spelling (uses_of seen) (use_in seen m j) d in
              absurd (clash (and_from (is_definition r) (among is_definition t (uses_of seen)) x.0 again) five)

pub is_pending : (text : List ℕ) (seen : List Mention) (x : Name) → AllSound text seen → (address_in seen x ≡ pending) ↔ (among is_definition x (uses_of seen) ≡ false)
is_pending text seen x a = (λ e. by e (way (among is_definition x (uses_of seen))), λ e. pending_none seen x e)
  where
    by : address_in seen x ≡ pending → Way (among is_definition x (uses_of seen)) → among is_definition x (uses_of seen) ≡ false
    by e (fails m) = m
    by e (holds m) = absurd (let l = placed_below text seen a x m in omega (arith, e))
