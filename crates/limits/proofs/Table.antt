-- The table of symbols has one for each first use, and no other.
use Rattle.std.proofs.Common.{◌≡◌, ℕ, zero, suc, ◌+◌, ◌-◌, ◌<◌, ◌≤◌, Bool, true, false, cond, ◌⊎◌, List, [], ◌∷◌, length, drop, sym, refl, ap, ◌∙◌, subst, inl, inr, zero-le, eq-or-lt_of_le, arith}
use mathlib.Core.Option.{Option, none, some}
use Rattle.std.proofs.lemmas.Bool.{not-true, or_right, not_from_false}
use Rattle.token.specs.Tokens.{Token, Placed}
use Rattle.trees.specs.Trees.{Name}
use Rattle.arithmetic.specs.Words.{Words}
use Rattle.limits.specs.Uses.{Use, made, In, at_head, in_tail, use_at, with_use, uses_before, uses, is_label, same_key, key, known, cells}
use Rattle.limits.specs.Rules.{past, rest, seen, New, tokens_of, place}
use Rattle.limits.specs.Symbols.{kind_of, Symbol, first_cell, cells_before, cell, symbol, entered, symbols_after, symbols, FirstUse}
use Rattle.limits.proofs.Keys.{known_complete}
use Rattle.limits.proofs.Lists.{seen_next}
use Rattle.limits.proofs.Stands.{new_sound, new_complete}
use Rattle.limits.proofs.Lists.{drop_some}
use Rattle.limits.proofs.Search.{At, at_rest, at_next, at_start, used_within, all_seen}
use Rattle.limits.proofs.Cells.{before_older, before_newest}

module _ (w : Words) (ts : List Token) where
  -- the cells before a symbol are counted at its first use
  first_cells : (k : ℕ) (u : Use) → use_at (past ts k) (rest ts k) ≡ some u → known w (key w u) (seen ts k) ≡ false →
      (n : ℕ) → (known w (key w u) (seen ts (suc n + k)) ≡ true) × (cells_before w (key w u) (seen ts (suc n + k)) ≡ cells w (seen ts k))
  first_cells k u e h zero =
      let a : suc 0 + k ≡ suc k = omega arith in
      let b : seen ts (suc k) ≡ u ∷ seen ts k = seen_next ts k ∙ ap (λ (o : Option Use). with_use o (seen ts k)) e in
      let c : seen ts (suc 0 + k) ≡ u ∷ seen ts k = ap (seen ts) a ∙ b in (
        subst (λ (us : List Use). known w (key w u) us ≡ true) (sym c) (known_complete w (key w u) u (u ∷ seen ts k) at_head refl),
        subst (λ (us : List Use). cells_before w (key w u) us ≡ cells w (seen ts k)) (sym c) (before_newest w (key w u) u (seen ts k) h),
      )
  first_cells k u e h (suc n) =
      let a : suc (suc n) + k ≡ suc (suc n + k) = omega arith in
      let c : seen ts (suc (suc n) + k) ≡ with_use (use_at (past ts (suc n + k)) (rest ts (suc n + k))) (seen ts (suc n + k)) = ap (seen ts) a ∙ seen_next ts (suc n + k) in
      go (use_at (past ts (suc n + k)) (rest ts (suc n + k))) c (first_cells k u e h n)
    where
      go : (o : Option Use) → seen ts (suc (suc n) + k) ≡ with_use o (seen ts (suc n + k)) →
          (known w (key w u) (seen ts (suc n + k)) ≡ true) × (cells_before w (key w u) (seen ts (suc n + k)) ≡ cells w (seen ts k)) →
          (known w (key w u) (seen ts (suc (suc n) + k)) ≡ true) × (cells_before w (key w u) (seen ts (suc (suc n) + k)) ≡ cells w (seen ts k))
      go none c p = (
        subst (λ (us : List Use). known w (key w u) us ≡ true) (sym c) p.0,
        subst (λ (us : List Use). cells_before w (key w u) us ≡ cells w (seen ts k)) (sym c) p.1,
      )
      go (some v) c p = (
        subst (λ (us : List Use). known w (key w u) us ≡ true) (sym c) (or_right (same_key (key w u) (key w v)) (known w (key w u) (seen ts (suc n + k))) p.0),
        subst (λ (us : List Use). cells_before w (key w u) us ≡ cells w (seen ts k)) (sym c) (before_older w (key w u) v (seen ts (suc n + k)) p.0 ∙ p.1),
      )

  first_cell_is : (k : ℕ) (u : Use) → use_at (past ts k) (rest ts k) ≡ some u → known w (key w u) (seen ts k) ≡ false →
      cells_before w (key w u) (uses ts) ≡ cells w (seen ts k)
  first_cell_is k u e h =
      let l : k < length ts = used_within ts k u.role u.spelling (record { is_used = e }) in
      let n : suc (length ts - suc k) + k ≡ length ts = omega arith in
      let a : seen ts (suc (length ts - suc k) + k) ≡ uses ts = ap (seen ts) n ∙ all_seen ts in
      subst (λ (us : List Use). cells_before w (key w u) us ≡ cells w (seen ts k)) a (first_cells k u e h (length ts - suc k)).1

module _ (w : Words) (address : Name → ℕ) (ts : List Placed) where
  abbrev tokens : List Token
  tokens = tokens_of ts

  -- the symbol of the k-th token, if it is a first use
  symbol_is : (k : ℕ) (u : Use) → use_at (past tokens k) (rest tokens k) ≡ some u → known w (key w u) (seen tokens k) ≡ false → (p : ℕ) → place 0 (drop k ts) ≡ p →
      symbol w address (seen tokens k) p u ≡ record {
        kind = kind_of u.role;
        place = place 0 (drop k ts);
        length = length u.spelling;
        at = cond (is_label u.role) (address u.spelling) (cell w tokens (key w u));
      }
  symbol_is k u e h p q = (λ i. record {
    kind = kind_of u.role;
    place = sym q i;
    length = length u.spelling;
    at = cond (is_label u.role) (address u.spelling) (first_cell + sym (first_cell_is w tokens k u e h) i);
  })

  -- at the k-th token
  module _ (k : ℕ) (before : List Token) (p : Placed) (ps : List Placed) (a : At ts k before (p ∷ ps)) where
    use_is : (o : Option Use) → use_at before (p.token ∷ tokens_of ps) ≡ o → use_at (past tokens k) (rest tokens k) ≡ o
    use_is o e = (λ i. use_at (a.is_past i) (at_rest ts k before (p ∷ ps) a i)) ∙ e

    seen_is : seen tokens k ≡ uses_before before (p.token ∷ tokens_of ps)
    seen_is = (λ i. uses_before (a.is_past i) (at_rest ts k before (p ∷ ps) a i))

    place_is : place 0 (drop k ts) ≡ p.offset
    place_is = ap (place 0) a.is_rest

    first_use : (u : Use) → use_at before (p.token ∷ tokens_of ps) ≡ some u → known w (key w u) (uses_before before (p.token ∷ tokens_of ps)) ≡ false →
        FirstUse w address ts (symbol w address (uses_before before (p.token ∷ tokens_of ps)) p.offset u)
    first_use u e h =
        let f : use_at (past tokens k) (rest tokens k) ≡ some u = use_is (some u) e in
        let g : known w (key w u) (seen tokens k) ≡ false = ap (known w (key w u)) seen_is ∙ h in
        record {
          index = k;
          role = u.role;
          spelling = u.spelling;
          used = record { is_used = f };
          new = new_sound w tokens k u.role u.spelling (not_from_false (known w (key w u) (seen tokens k)) g);
          is_symbol = ap (λ (us : List Use). symbol w address us p.offset u) (sym seen_is) ∙ symbol_is k u f g p.offset place_is;
        }

  sound_from : (s : Symbol) (after : List Placed) (k : ℕ) (before : List Token) → At ts k before after → In s (symbols_after w address before after) → FirstUse w address ts s
  sound_from s [] k before a i = elim i [ ]
  sound_from s (p ∷ ps) k before a i =
      go (use_at before (p.token ∷ tokens_of ps)) refl (λ j. sound_from s ps (suc k) (p.token ∷ before) (at_next ts k before p ps a) j) i
    where
      split : (x : Symbol) → FirstUse w address ts x → (In s (symbols_after w address (p.token ∷ before) ps) → FirstUse w address ts s) →
          In s (x ∷ symbols_after w address (p.token ∷ before) ps) → FirstUse w address ts s
      split x f g at_head = f
      split x f g (in_tail j) = g j

      by : (u : Use) → use_at before (p.token ∷ tokens_of ps) ≡ some u → (b : Bool) → known w (key w u) (uses_before before (p.token ∷ tokens_of ps)) ≡ b →
          (In s (symbols_after w address (p.token ∷ before) ps) → FirstUse w address ts s) →
          In s (cond b (symbols_after w address (p.token ∷ before) ps)
          (symbol w address (uses_before before (p.token ∷ tokens_of ps)) p.offset u ∷ symbols_after w address (p.token ∷ before) ps)) → FirstUse w address ts s
      by u e true h ih j = ih j
      by u e false h ih j = split (symbol w address (uses_before before (p.token ∷ tokens_of ps)) p.offset u) (first_use k before p ps a u e h) ih j

      go : (o : Option Use) → use_at before (p.token ∷ tokens_of ps) ≡ o → (In s (symbols_after w address (p.token ∷ before) ps) → FirstUse w address ts s) →
          In s (entered w address (uses_before before (p.token ∷ tokens_of ps)) p.offset o (symbols_after w address (p.token ∷ before) ps)) → FirstUse w address ts s
      go none e ih j = ih j
      go (some u) e ih j = by u e (known w (key w u) (uses_before before (p.token ∷ tokens_of ps))) refl ih j

  pub sound : (s : Symbol) → In s (symbols w address ts) → FirstUse w address ts s
  sound s i = sound_from s ts 0 [] (at_start ts) i

  entered_tail : (s : Symbol) (us : List Use) (p : ℕ) (o : Option Use) (ss : List Symbol) → In s ss → In s (entered w address us p o ss)
  entered_tail s us p none ss i = i
  entered_tail s us p (some u) ss i = go (known w (key w u) us)
    where
      go : (b : Bool) → In s (cond b ss (symbol w address us p u ∷ ss))
      go true = i
      go false = in_tail i

  entered_head : (us : List Use) (p : ℕ) (u : Use) (o : Option Use) (ss : List Symbol) → o ≡ some u → known w (key w u) us ≡ false →
      In (symbol w address us p u) (entered w address us p o ss)
  entered_head us p u o ss e h = rw (e, h) at_head

  complete_from : (s : Symbol) (f : FirstUse w address ts s) (after : List Placed) (k : ℕ) (before : List Token) → At ts k before after → k ≤ f.index →
      In s (symbols_after w address before after)
  complete_from s f [] k before a l =
      let x = used_within tokens f.index f.role f.spelling f.used in
      let z : length tokens ≤ k = drop_some k tokens (at_rest ts k before [] a) in
      absurd (no_both x z l)
    where
      no_both : f.index < length tokens → length tokens ≤ k → k ≤ f.index → ⊥
      no_both x y z = omega arith
  complete_from s f (p ∷ ps) k before a l = go (eq-or-lt_of_le l) (λ g. complete_from s f ps (suc k) (p.token ∷ before) (at_next ts k before p ps a) g)
    where
      here_it : k ≡ f.index → In s (symbols_after w address before (p ∷ ps))
      here_it q =
          let u : Use = made f.role f.spelling in
          let e : use_at (past tokens k) (rest tokens k) ≡ some u = subst (λ (j : ℕ). use_at (past tokens j) (rest tokens j) ≡ some u) (sym q) f.used.is_used in
          let n : New w tokens k f.role f.spelling = subst (λ (j : ℕ). New w tokens j f.role f.spelling) (sym q) f.new in
          let h : known w (key w u) (seen tokens k) ≡ false = not-true (known w (key w u) (seen tokens k)) (new_complete w tokens k f.role f.spelling n) in
          let c : symbol w address (seen tokens k) p.offset u ≡ s =
          symbol_is k u e h p.offset (place_is k before p ps a)
          ∙ (λ i. record {
            kind = kind_of f.role;
            place = place 0 (drop (q i) ts);
            length = length f.spelling;
            at = cond (is_label f.role) (address f.spelling) (cell w tokens (key w u));
          })
          ∙ sym f.is_symbol in
          let d : In (symbol w address (seen tokens k) p.offset u)
          (entered w address (seen tokens k) p.offset (use_at (past tokens k) (rest tokens k)) (symbols_after w address (p.token ∷ before) ps)) =
          entered_head (seen tokens k) p.offset u (use_at (past tokens k) (rest tokens k)) (symbols_after w address (p.token ∷ before) ps) e h in
          let g : In s (entered w address (seen tokens k) p.offset (use_at (past tokens k) (rest tokens k)) (symbols_after w address (p.token ∷ before) ps)) =
          subst (λ (x : Symbol). In x (entered w address (seen tokens k) p.offset (use_at (past tokens k) (rest tokens k)) (symbols_after w address (p.token ∷ before) ps))) c d in
          subst (λ (x : List Symbol). In s x)
          (λ i. entered w address (seen_is k before p ps a i) p.offset (use_is k before p ps a (use_at before (p.token ∷ tokens_of ps)) refl i) (symbols_after w address (p.token ∷ before) ps)) g

      go : (k ≡ f.index) ⊎ (k < f.index) → (k < f.index → In s (symbols_after w address (p.token ∷ before) ps)) → In s (symbols_after w address before (p ∷ ps))
      go (inl q) ih = here_it q
      go (inr g) ih =
          entered_tail s (uses_before before (p.token ∷ tokens_of ps)) p.offset (use_at before (p.token ∷ tokens_of ps)) (symbols_after w address (p.token ∷ before) ps) (ih g)

  pub complete : (s : Symbol) → FirstUse w address ts s → In s (symbols w address ts)
  complete s f = complete_from s f ts 0 [] (at_start ts) zero-le
