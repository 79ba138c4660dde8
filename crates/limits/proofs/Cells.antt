-- Cells are apart, and few.
use Rattle.std.proofs.Common.{◌≡◌, ℕ, zero, suc, ◌+◌, ◌<◌, ◌≤◌, Bool, true, false, cond, not, ◌&&◌, ◌⊎◌, List, [], ◌∷◌, length, ℤ, sym, refl, ap, ◌∙◌, subst, inl, inr, zero-le, le_trans, le_refl, arith}
use mathlib.Core.List.{reverse_aux}
use mathlib.Core.Option.{Option, none, some}
use Rattle.std.proofs.Math.Nat.{ne_of_lt}
use Rattle.std.proofs.lemmas.Bool.{false≢true, not-true, cases_lt, and_parts, or_cases}
use Rattle.token.specs.Tokens.{Token, Placed}
use Rattle.token.specs.Numbers.{word}
use Rattle.trees.specs.Trees.{Name}
use Rattle.arithmetic.specs.Words.{Words}
use Rattle.limits.specs.Uses.{Role, variable_use, number_use, Use, made, In, use_at, with_use, uses_before, uses, is_label, Key, label_key, variable_key, number_key, same_key, key_by, key, known, count_if, cells, labels}
use Rattle.limits.specs.Rules.{cell_limit, label_limit, past, rest, seen, no_cell, no_label, Clear, tokens_of}
use Rattle.limits.specs.Symbols.{Symbol, first_cell, cells_before, cell, variable_cell, literal_cell, cells_used, symbol, entered, symbols_after, symbols}
use Rattle.limits.proofs.Keys.{Way, holds, fails, way, clash, same_key_sound, known_complete}
use Rattle.limits.proofs.Lists.{seen_next}
use Rattle.limits.proofs.Stands.{new_sound}
use Rattle.limits.proofs.Search.{all_seen}

-- a variable or a number word
abbrev pub has_cell : Key → Bool
has_cell (label_key x) = false
has_cell (variable_key x) = true
has_cell (number_key n) = true

pub role_cell : (w : Words) (r : Role) (s : List ℕ) → not (is_label r) ≡ has_cell (key_by w r s)
role_cell w r s = grind arith

module _ (w : Words) where
  -- a new symbol with a cell adds one
  cells_new : (u : Use) (us : List Use) → has_cell (key w u) ≡ true → known w (key w u) us ≡ false → cells w (u ∷ us) ≡ suc (cells w us)
  cells_new u us c k =
      let a : not (is_label u.role) ≡ true = role_cell w u.role u.spelling ∙ c in
      rw (a, k)

  pub cells_grow : (u : Use) (us : List Use) → cells w us ≤ cells w (u ∷ us)
  cells_grow u us = go (not (is_label u.role) && not (known w (key w u) us))
    where
      go : (b : Bool) → cells w us ≤ count_if b (cells w us)
      go true = omega arith
      go false = omega arith

  -- the first use of a known symbol is further back, or it is this one
  pub data Place (k : Key) (u : Use) (us : List Use) : Type 0 where
    older : known w k us ≡ true → Place k u us
    newest : known w k us ≡ false → key w u ≡ k → Place k u us

  pub place_of : (k : Key) (u : Use) (us : List Use) → known w k (u ∷ us) ≡ true → Place k u us
  place_of k u us e = go (way (known w k us))
    where
      go : Way (known w k us) → Place k u us
      go (holds h) = older h
      go (fails h) = newest h (sym (same_key_sound k (key w u) (left_one (or_cases (same_key k (key w u)) (known w k us) e))))
        where
          left_one : (same_key k (key w u) ≡ true) ⊎ (known w k us ≡ true) → same_key k (key w u) ≡ true
          left_one (inl p) = p
          left_one (inr p) = absurd (clash p h)

  pub before_older : (k : Key) (u : Use) (us : List Use) → known w k us ≡ true → cells_before w k (u ∷ us) ≡ cells_before w k us
  before_older k u us h = rw h

  pub before_newest : (k : Key) (u : Use) (us : List Use) → known w k us ≡ false → cells_before w k (u ∷ us) ≡ cells w us
  before_newest k u us h = rw h

  newest_adds : (k : Key) (u : Use) (us : List Use) → has_cell k ≡ true → known w k us ≡ false → key w u ≡ k → cells w (u ∷ us) ≡ suc (cells w us)
  newest_adds k u us c h e =
      cells_new u us (ap has_cell e ∙ c) (ap (λ (x : Key). known w x us) e ∙ h)

  pub below : (k : Key) (us : List Use) → has_cell k ≡ true → known w k us ≡ true → cells_before w k us < cells w us
  below k [] c e = absurd (false≢true e)
  below k (u ∷ us) c e = go (place_of k u us e) (λ h. below k us c h)
    where
      go : Place k u us → (known w k us ≡ true → cells_before w k us < cells w us) → cells_before w k (u ∷ us) < cells w (u ∷ us)
      go (older h) ih =
          let a : cells_before w k us < cells w us = ih h in
          let b : cells w us ≤ cells w (u ∷ us) = cells_grow u us in
          let d : cells_before w k (u ∷ us) ≡ cells_before w k us = before_older k u us h in
          subst (λ (x : ℕ). x < cells w (u ∷ us)) (sym d) (le_trans a b)
      go (newest h q) ih =
          let a : cells w (u ∷ us) ≡ suc (cells w us) = newest_adds k u us c h q in
          let d : cells_before w k (u ∷ us) ≡ cells w us = before_newest k u us h in
          subst (λ (x : ℕ). suc x ≤ cells w (u ∷ us)) (sym d) (subst (λ (y : ℕ). suc (cells w us) ≤ y) (sym a) (le_refl (suc (cells w us))))

  apart : (k l : Key) (us : List Use) → has_cell k ≡ true → has_cell l ≡ true → known w k us ≡ true → known w l us ≡ true →
      cells_before w k us ≡ cells_before w l us → k ≡ l
  apart k l [] c d e f q = absurd (false≢true e)
  apart k l (u ∷ us) c d e f q = go (place_of k u us e) (place_of l u us f) (λ g h r. apart k l us c d g h r)
    where
      go : Place k u us → Place l u us → (known w k us ≡ true → known w l us ≡ true → cells_before w k us ≡ cells_before w l us → k ≡ l) → k ≡ l
      go (older g) (older h) ih = ih g h (sym (before_older k u us g) ∙ q ∙ before_older l u us h)
      go (older g) (newest h r) ih = absurd (ne_of_lt (below k us c g) (sym (before_older k u us g) ∙ q ∙ before_newest l u us h))
      go (newest g r) (older h) ih = absurd (ne_of_lt (below l us d h) (sym (before_older l u us h) ∙ sym q ∙ before_newest k u us g))
      go (newest g r) (newest h s) ih = sym r ∙ s

  used_known : (u : Use) (us : List Use) → In u us → known w (key w u) us ≡ true
  used_known u us i = known_complete w (key w u) u us i refl

module _ (w : Words) (ts : List Token) where
  cell_apart : (u v : Use) → In u (uses ts) → In v (uses ts) → has_cell (key w u) ≡ true → has_cell (key w v) ≡ true →
      cell w ts (key w u) ≡ cell w ts (key w v) → key w u ≡ key w v
  cell_apart u v i j c d e =
      let q : cells_before w (key w u) (uses ts) ≡ cells_before w (key w v) (uses ts) = omega arith in
      apart w (key w u) (key w v) (uses ts) c d (used_known w u (uses ts) i) (used_known w v (uses ts) j) q

  variable_of : (x y : List ℕ) → variable_key x ≡ variable_key y → x ≡ y
  variable_of x y e = cc

  number_of : (x y : ℤ) → number_key x ≡ number_key y → x ≡ y
  number_of x y e = cc

  pub variables_apart : (x y : Name) → In (made variable_use x) (uses ts) → In (made variable_use y) (uses ts) → variable_cell w ts x ≡ variable_cell w ts y → x ≡ y
  variables_apart x y i j e = variable_of x y (cell_apart (made variable_use x) (made variable_use y) i j refl refl e)

  pub numbers_apart : (x : Name) (d : List ℕ) → In (made variable_use x) (uses ts) → In (made number_use d) (uses ts) → variable_cell w ts x ≡ literal_cell w ts d → ⊥
  numbers_apart x d i j e = differ_key (cell_apart (made variable_use x) (made number_use d) i j refl refl e)
    where
      differ_key : variable_key x ≡ number_key (word w d) → ⊥
      differ_key q = grind arith

  pub words_apart : (d e : List ℕ) → In (made number_use d) (uses ts) → In (made number_use e) (uses ts) → literal_cell w ts d ≡ literal_cell w ts e → word w d ≡ word w e
  words_apart d e i j q = number_of (word w d) (word w e) (cell_apart (made number_use d) (made number_use e) i j refl refl q)

  pub words_share : (d e : List ℕ) → word w d ≡ word w e → literal_cell w ts d ≡ literal_cell w ts e
  words_share d e q = ap (λ (n : ℤ). cell w ts (number_key n)) q

  cell_in : (u : Use) → In u (uses ts) → has_cell (key w u) ≡ true → (first_cell ≤ cell w ts (key w u)) × (cell w ts (key w u) < cells_used w ts)
  cell_in u i c =
      let b : cells_before w (key w u) (uses ts) < cells w (uses ts) = below w (key w u) (uses ts) c (used_known w u (uses ts) i) in
      (omega arith, omega arith)

  pub variable_in : (x : Name) → In (made variable_use x) (uses ts) → (first_cell ≤ variable_cell w ts x) × (variable_cell w ts x < cells_used w ts)
  variable_in x i = cell_in (made variable_use x) i refl

  pub literal_in : (d : List ℕ) → In (made number_use d) (uses ts) → (first_cell ≤ literal_cell w ts d) × (literal_cell w ts d < cells_used w ts)
  literal_in d i = cell_in (made number_use d) i refl

-- Without refusal there are few cells and few labels.
module _ (w : Words) (ts : List Token) (clear : Clear w ts) where
  cells_step : (k : ℕ) (o : Option Use) → use_at (past ts k) (rest ts k) ≡ o → cells w (seen ts k) ≤ cell_limit → cells w (with_use o (seen ts k)) ≤ cell_limit
  cells_step k none e h = h
  cells_step k (some u) e h = go (not (is_label u.role) && not (known w (key w u) (seen ts k))) refl
    where
      go : (b : Bool) → (not (is_label u.role) && not (known w (key w u) (seen ts k))) ≡ b → count_if b (cells w (seen ts k)) ≤ cell_limit
      go false q = h
      go true q =
          let p = and_parts (not (is_label u.role)) (not (known w (key w u) (seen ts k))) q in
          elim (cases_lt (cells w (seen ts k)) cell_limit) [
            | inl l ↦ l
            | inr g ↦ absurd (clear k 7 (no_cell u.role u.spelling (record { is_used = e }) (not-true (is_label u.role) p.0) (new_sound w ts k u.role u.spelling p.1) g))
          ]

  labels_step : (k : ℕ) (o : Option Use) → use_at (past ts k) (rest ts k) ≡ o → labels w (seen ts k) ≤ label_limit → labels w (with_use o (seen ts k)) ≤ label_limit
  labels_step k none e h = h
  labels_step k (some u) e h = go (is_label u.role && not (known w (key w u) (seen ts k))) refl
    where
      go : (b : Bool) → (is_label u.role && not (known w (key w u) (seen ts k))) ≡ b → count_if b (labels w (seen ts k)) ≤ label_limit
      go false q = h
      go true q =
          let p = and_parts (is_label u.role) (not (known w (key w u) (seen ts k))) q in
          elim (cases_lt (labels w (seen ts k)) label_limit) [
            | inl l ↦ l
            | inr g ↦ absurd (clear k 8 (no_label u.role u.spelling (record { is_used = e }) p.0 (new_sound w ts k u.role u.spelling p.1) g))
          ]

  cells_seen : (k : ℕ) → cells w (seen ts k) ≤ cell_limit
  cells_seen zero = zero-le
  cells_seen (suc k) = rw (seen_next ts k) (cells_step k (use_at (past ts k) (rest ts k)) refl (cells_seen k))

  labels_seen : (k : ℕ) → labels w (seen ts k) ≤ label_limit
  labels_seen zero = zero-le
  labels_seen (suc k) = rw (seen_next ts k) (labels_step k (use_at (past ts k) (rest ts k)) refl (labels_seen k))

  few_of_cells : cells w (uses ts) ≤ cell_limit
  few_of_cells = rw (all_seen ts) at (cells_seen (length ts))

  few_of_labels : labels w (uses ts) ≤ label_limit
  few_of_labels = rw (all_seen ts) at (labels_seen (length ts))

  pub few_cells : cells_used w ts ≤ 512
  few_cells = let h = few_of_cells in omega arith

-- the symbols are as many as cells and labels together
module _ (w : Words) (address : Name → ℕ) where
  abbrev count : List Use → ℕ
  count us = cells w us + labels w us

  counted : (a b : Bool) (c l : ℕ) → count_if (not a && not b) c + count_if (a && not b) l ≡ cond b (c + l) (suc (c + l))
  counted a b c l = grind arith

  entered_count : (us : List Use) (p : ℕ) (o : Option Use) (ss : List Symbol) →
      count (with_use o us) + length ss ≡ count us + length (entered w address us p o ss)
  entered_count us p none ss = refl
  entered_count us p (some u) ss = ap (λ (x : ℕ). x + length ss) (counted (is_label u.role) (known w (key w u) us) (cells w us) (labels w us)) ∙ go (known w (key w u) us)
    where
      go : (b : Bool) → cond b (count us) (suc (count us)) + length ss ≡ count us + length (cond b ss (symbol w address us p u ∷ ss))
      go true = refl
      go false = omega arith

  symbols_count : (after : List Placed) (before : List Token) →
      count (uses_before before (tokens_of after)) + length (symbols_after w address before after) ≡ count (uses_before (reverse_aux (tokens_of after) before) [])
  symbols_count [] before = omega arith
  symbols_count (p ∷ ps) before =
      sym (entered_count (uses_before before (p.token ∷ tokens_of ps)) p.offset (use_at before (p.token ∷ tokens_of ps)) (symbols_after w address (p.token ∷ before) ps))
      ∙ symbols_count ps (p.token ∷ before)

  pub few_symbols : (ts : List Placed) → Clear w (tokens_of ts) → length (symbols w address ts) ≤ 702
  few_symbols ts clear =
      let a : 0 + length (symbols w address ts) ≡ cells w (uses (tokens_of ts)) + labels w (uses (tokens_of ts)) = symbols_count ts [] in
      let b = few_of_cells w (tokens_of ts) clear in
      let c = few_of_labels w (tokens_of ts) clear in
      omega arith
