-- What the cells hold at first: each variable's 0, each number's its word.
use Rattle.std.proofs.Common.{◌≡◌, ℕ, ◌+◌, ◌<◌, Bool, true, false, cond, not, ◌&&◌, List, [], ◌∷◌, ◌++◌, length, get_or, ℤ, pos, sym, refl, ap, ◌∙◌, subst, arith, length-append, get_or-append-add}
use lib.ListN.{get_or-append}
use Rattle.std.proofs.lemmas.Bool.{false≢true}
use Rattle.std.proofs.lemmas.List.{length_push, get_or_push}
use Rattle.token.specs.Tokens.{Token}
use Rattle.token.specs.Numbers.{word}
use Rattle.trees.specs.Trees.{Name}
use Rattle.arithmetic.specs.Words.{Words}
use Rattle.limits.specs.Uses.{Role, definition, target, listed, variable_use, number_use, Use, made, In, uses, is_label, Key, label_key, variable_key, number_key, key_by, key, known, count_if, cells}
use Rattle.limits.specs.Symbols.{cells_before, cells_used, variable_cell, literal_cell}
use Rattle.limits.proofs.Keys.{known_complete}
use Rattle.limits.proofs.Cells.{has_cell, role_cell, Place, older, newest, place_of, before_older, before_newest, below}
use Rattle.sheets.specs.Images.{first_value, first_values, fixed_cells, first_cells}

-- what a variable or a number word holds at first
abbrev held_by : Key → ℤ
held_by (label_key x) = pos 0
held_by (variable_key x) = pos 0
held_by (number_key n) = n

module _ (w : Words) where
  role_holds : (r : Role) (s : List ℕ) → first_value w r s ≡ held_by (key_by w r s)
  role_holds r s = grind arith

  pub length_values : (us : List Use) → length (first_values w us) ≡ cells w us
  length_values [] = refl
  length_values (u ∷ us) = go (not (is_label u.role) && not (known w (key w u) us)) (length_values us)
    where
      go : (b : Bool) → length (first_values w us) ≡ cells w us →
          length (cond b (first_values w us ++ (first_value w u.role u.spelling ∷ [])) (first_values w us)) ≡ count_if b (cells w us)
      go true e = let a = length_push (first_values w us) (first_value w u.role u.spelling) in omega (arith, a, e)
      go false e = e

  -- what is held before stays, and a new symbol's value comes after it
  kept : (u : Use) (us : List Use) (n : ℕ) → n < cells w us → get_or (first_values w (u ∷ us)) n (pos 0) ≡ get_or (first_values w us) n (pos 0)
  kept u us n h = go (not (is_label u.role) && not (known w (key w u) us))
    where
      go : (b : Bool) → get_or (cond b (first_values w us ++ (first_value w u.role u.spelling ∷ [])) (first_values w us)) n (pos 0) ≡ get_or (first_values w us) n (pos 0)
      go true = get_or-append (first_values w us) (first_value w u.role u.spelling ∷ []) (pos 0) n (subst (λ (m : ℕ). n < m) (sym (length_values us)) h)
      go false = refl

  added : (u : Use) (us : List Use) → not (is_label u.role) ≡ true → known w (key w u) us ≡ false →
      get_or (first_values w (u ∷ us)) (cells w us) (pos 0) ≡ first_value w u.role u.spelling
  added u us a k = rw (a, k) (get_or_push (first_values w us) (first_value w u.role u.spelling) (pos 0) (cells w us) (length_values us))

  held : (k : Key) → has_cell k ≡ true → ((us : List Use) → known w k us ≡ true → cells_before w k us < cells w us) → (us : List Use) → known w k us ≡ true →
      get_or (first_values w us) (cells_before w k us) (pos 0) ≡ held_by k
  held k c b [] e = absurd (false≢true e)
  held k c b (u ∷ us) e = go (place_of w k u us e) (held k c b us)
    where
      go : Place w k u us → (known w k us ≡ true → get_or (first_values w us) (cells_before w k us) (pos 0) ≡ held_by k) →
          get_or (first_values w (u ∷ us)) (cells_before w k (u ∷ us)) (pos 0) ≡ held_by k
      go (older h) ih =
          ap (λ (n : ℕ). get_or (first_values w (u ∷ us)) n (pos 0)) (before_older w k u us h) ∙ kept u us (cells_before w k us) (b us h) ∙ ih h
      go (newest h q) ih =
          let a : not (is_label u.role) ≡ true = role_cell w u.role u.spelling ∙ ap has_cell q ∙ c in
          let d : known w (key w u) us ≡ false = ap (λ (x : Key). known w x us) q ∙ h in
          ap (λ (n : ℕ). get_or (first_values w (u ∷ us)) n (pos 0)) (before_newest w k u us h) ∙ added u us a d ∙ role_holds u.role u.spelling ∙ ap held_by q

module _ (w : Words) (ts : List Token) where
  pub length_cells : length (first_cells w ts) ≡ cells_used w ts
  length_cells = length-append fixed_cells (first_values w (uses ts)) ∙ ap (λ (n : ℕ). 66 + n) (length_values w (uses ts))

  past_fixed : (n : ℕ) → get_or (first_cells w ts) (66 + n) (pos 0) ≡ get_or (first_values w (uses ts)) n (pos 0)
  past_fixed n = get_or-append-add fixed_cells (first_values w (uses ts)) n (pos 0)

  pub variable_held : (x : Name) → In (made variable_use x) (uses ts) → get_or (first_cells w ts) (variable_cell w ts x) (pos 0) ≡ pos 0
  variable_held x i =
      past_fixed (cells_before w (variable_key x) (uses ts)) ∙
      held w (variable_key x) refl (λ us h. below w (variable_key x) us refl h) (uses ts) (known_complete w (variable_key x) (made variable_use x) (uses ts) i refl)

  pub literal_held : (ds : List ℕ) → In (made number_use ds) (uses ts) → get_or (first_cells w ts) (literal_cell w ts ds) (pos 0) ≡ word w ds
  literal_held ds i =
      past_fixed (cells_before w (number_key (word w ds)) (uses ts)) ∙
      held w (number_key (word w ds)) refl (λ us h. below w (number_key (word w ds)) us refl h) (uses ts) (known_complete w (number_key (word w ds)) (made number_use ds) (uses ts) i refl)
