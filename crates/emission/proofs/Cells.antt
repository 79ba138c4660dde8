-- Cells are known from the first use on.
use Rattle.std.proofs.Common.{◌≡◌, ℕ, zero, suc, ◌+◌, ◌-◌, ◌<◌, ◌≤◌, Bool, true, false, cond, List, [], ◌∷◌, length, sym, refl, ap, ◌∙◌, subst, arith}
use mathlib.Core.Option.{Option, none, some}
use Rattle.std.proofs.lemmas.Bool.{or_left, or_right}
use Rattle.token.specs.Tokens.{Token}
use Rattle.token.specs.Numbers.{word}
use Rattle.arithmetic.specs.Words.{Words}
use Rattle.limits.specs.Uses.{Role, Use, made, use_at, with_use, uses, Key, variable_key, number_key, same_key, key_by, key, known, cells}
use Rattle.limits.specs.Rules.{past, rest, seen, Used}
use Rattle.limits.specs.Symbols.{first_cell, cells_before, cell, cells_used}
use Rattle.emission.specs.Room.{Below}
use Rattle.emission.specs.Layouts.{layout}
use Rattle.limits.proofs.Lists.{seen_next}
use Rattle.limits.proofs.Search.{all_seen}
use Rattle.limits.proofs.Keys.{same_key_complete}
use Rattle.limits.proofs.Cells.{cells_grow}

-- a symbol that is known stays known, with the same cell
record Stays (w : Words) (k : Key) (us vs : List Use) : Type 0 where
  still : known w k vs ≡ true
  same : cells_before w k vs ≡ cells_before w k us

one_more : (w : Words) (k : Key) (us : List Use) (o : Option Use) → known w k us ≡ true → Stays w k us (with_use o us)
one_more w k us none h = record { still = h; same = refl }
one_more w k us (some u) h = record { still = or_right (same_key k (key w u)) (known w k us) h; same = rw h }

module _ (w : Words) (ts : List Token) (k : Key) where
  later : (j n : ℕ) → known w k (seen ts j) ≡ true → Stays w k (seen ts j) (seen ts (n + j))
  later j zero h =
      let e : j ≡ 0 + j = omega arith in
      subst (λ (i : ℕ). Stays w k (seen ts j) (seen ts i)) e (record { still = h; same = refl })
  later j (suc n) h =
      let e : suc (n + j) ≡ suc n + j = omega arith in
      let x : Stays w k (seen ts j) (seen ts (n + j)) = later j n h in
      let z : Stays w k (seen ts (n + j)) (seen ts (suc (n + j))) = next (n + j) x.still in
      subst (λ (i : ℕ). Stays w k (seen ts j) (seen ts i)) e (record { still = z.still; same = z.same ∙ x.same })
    where
      next : (i : ℕ) → known w k (seen ts i) ≡ true → Stays w k (seen ts i) (seen ts (suc i))
      next i g = subst (Stays w k (seen ts i)) (sym (seen_next ts i)) (one_more w k (seen ts i) (use_at (past ts i) (rest ts i)) g)

  pub known_cell : (j : ℕ) → j ≤ length ts → known w k (seen ts j) ≡ true → cell w ts k ≡ first_cell + cells_before w k (seen ts j)
  known_cell j l h =
      let e : (length ts - j) + j ≡ length ts = omega arith in
      let x : Stays w k (seen ts j) (seen ts ((length ts - j) + j)) = later j (length ts - j) h in
      ap (λ (us : List Use). first_cell + cells_before w k us) (sym (ap (seen ts) e ∙ all_seen ts)) ∙ ap (λ (n : ℕ). first_cell + n) x.same

pub next_cell : (w : Words) (ts : List Token) (r : Role) (s : List ℕ) (j : ℕ) → j < length ts → Used ts j r s →
    known w (key_by w r s) (seen ts j) ≡ false → cell w ts (key_by w r s) ≡ first_cell + cells w (seen ts j)
next_cell w ts r s j l u h =
    let e : seen ts (suc j) ≡ made r s ∷ seen ts j = seen_next ts j ∙ ap (λ (o : Option Use). with_use o (seen ts j)) u.is_used in
    let t : known w (key_by w r s) (made r s ∷ seen ts j) ≡ true =
    or_left (same_key (key_by w r s) (key_by w r s)) (known w (key_by w r s) (seen ts j)) (same_key_complete (key_by w r s) (key_by w r s) refl) in
    known_cell w ts (key_by w r s) (suc j) (omega arith) (ap (known w (key_by w r s)) e ∙ t)
    ∙ ap (λ (us : List Use). first_cell + cells_before w (key_by w r s) us) e
    ∙ ap (λ (b : Bool). first_cell + cond b (cells_before w (key_by w r s) (seen ts j)) (cells w (seen ts j))) h

-- the cells before a first use are among all
before_within : (w : Words) (k : Key) (us : List Use) → cells_before w k us ≤ cells w us
before_within w k [] = omega arith
before_within w k (u ∷ us) = go (known w k us) (before_within w k us) (cells_grow w u us)
  where
    go : (b : Bool) → cells_before w k us ≤ cells w us → cells w us ≤ cells w (u ∷ us) → cond b (cells_before w k us) (cells w us) ≤ cells w (u ∷ us)
    go true p q = omega arith
    go false p q = q

cell_below : (w : Words) (ts : List Token) (k : Key) → cell w ts k < suc (cells_used w ts)
cell_below w ts k = let h = before_within w k (uses ts) in omega arith

pub below : (w : Words) (ts : List Token) → Below (layout w ts) (suc (cells_used w ts))
below w ts = record { variables = λ n. cell_below w ts (variable_key n); literals = λ n. cell_below w ts (number_key (word w n)) }
