-- Words by their addresses.
use Rattle.std.proofs.Common.{◌≡◌, ℕ, zero, suc, ◌<◌, ◌≤◌, Bool, true, false, cond, eqb, List, [], ◌∷◌, ◌++◌, map, reverse, length, sym, refl, ap, ◌∙◌, arith, eqb→eq}
use mathlib.Core.List.{reverse_aux-eq}
use mathlib.Core.Option
use mathlib.Core.Option.{Option, none, some}
use lib.Dec.{eqb-zero-suc, eqb-suc-zero, eqb-suc-suc}
use Rattle.std.proofs.lemmas.Bool.{cond-false, eqb-false, ne_eqb}
use lib.ListN.{get_elem?, length-reverse}
use Rattle.runs.specs.declared.instruction.Instruction.TheVariants.{Bru}
use Rattle.emission.specs.Draft.{Word, fixed, Draft, words_of, patch, label_address, resolved, settled}
use Rattle.emission.specs.Growth.{word_at}
use Rattle.emission.proofs.Sizes.{patch_length}

pub beyond : (ws : List Word) (a : ℕ) → length ws ≤ a → word_at a ws ≡ none
beyond [] a h = refl
beyond (w ∷ ws) a h =
    cond-false (eqb (length ws) a) (some w) (word_at a ws) (ne_eqb (length ws) a (λ q. omega arith)) ∙ beyond ws a (omega arith)

pub patched : (j t : ℕ) (ws : List Word) → j < length ws → word_at j (patch j t ws) ≡ some (fixed (Bru t))
unfolding patch
patched j t [] h = absurd (omega arith)
patched j t (w ∷ ws) h = go (eqb (length ws) j) refl (patched j t ws)
  where
    go : (b : Bool) → eqb (length ws) j ≡ b → (j < length ws → word_at j (patch j t ws) ≡ some (fixed (Bru t))) →
        word_at j (cond b (fixed (Bru t) ∷ ws) (w ∷ patch j t ws)) ≡ some (fixed (Bru t))
    go true e ih = rw e
    go false e ih =
        let n : length ws ≡ j → ⊥ = eqb-false (length ws) j e in
        rw (patch_length j t ws, e) (ih (omega arith))

pub others : (j t : ℕ) (ws : List Word) (a : ℕ) → (a ≡ j → ⊥) → word_at a (patch j t ws) ≡ word_at a ws
unfolding patch
others j t [] a h = refl
others j t (w ∷ ws) a h = go (eqb (length ws) j) refl (others j t ws a h)
  where
    go : (b : Bool) → eqb (length ws) j ≡ b → word_at a (patch j t ws) ≡ word_at a ws → word_at a (cond b (fixed (Bru t) ∷ ws) (w ∷ patch j t ws)) ≡ word_at a (w ∷ ws)
    go true e ih =
        let q : length ws ≡ j = eqb→eq (length ws) j (rw e tt) in
        let n : eqb (length ws) a ≡ false = ne_eqb (length ws) a (λ r. h (sym r ∙ q)) in
        rw n
    go false e ih = rw (patch_length j t ws, ih)

-- in their order
found_last : (vs : List Word) (w : Word) (a : ℕ) → get_elem? (vs ++ w ∷ []) a ≡ cond (eqb (length vs) a) (some w) (get_elem? vs a)
found_last [] w zero = refl
found_last [] w (suc a) = rw (eqb-zero-suc a)
found_last (v ∷ vs) w zero = rw (eqb-suc-zero (length vs))
found_last (v ∷ vs) w (suc a) = found_last vs w a ∙ ap (λ (b : Bool). cond b (some w) (get_elem? vs a)) (sym (eqb-suc-suc (length vs) a))

in_order : (ws : List Word) (a : ℕ) → get_elem? (reverse ws) a ≡ word_at a ws
in_order [] a = refl
in_order (w ∷ ws) a =
    ap (λ (l : List Word). get_elem? l a) (reverse_aux-eq ws (w ∷ []))
    ∙ found_last (reverse ws) w a
    ∙ (λ i. cond (eqb (length-reverse ws i) a) (some w) (in_order ws a i))

found_map : {A B : Type 0} (f : A → B) (l : List A) (a : ℕ) → get_elem? (map f l) a ≡ Option.map f (get_elem? l a)
found_map f [] a = refl
found_map f (x ∷ l) zero = refl
found_map f (x ∷ l) (suc a) = found_map f l a

pub in_place : (d : Draft) (a : ℕ) → get_elem? (settled d) a ≡ Option.map (resolved (label_address d)) (word_at a (words_of d))
in_place d a = found_map (resolved (label_address d)) (reverse (words_of d)) a ∙ ap (Option.map (resolved (label_address d))) (in_order (words_of d) a)
