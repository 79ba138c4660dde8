-- Words as they stand in memory: one more, and a jump that gets its address.
use Rattle.std.proofs.Common.{◌≡◌, ℕ, suc, pred, ◌-◌, ◌<◌, ◌≤◌, min, Bool, true, false, cond, eqb, ltb, List, [], ◌∷◌, ◌++◌, map, reverse, length, set, replicate, sym, refl, ap, ◌∙◌, append_assoc, arith, eqb→eq, length-set, length-append}
use mathlib.Core.List.{reverse_aux-eq}
use lib.ListN.{length-map, length-reverse}
use Rattle.std.proofs.lemmas.List.{set_at, set-append_left, set_past, map-set, map_push}
use Rattle.std.proofs.lemmas.Bool.{eqb-false}
use Rattle.std.proofs.lemmas.Bool.Decides.{nat_tests}
use Rattle.trees.specs.Trees.{Name}
use Rattle.runs.specs.declared.instruction.Instruction.TheVariants.{Bru}
use Rattle.limits.specs.Rules.{code_limit}
use Rattle.emission.specs.Draft.{Word, fixed, patch}
use Rattle.emission.proofs.Sizes.{patch_length}
use Rattle.assembly.specs.Words.{instruction_word}
use Rattle.assembly.specs.Plans.{Words, put_word, land}
use Rattle.assembly.specs.Drawn.{coded, Written}

-- the first of the zeros behind the words
zeros : (n : ℕ) → n < code_limit → replicate {A = ℕ} (code_limit - n) 0 ≡ 0 ∷ replicate (code_limit - suc n) 0
zeros n h = let e : code_limit - n ≡ suc (code_limit - suc n) = omega arith in rw e

-- the newest comes last
in_order : (number : Name → ℕ) (w : Word) (ws : List Word) → map (coded number) (reverse (w ∷ ws)) ≡ map (coded number) (reverse ws) ++ coded number w ∷ []
in_order number w ws = ap (map (coded number)) (reverse_aux-eq ws (w ∷ [])) ∙ map_push (coded number) (reverse ws) w

-- a word that is not the last
set_before : (xs : List Word) (x : Word) (j : ℕ) (v : Word) → (length xs ≡ j → ⊥) → set (xs ++ x ∷ []) j v ≡ set xs j v ++ x ∷ []
set_before xs x j v h =
    grind (arith, set-append_left xs (x ∷ []) j v, set_past (xs ++ x ∷ []) j v, set_past xs j v, length-append xs (x ∷ []))

-- a patch sets a word, if it is there
patch_sets : (j t : ℕ) (ws : List Word) → reverse (patch j t ws) ≡ set (reverse ws) j (fixed (Bru t))
unfolding patch
patch_sets j t [] = refl
patch_sets j t (w ∷ ws) = go (eqb (length ws) j) refl (patch_sets j t ws) ∙ ap (λ z. set z j (fixed (Bru t))) (sym (reverse_aux-eq ws (w ∷ [])))
  where
    go : (b : Bool) → eqb (length ws) j ≡ b → reverse (patch j t ws) ≡ set (reverse ws) j (fixed (Bru t)) →
        reverse (cond b (fixed (Bru t) ∷ ws) (w ∷ patch j t ws)) ≡ set (reverse ws ++ w ∷ []) j (fixed (Bru t))
    go true e ih =
        reverse_aux-eq ws (fixed (Bru t) ∷ [])
        ∙ sym (set_at (reverse ws) w [] (fixed (Bru t)) j (length-reverse ws ∙ eqb→eq (length ws) j (rw e tt)))
    go false e ih =
        reverse_aux-eq (patch j t ws) (w ∷ [])
        ∙ ap (λ z. z ++ w ∷ []) ih
        ∙ sym (set_before (reverse ws) w j (fixed (Bru t)) (λ l. eqb-false (length ws) j e (sym (length-reverse ws) ∙ l)))

-- the number before the address a, which the code holds among its words xs or nowhere; c is the count of them
set_once : (f : ℕ → ℕ) (xs zs : List ℕ) (a n c : ℕ) → length xs ≡ n → c ≡ n → n < 65535 →
    cond (ltb (min a 65535 - 1) c) (set (xs ++ zs) (min a 65535 - 1) (f c)) (xs ++ zs) ≡ set xs (pred a) (f n) ++ zs
set_once f xs zs a n c l same room = grind (arith, nat_tests, set-append_left, set_past)

module _ (number : Name → ℕ) where
  -- one word more; its number matters only where it has a place
  pub one_more : (w : Word) (v : ℕ) (ws : List Word) (k : Words) → (length ws < code_limit → v ≡ coded number w) →
      Written number ws k → Written number (w ∷ ws) (put_word v k)
  one_more w v ws k same h = record {
    size = length-set k.code k.count v ∙ h.size;
    count = omega (arith, h.count);
    code = placed;
  }
    where
      placed : suc (length ws) ≤ code_limit → set k.code k.count v ≡ map (coded number) (reverse (w ∷ ws)) ++ replicate (code_limit - suc (length ws)) 0
      placed room =
          let n : k.count ≡ length ws = omega (arith, h.count) in
          let at : length (map (coded number) (reverse ws)) ≡ k.count = length-map (reverse ws) (coded number) ∙ length-reverse ws ∙ sym n in
          ap (λ z. set z k.count v) (h.code (omega arith) ∙ ap (λ z. map (coded number) (reverse ws) ++ z) (zeros (length ws) room))
          ∙ set_at (map (coded number) (reverse ws)) 0 (replicate (code_limit - suc (length ws)) 0) v k.count at
          ∙ ap (λ z. map (coded number) (reverse ws) ++ z ∷ replicate (code_limit - suc (length ws)) 0) (same room)
          ∙ sym (append_assoc (map (coded number) (reverse ws)) (coded number w ∷ []) (replicate (code_limit - suc (length ws)) 0))
          ∙ ap (λ z. z ++ replicate (code_limit - suc (length ws)) 0) (sym (in_order number w ws))

  -- a jump that waits gets its address, if it has a place
  pub landed : (a : ℕ) (ws : List Word) (k : Words) → Written number ws k → Written number (patch (pred a) (length ws) ws) (land (min a 65535) k)
  landed a ws k h = record {
    size = sized (ltb (min a 65535 - 1) k.count);
    count = h.count ∙ ap (λ z. min z 65535) (sym as_many);
    code = λ room. placed (omega (arith, as_many));
  }
    where
      as_many : length (patch (pred a) (length ws) ws) ≡ length ws
      as_many = patch_length (pred a) (length ws) ws

      patched : map (coded number) (reverse (patch (pred a) (length ws) ws)) ≡ set (map (coded number) (reverse ws)) (pred a) (instruction_word (Bru (length ws)))
      patched = ap (map (coded number)) (patch_sets (pred a) (length ws) ws) ∙ map-set (coded number) (reverse ws) (pred a) (fixed (Bru (length ws)))

      sized : (b : Bool) → length (cond b (set k.code (min a 65535 - 1) (instruction_word (Bru k.count))) k.code) ≡ code_limit
      sized true = length-set k.code (min a 65535 - 1) (instruction_word (Bru k.count)) ∙ h.size
      sized false = h.size

      placed : length ws ≤ code_limit →
          cond (ltb (min a 65535 - 1) k.count) (set k.code (min a 65535 - 1) (instruction_word (Bru k.count))) k.code
          ≡ map (coded number) (reverse (patch (pred a) (length ws) ws)) ++ replicate (code_limit - length (patch (pred a) (length ws) ws)) 0
      placed room =
          ap (λ z. cond (ltb (min a 65535 - 1) k.count) (set z (min a 65535 - 1) (instruction_word (Bru k.count))) z) (h.code room)
          ∙ set_once (λ t. instruction_word (Bru t)) (map (coded number) (reverse ws)) (replicate (code_limit - length ws) 0) a (length ws) k.count
          (length-map (reverse ws) (coded number) ∙ length-reverse ws) (omega (arith, h.count)) (omega arith)
          ∙ (λ i. sym patched i ++ replicate (code_limit - sym as_many i) 0)
