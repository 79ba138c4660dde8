-- The words of a tree settle to its code, and are as many; a jump before them can be patched.
use Rattle.std.proofs.Common.{◌≡◌, ℕ, suc, Bool, true, false, cond, eqb, List, [], ◌∷◌, ◌++◌, map, reverse, length, sym, refl, ap, ◌∙◌, arith, length-append}
use mathlib.Core.List.{reverse_aux, reverse_aux-eq}
use lib.ListN.{length-map}
use Rattle.std.proofs.lemmas.List.{map-append}
use Rattle.std.proofs.lemmas.Bool.{cond-true, cond-false, eq-eqb, ne_eqb}
use Rattle.trees.specs.Trees.{Name, Expr, Command, labelled, empty, assign, go_to, go_to_of, read, print, branch}
use Rattle.runs.specs.declared.instruction.Instruction.{Instruction}
use Rattle.runs.specs.declared.instruction.Instruction.TheVariants.{Bru}
use Rattle.runs.specs.Source.{cost}
use Rattle.runs.specs.Code.{Layout, expression, size, then_at, else_at, reading, printing, tests, code}
use Rattle.runs.proofs.Sound.{expr_size, code_size}
use Rattle.emission.specs.Draft.{Word, fixed, patch, resolved}
use Rattle.emission.proofs.Drafted.{testing, whole, drafted}

unfixed : (to : Name → ℕ) (xs : List Instruction) → map (resolved to) (map fixed xs) ≡ xs
unfixed to [] = refl
unfixed to (x ∷ xs) = ap (λ z. x ∷ z) (unfixed to xs)

testing_is : (to : Name → ℕ) (ls : List Name) → map (resolved to) (testing ls) ≡ tests to ls
testing_is to [] = refl
testing_is to (l ∷ ls) = rw (testing_is to ls)

module _ (y : Layout) where
  pub drafted_is : (to : Name → ℕ) (c : Command) (a : ℕ) → map (resolved to) (drafted y a c) ≡ code y to a c
  drafted_is to (labelled l c) a = drafted_is to c a
  drafted_is to empty a = refl
  drafted_is to (assign x e) a = simp (map-append, unfixed)
  drafted_is to (go_to l) a = refl
  drafted_is to (go_to_of x l ls) a = rw (testing_is to ls)
  drafted_is to (read xs) a = unfixed to (reading y xs)
  drafted_is to (print es) a = unfixed to (printing y es)
  drafted_is to (branch r e f c d) a = simp (map-append, unfixed, drafted_is to c (then_at a e f), drafted_is to d (else_at a e f c))

  pub drafted_size : (c : Command) (a : ℕ) → length (drafted y a c) ≡ size c
  drafted_size c a =
      sym (length-map (drafted y a c) (resolved (λ l. 0))) ∙ ap length (drafted_is (λ l. 0) c a) ∙ code_size y (λ l. 0) c a

  pub whole_size : (e : Expr) → length (whole y e) ≡ cost e
  whole_size e = length-map (expression y e) fixed ∙ expr_size y (λ l. 0) e

-- a patch before words that came later
patch_at : (vs : List Word) (w : Word) (ws : List Word) (t : ℕ) → patch (length ws) t (vs ++ w ∷ ws) ≡ vs ++ fixed (Bru t) ∷ ws
unfolding patch
patch_at [] w ws t = cond-true (eqb (length ws) (length ws)) _ _ (eq-eqb (length ws) (length ws) refl)
patch_at (v ∷ vs) w ws t =
    cond-false (eqb (length (vs ++ w ∷ ws)) (length ws)) _ _ (ne_eqb (length (vs ++ w ∷ ws)) (length ws) longer)
    ∙ ap (λ x. v ∷ x) (patch_at vs w ws t)
  where
    longer : length (vs ++ w ∷ ws) ≡ length ws → ⊥
    longer e = omega (arith, length-append vs (w ∷ ws), e)

pub patch_onto : (vs : List Word) (w : Word) (ws : List Word) (t : ℕ) → patch (length ws) t (reverse_aux vs (w ∷ ws)) ≡ reverse_aux vs (fixed (Bru t) ∷ ws)
patch_onto vs w ws t =
    ap (patch (length ws) t) (reverse_aux-eq vs (w ∷ ws)) ∙ patch_at (reverse vs) w ws t ∙ sym (reverse_aux-eq vs (fixed (Bru t) ∷ ws))

-- a patch keeps the number of words
pub patch_length : (j t : ℕ) (ws : List Word) → length (patch j t ws) ≡ length ws
unfolding patch
patch_length j t [] = refl
patch_length j t (w ∷ ws) = go (eqb (length ws) j) (patch_length j t ws)
  where
    go : (b : Bool) → length (patch j t ws) ≡ length ws → length (cond b (fixed (Bru t) ∷ ws) (w ∷ patch j t ws)) ≡ suc (length ws)
    go true h = refl
    go false h = ap suc h
