-- The front of a list that passes a test.
use Rattle.std.proofs.Common.{◌≡◌, ℕ, suc, ◌≤◌, Bool, true, false, List, [], ◌∷◌, ◌++◌, length, take, drop, refl, ap, arith}
use mathlib.Core.Logic.{inl, inr}
use Rattle.std.proofs.lemmas.Bool.{cases_Bool, and_parts}
use Rattle.token.specs.Lexis.{front, begins}
use Rattle.token.specs.Numbers.{every}
use Rattle.token.proofs.Pieces.{Way}

-- the front is all of `inner` if what follows does not go on it
pub front_is : (test : ℕ → Bool) (inner rest : List ℕ) → every test inner ≡ true → begins test rest ≡ false → front test (inner ++ rest) ≡ length inner
front_is test [] [] h e = refl
front_is test [] (b ∷ rest) h e = rw e
front_is test (x ∷ inner) rest h e = let p = and_parts (test x) (every test inner) h in rw p.0 (ap suc (front_is test inner rest p.1 e))

pub front_le : (test : ℕ → Bool) (bs : List ℕ) → front test bs ≤ length bs
front_le test [] = omega arith
front_le test (b ∷ bs) = by (cases_Bool (test b)) (front_le test bs)
  where
    by : Way (test b) → front test bs ≤ length bs → front test (b ∷ bs) ≤ length (b ∷ bs)
    by (inl e) h = rw e (omega arith)
    by (inr e) h = rw e (omega arith)

-- the front passes
pub every_front : (test : ℕ → Bool) (bs : List ℕ) → every test (take (front test bs) bs) ≡ true
every_front test [] = refl
every_front test (b ∷ bs) = by (cases_Bool (test b)) (every_front test bs)
  where
    by : Way (test b) → every test (take (front test bs) bs) ≡ true → every test (take (front test (b ∷ bs)) (b ∷ bs)) ≡ true
    by (inl e) h = rw (e, e) h
    by (inr e) h = rw e

-- what follows does not go on it
pub begins_front : (test : ℕ → Bool) (bs : List ℕ) → begins test (drop (front test bs) bs) ≡ false
begins_front test [] = refl
begins_front test (b ∷ bs) = by (cases_Bool (test b)) (begins_front test bs)
  where
    by : Way (test b) → begins test (drop (front test bs) bs) ≡ false → begins test (drop (front test (b ∷ bs)) (b ∷ bs)) ≡ false
    by (inl e) h = rw e h
    by (inr e) h = rw e e
