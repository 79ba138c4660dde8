-- The computed checks at a token are the rules there.
use Rattle.std.proofs.Common.{◌≡◌, ℕ, ◌≤◌, true, false, T, leb, ◌⊎◌, List, [], ◌∷◌, refl, subst, inl, inr, arith, leb→le}
use mathlib.Core.Option.{Option, none, some}
use Rattle.std.proofs.lemmas.Bool.{false≢true}
use Rattle.limits.specs.Refusals.{Check, check, lowest}

-- the refusal n is among the checks, and stands
abbrev pub Found : List Check → ℕ → Type 0
Found [] n = ⊥
Found (check m b ∷ cs) n = ((m ≡ n) × (b ≡ true)) ⊎ Found cs n

-- checks in the order of their numbers
abbrev pub Above : ℕ → List Check → Type 0
Above m [] = Unit {0}
Above m (check n b ∷ cs) = T (leb m n) × Above m cs

abbrev pub Ordered : List Check → Type 0
Ordered [] = Unit {0}
Ordered (check n b ∷ cs) = Above n cs × Ordered cs

above_found : (m n : ℕ) (cs : List Check) → Above m cs → Found cs n → m ≤ n
above_found m n [] a f = absurd f
above_found m n (check l b ∷ cs) a (inl p) = subst (λ (x : ℕ). m ≤ x) p.0 (leb→le m l a.0)
above_found m n (check l b ∷ cs) a (inr f) = above_found m n cs a.1 f

-- the first of the checks that stand is the lowest
abbrev pub Lowest : List Check → Option ℕ → Type 0
Lowest cs none = (n : ℕ) → Found cs n → ⊥
Lowest cs (some m) = Found cs m × ((n : ℕ) → Found cs n → m ≤ n)

pub lowest_is : (cs : List Check) → Ordered cs → Lowest cs (lowest cs)
lowest_is [] o = λ n f. f
lowest_is (check m true ∷ cs) o = (inl (refl, refl), least)
  where
    least : (n : ℕ) → ((m ≡ n) × (true ≡ true)) ⊎ Found cs n → m ≤ n
    least n (inl p) = let q : m ≡ n = p.0 in omega arith
    least n (inr f) = above_found m n cs o.0 f
lowest_is (check m false ∷ cs) o = go (lowest cs) (lowest_is cs o.1)
  where
    go : (x : Option ℕ) → Lowest cs x → Lowest (check m false ∷ cs) x
    go none h = later h
      where
        later : ((n : ℕ) → Found cs n → ⊥) → (n : ℕ) → ((m ≡ n) × (false ≡ true)) ⊎ Found cs n → ⊥
        later g n (inl p) = false≢true p.1
        later g n (inr f) = g n f
    go (some l) h = (inr h.0, later h.1)
      where
        later : ((n : ℕ) → Found cs n → l ≤ n) → (n : ℕ) → ((m ≡ n) × (false ≡ true)) ⊎ Found cs n → l ≤ n
        later g n (inl p) = absurd (false≢true p.1)
        later g n (inr f) = g n f
