-- Names, lists and words: what the proofs share.
use Rattle.std.proofs.Common.{◌≡◌, ℕ, zero, suc, ◌+◌, ◌*◌, ◌≤◌, Bool, true, false, cond, eqb, List, [], ◌∷◌, ◌++◌, length, ℤ, pos, negsuc, Some, None, Decides, Option, refl, ap, subst, inl, inr, arith}
use Rattle.std.proofs.lemmas.Bool.{and_parts, and_from, cond_both, eqb-true, eq-eqb}
use Rattle.std.proofs.lemmas.Bool.Decides.{nat_tests, same_from_decides}
use Rattle.std.proofs.lemmas.Int.{ints}
use Rattle.std.specs.List.{AllByRecursion as All}
use Rattle.trees.specs.Trees.{Name, Expr, variable, literal, binary}
use Rattle.trees.specs.declared.operator.Operator.{Operator}
use Rattle.arithmetic.specs.Words.{Words, Word, Lawful, is_zero, difference, less}
use Rattle.runs.specs.Names.{same, Store, put}
use Rattle.runs.specs.Source.{decimal, apply, value, nth, picked, pick_cost}
use Rattle.runs.specs.Placed.{Among}

-- names

pub same_self : (x : Name) → same x x ≡ true
same_self [] = refl
same_self (a ∷ x) = and_from (eqb a a) (same x x) (eq-eqb a a refl) (same_self x)

pub same_eq : (x y : Name) → same x y ≡ true → x ≡ y
same_eq [] [] e = refl
same_eq [] (b ∷ y) e = grind arith
same_eq (a ∷ x) [] e = grind arith
same_eq (a ∷ x) (b ∷ y) e =
    let p = and_parts (eqb a b) (same x y) e in
    let q : a ≡ b = eqb-true a b p.0 in
    let r : x ≡ y = same_eq x y p.1 in
    cc

-- lists

pub all_left : {X : Type 0} (P : X → Type 0) (xs ys : List X) → All P (xs ++ ys) → All P xs
all_left P [] ys h = tt
all_left P (x ∷ xs) ys h = (h.0, all_left P xs ys h.1)

pub all_right : {X : Type 0} (P : X → Type 0) (xs ys : List X) → All P (xs ++ ys) → All P ys
all_right P [] ys h = h
all_right P (x ∷ xs) ys h = all_right P xs ys h.1

pub all_among : {X : Type 0} (P : X → Type 0) (xs : List X) → ((x : X) → Among x xs → P x) → All P xs
all_among P [] h = tt
all_among P (x ∷ xs) h = (h x (inl refl), all_among P xs (λ y a. h y (inr a)))

-- picks: the same choice, made by a test at each label

abbrev pub is_number : ℤ → ℕ → Bool
is_number (pos n) i = eqb n i
is_number (negsuc n) i = false

abbrev pub found : ℕ → ℤ → List Name → Option Name
found i z [] = None
found i z (l ∷ ls) = cond (is_number z i) (Some l) (found (suc i) z ls)

abbrev pub spent : ℕ → ℤ → List Name → ℕ
spent i z [] = 2 * i
spent i z (l ∷ ls) = cond (is_number z i) (2 + 2 * i) (spent (suc i) z ls)

found_negative : (i n : ℕ) (ls : List Name) → found i (negsuc n) ls ≡ None
found_negative i n [] = refl
found_negative i n (l ∷ ls) = found_negative (suc i) n ls

found_positive : (i d n : ℕ) (ls : List Name) → n ≡ i + d → found i (pos n) ls ≡ nth d ls
found_positive i d n [] e = refl
found_positive i zero n (l ∷ ls) e = let q : eqb n i ≡ true = eq-eqb n i (omega arith) in rw q
found_positive i (suc d) n (l ∷ ls) e =
    let q : eqb n i ≡ false = grind (arith, nat_tests) in
    rw q (found_positive (suc i) d n ls (omega arith))

spent_negative : (i n : ℕ) (ls : List Name) → spent i (negsuc n) ls ≡ 2 * (i + length ls)
spent_negative i n [] = omega arith
spent_negative i n (l ∷ ls) = let e = spent_negative (suc i) n ls in omega arith

spent_positive : (i d n m : ℕ) (ls : List Name) → n ≡ i + d → m ≡ i + length ls → spent i (pos n) ls ≡ pick_cost (pos n) m (nth d ls)
spent_positive i d n m [] e f = omega arith
spent_positive i zero n m (l ∷ ls) e f = let q : eqb n i ≡ true = eq-eqb n i (omega arith) in rw q (omega arith)
spent_positive i (suc d) n m (l ∷ ls) e f =
    let q : eqb n i ≡ false = grind (arith, nat_tests) in
    rw q (spent_positive (suc i) d n m ls (omega arith) (omega arith))

pub found_is : (z : ℤ) (ls : List Name) → found 0 z ls ≡ picked z ls
found_is (pos n) ls = found_positive 0 n n ls (omega arith)
found_is (negsuc n) ls = found_negative 0 n ls

pub spent_is : (z : ℤ) (ls : List Name) → spent 0 z ls ≡ pick_cost z (length ls) (picked z ls)
spent_is (pos n) ls = spent_positive 0 n n (length ls) ls (omega arith) (omega arith)
spent_is (negsuc n) ls = let e = spent_negative 0 n ls in omega arith

-- words

module _ (w : Words) (law : Lawful w) where
  -- a number that is its own fitted value
  abbrev pub Fixed : ℤ → Type 0
  Fixed z = w.fit z ≡ z

  pub fit_fixed : (z : ℤ) → Fixed (w.fit z)
  fit_fixed z = law.same (w.fit z) (law.within z)

  pub fixed_word : (z : ℤ) → Fixed z → Word w z
  fixed_word z e = subst (Word w) e (law.within z)

  pub zero_fixed : Fixed (pos 0)
  zero_fixed =
      let l = law.low.1 in let h = law.high.0 in
      law.same (pos 0) (omega (arith, ints), omega (arith, ints))

  pub one_fixed : Fixed (pos 1)
  one_fixed =
      let l = law.low.1 in let h = law.high.0 in
      law.same (pos 1) (omega (arith, ints), omega (arith, ints))

  apply_fixed : (o : Operator) (a b : ℤ) → Fixed a → Fixed (apply w o a b)
  apply_fixed o a b h = grind arith

  pub value_fixed : (v : Store) → ((x : Name) → Fixed (v x)) → (e : Expr) → Fixed (value w v e)
  value_fixed v h (variable x) = h x
  value_fixed v h (literal ds) = fit_fixed (pos (decimal ds))
  value_fixed v h (binary o l r) = apply_fixed o (value w v l) (value w v r) (value_fixed v h l)

  -- a variable is changed
  pub put_fixed : (v : Store) (x : Name) (z : ℤ) → ((y : Name) → Fixed (v y)) → Fixed z → (y : Name) → Fixed (put v x z y)
  put_fixed v x z h q y = cond_both (same x y) z (v y) Fixed (λ e. q) (λ e. h y)

  -- one taken once more
  pub less_more : (k : ℕ) (z : ℤ) → less w (suc k) z ≡ difference w (less w k z) (pos 1)
  less_more zero z = refl
  less_more (suc k) z = less_more k (difference w z (pos 1))

  decides_zero : (z : ℤ) → Decides (is_zero z) (z ≡ pos 0)
  decides_zero (pos n) = (λ e. ap pos (eqb-true n 0 e), λ e. let q : n ≡ 0 = cc in eq-eqb n 0 q)
  decides_zero (negsuc n) = (λ e. grind arith, λ e. grind arith)

  decides_number : (z : ℤ) (k : ℕ) → Decides (is_number z k) (z ≡ pos k)
  decides_number (pos n) k = (λ e. ap pos (eqb-true n k e), λ e. let q : n ≡ k = cc in eq-eqb n k q)
  decides_number (negsuc n) k = (λ e. grind arith, λ e. grind arith)

  -- the test at label k
  pub test_is : (k : ℕ) → k ≤ 63 → (z : ℤ) → Fixed z → is_zero (less w k z) ≡ is_number z k
  test_is k l z h =
      let c = law.counts k l z (fixed_word z h) in
      let d = decides_zero (less w k z) in
      same_from_decides (is_zero (less w k z)) (is_number z k) (λ e. c.0 (d.0 e), λ e. d.1 (c.1 e)) (decides_number z k)
