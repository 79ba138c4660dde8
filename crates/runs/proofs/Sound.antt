-- The words of a program's code: each jump leads into the code, each cell is in use, and each word means its instruction.
use Rattle.std.proofs.Common.{◌≡◌, ℕ, zero, suc, ◌+◌, ◌*◌, ◌<◌, ◌≤◌, Bool, true, cond, ltb, List, [], ◌∷◌, map, length, get_or, Some, None, refl, ap, ◌∙◌, subst, arith, length-append}
use mathlib.Core.Option.{some}
use lib.ListN.{get_elem?, length-map}
use Rattle.std.proofs.ByRecursion.{All-append}
use Rattle.std.proofs.lemmas.Bool.{cond_both, lt-ltb}
use Rattle.std.proofs.lemmas.Bool.Decides.{nat_tests}
use Rattle.std.specs.List.{AllByRecursion as All}
use Rattle.trees.specs.Trees.{Name, Expr, variable, literal, binary, Command, labelled, empty, assign, go_to, go_to_of, read, print, branch}
use Rattle.trees.specs.declared.operator.Operator.{Operator}
use Rattle.trees.specs.declared.relation.Relation.{Relation}
use Rattle.runs.specs.Names.{same}
use Rattle.runs.specs.Source.{operators, cost}
use Rattle.runs.specs.Machine.{Instruction, Bru, Brz, Brn, Brp, Ada, Sub, Mul, Div, Lda, Sta, Read, Convert, Newline, Stop, operand, encode, decode, inside, allowed, asked, fetch}
use Rattle.runs.specs.Code.{Layout, temp, first_temporary, operating, cell_of, operations, expression, values_size, size, then_at, else_at, locate, locate_all, branching, tests, reads, values, code, codes}
use Rattle.runs.specs.Placed.{variables_in, literals_in, variables, literals, wholes, collected}
use Rattle.runs.specs.Statements.{WordsDecode}
use Rattle.runs.proofs.Basics.{all_left, all_right}
use Rattle.runs.proofs.Laid.{Few}

-- a word's instruction
pub round : (i : Instruction) → operand i < 4096 → decode (encode i) ≡ Some i
round (Bru a) h = grind arith
round (Brz a) h = grind arith
round (Brn a) h = grind arith
round (Brp a) h = grind arith
round (Ada a) h = grind arith
round (Sub a) h = grind arith
round (Mul a) h = grind arith
round (Div a) h = grind arith
round (Lda a) h = grind arith
round (Sta a) h = grind arith
round Read h = refl
round Convert h = refl
round Newline h = refl
round Stop h = refl

-- a jump into code of this size, a cell of so many, and where it is written, one that S allows
abbrev pub Bound : ℕ → ℕ → (ℕ → Type 0) → Instruction → Type 0
Bound n u S (Bru a) = a < n
Bound n u S (Brz a) = a < n
Bound n u S (Brn a) = a < n
Bound n u S (Brp a) = a < n
Bound n u S (Ada a) = a < u
Bound n u S (Sub a) = a < u
Bound n u S (Mul a) = a < u
Bound n u S (Div a) = a < u
Bound n u S (Lda a) = a < u
Bound n u S (Sta a) = (a < u) × S a
Bound n u S Read = Unit {0}
Bound n u S Convert = Unit {0}
Bound n u S Newline = Unit {0}
Bound n u S Stop = Unit {0}

bound_inside : (n u : ℕ) (S : ℕ → Type 0) (i : Instruction) → Bound n u S i → inside n u i ≡ true
bound_inside n u S i h = grind arith

bound_small : (n u : ℕ) (S : ℕ → Type 0) → n ≤ 4096 → u ≤ 4096 → (i : Instruction) → Bound n u S i → operand i < 4096
bound_small n u S p q i h = grind arith

-- what a word's instruction makes of it
unmade : (n : ℕ) (i : Instruction) → decode n ≡ Some i → (encode i ≡ n) × (operand i < 4096)
unmade n i e = grind (arith, nat_tests)

pub words_decode_lem : WordsDecode
words_decode_lem i n = (unmade n i, λ e. subst (λ (x : ℕ). decode x ≡ Some i) e.0 (round i e.1))

-- Sizes.

-- the address of END, when commands begin at a
abbrev pub end_of : ℕ → List Command → ℕ
end_of a [] = a
end_of a (c ∷ cs) = end_of (a + size c) cs

module _ (k : Layout) (to : Name → ℕ) where
  pub ops_size : (e : Expr) (t : ℕ) → length (operations k t e) ≡ 3 * operators e
  ops_size (variable x) t = refl
  ops_size (literal ds) t = refl
  ops_size (binary o l r) t =
      let i = ops_size l t in let j = ops_size r (t + operators l) in
      simp (length-append) (omega arith)

  pub expr_size : (e : Expr) → length (expression k e) ≡ cost e
  expr_size (variable x) = refl
  expr_size (literal ds) = refl
  expr_size (binary o l r) = ops_size (binary o l r) first_temporary

  tests_size : (ls : List Name) → length (tests to ls) ≡ 2 * length ls
  tests_size [] = refl
  tests_size (l ∷ ls) = let i = tests_size ls in omega arith

  reads_size : (xs : List Name) → length (reads k xs) ≡ 2 * length xs
  reads_size [] = refl
  reads_size (x ∷ xs) = let i = reads_size xs in omega arith

  values_length : (es : List Expr) → length (values k es) ≡ values_size es
  values_length [] = refl
  values_length (e ∷ es) = let i = values_length es in let j = expr_size e in simp (length-append) (omega arith)

  pub code_size : (c : Command) (a : ℕ) → length (code k to a c) ≡ size c
  code_size (labelled l c) a = code_size c a
  code_size empty a = refl
  code_size (assign x e) a = let i = expr_size e in simp (length-append) (omega arith)
  code_size (go_to l) a = refl
  code_size (go_to_of x l ls) a = let i = tests_size ls in omega arith
  code_size (read []) a = refl
  code_size (read (x ∷ xs)) a = let i = reads_size xs in omega arith
  code_size (print []) a = refl
  code_size (print (e ∷ es)) a = values_length (e ∷ es)
  code_size (branch r e f c d) a =
      let i = expr_size e in let j = expr_size f in
      let x = code_size c (then_at a e f) in let y = code_size d (else_at a e f c) in
      simp (length-append) (omega arith)

  pub codes_size : (cs : List Command) (a : ℕ) → a + length (codes k to a cs) ≡ suc (end_of a cs)
  codes_size [] a = omega arith
  codes_size (c ∷ cs) a = let i = codes_size cs (a + size c) in let j = code_size c a in simp (length-append) (omega arith)

end_above : (cs : List Command) (a : ℕ) → a ≤ end_of a cs
end_above [] a = omega arith
end_above (c ∷ cs) a = let i = end_above cs (a + size c) in omega arith

-- an address within
locate_within : (l : Name) (c : Command) (a m z : ℕ) → a + size c ≤ z → m ≤ z → locate l a c m ≤ z
locate_within l (labelled j c) a m z h q = cond_both (same l j) a (locate l a c m) (λ x. x ≤ z) (λ e. omega arith) (λ e. locate_within l c a m z h q)
locate_within l empty a m z h q = q
locate_within l (assign x e) a m z h q = q
locate_within l (go_to j) a m z h q = q
locate_within l (go_to_of x j js) a m z h q = q
locate_within l (read xs) a m z h q = q
locate_within l (print es) a m z h q = q
locate_within l (branch r e f c d) a m z h q =
    locate_within l c (then_at a e f) (locate l (else_at a e f c) d m) z (omega arith) (locate_within l d (else_at a e f c) m z (omega arith) q)

pub locate_all_within : (l : Name) (cs : List Command) (a z : ℕ) → end_of a cs ≤ z → locate_all l a cs ≤ z
locate_all_within l [] a z h = h
locate_all_within l (c ∷ cs) a z h =
    let i = end_above cs (a + size c) in
    locate_within l c a (locate_all l (a + size c) cs) z (omega arith) (locate_all_within l cs (a + size c) z h)

-- Bounds. `n` is the size of the code.

module _ (k : Layout) (to : Name → ℕ) (n : ℕ) (fixed : 66 ≤ k.used) (jumps : (l : Name) → to l < n)
    (S : ℕ → Type 0) (to_temp : S temp) (to_temporary : (t : ℕ) → 2 ≤ t → t < 66 → S t) where
  abbrev V : Name → Type 0
  V x = (k.variable_cell x < k.used) × S (k.variable_cell x)

  abbrev L : List ℕ → Type 0
  L ds = k.literal_cell ds < k.used

  abbrev B : Instruction → Type 0
  B = Bound n k.used S

  cell_bound : (e : Expr) (t : ℕ) → t + operators e ≤ 66 → All V (variables_in e) → All L (literals_in e) → cell_of k t e < k.used
  cell_bound e t h v m = grind arith

  operating_bound : (o : Operator) (a : ℕ) → a < k.used → B (operating o a)
  operating_bound o a h = grind arith

  branching_bound : (r : Relation) (a : ℕ) → a < n → B (branching r a)
  branching_bound r a h = grind arith

  ops_bound : (e : Expr) (t : ℕ) → 2 ≤ t → t + operators e ≤ 66 → All V (variables_in e) → All L (literals_in e) → All B (operations k t e)
  ops_bound (variable x) t g h v m = tt
  ops_bound (literal ds) t g h v m = tt
  ops_bound (binary o l r) t g h v m =
      let vl = all_left V (variables_in l) (variables_in r) v in let vr = all_right V (variables_in l) (variables_in r) v in
      let ml = all_left L (literals_in l) (literals_in r) m in let mr = all_right L (literals_in l) (literals_in r) m in
      All-append B (operations k t l) _ (ops_bound l t g (omega arith) vl ml)
      (All-append B (operations k (t + operators l) r) _ (ops_bound r (t + operators l) (omega arith) (omega arith) vr mr)
      (cell_bound l t (omega arith) vl ml, (operating_bound o _ (cell_bound r (t + operators l) (omega arith) vr mr), ((omega arith, to_temporary (t + (operators l + operators r)) (omega arith) (omega arith)), tt))))

  expr_bound : (e : Expr) → Few [] k to V L e → All V (variables_in e) → All L (literals_in e) → All B (expression k e)
  expr_bound (variable x) h v m = (v.0.0, tt)
  expr_bound (literal ds) h v m = (m.0, tt)
  expr_bound (binary o l r) h v m = ops_bound (binary o l r) first_temporary (omega arith) (omega arith) v m

  tests_bound : (ls : List Name) → All B (tests to ls)
  tests_bound [] = tt
  tests_bound (l ∷ ls) = (omega arith, (jumps l, tests_bound ls))

  reads_bound : (xs : List Name) → All V xs → All B (reads k xs)
  reads_bound [] v = tt
  reads_bound (x ∷ xs) v = (tt, (v.0, reads_bound xs v.1))

  values_bound : (es : List Expr) → All (Few [] k to V L) es → All V (collected variables_in es) → All L (collected literals_in es) → All B (values k es)
  values_bound [] h v m = tt
  values_bound (e ∷ es) h v m =
      All-append B (expression k e) _ (expr_bound e h.0 (all_left V (variables_in e) _ v) (all_left L (literals_in e) _ m))
      (tt, (tt, values_bound es h.1 (all_right V (variables_in e) _ v) (all_right L (literals_in e) _ m)))

  code_bound : (c : Command) (a : ℕ) → a + size c < n → All (Few [] k to V L) (wholes c) → All V (variables c) → All L (literals c) → All B (code k to a c)
  code_bound (labelled l c) a b h v m = code_bound c a b h v m
  code_bound empty a b h v m = tt
  code_bound (assign x e) a b h v m = All-append B (expression k e) _ (expr_bound e h.0 v.1 m) (v.0, tt)
  code_bound (go_to l) a b h v m = (jumps l, tt)
  code_bound (go_to_of x l ls) a b h v m = (v.0.0, (jumps l, tests_bound ls))
  code_bound (read []) a b h v m = (tt, tt)
  code_bound (read (x ∷ xs)) a b h v m = reads_bound (x ∷ xs) v
  code_bound (print []) a b h v m = (tt, tt)
  code_bound (print (e ∷ es)) a b h v m = values_bound (e ∷ es) h v m
  code_bound (branch r e f c d) a b h v m =
      let v' = all_right V (variables_in e) _ v in let m' = all_right L (literals_in e) _ m in
      let v'' = all_right V (variables_in f) _ v' in let m'' = all_right L (literals_in f) _ m' in
      let F = Few [] k to V L in
      All-append B (expression k e) _ (expr_bound e h.0 (all_left V (variables_in e) _ v) (all_left L (literals_in e) _ m)) (
        (omega arith, to_temp),
        All-append B (expression k f) _ (expr_bound f h.1.0 (all_left V (variables_in f) _ v') (all_left L (literals_in f) _ m')) (
          omega arith,
          (
            branching_bound r (then_at a e f) (omega arith),
            (
              omega arith,
              All-append B (code k to (then_at a e f) c) _ (code_bound c (then_at a e f) (omega arith) (all_left F (wholes c) _ h.1.1) (all_left V (variables c) _ v'') (all_left L (literals c) _ m''))
                  (omega arith, code_bound d (else_at a e f c) (omega arith) (all_right F (wholes c) _ h.1.1) (all_right V (variables c) _ v'') (all_right L (literals c) _ m'')),
            ),
          ),
        ),
      )

  pub codes_bound : (cs : List Command) (a : ℕ) → end_of a cs < n → All (Few [] k to V L) (collected wholes cs) → All V (collected variables cs) → All L (collected literals cs) → All B (codes k to a cs)
  codes_bound [] a b h v m = (tt, tt)
  codes_bound (c ∷ cs) a b h v m =
      let i = end_above cs (a + size c) in
      let F = Few [] k to V L in
      All-append B (code k to a c) _ (code_bound c a (omega arith) (all_left F (wholes c) _ h) (all_left V (variables c) _ v) (all_left L (literals c) _ m))
      (codes_bound cs (a + size c) b (all_right F (wholes c) _ h) (all_right V (variables c) _ v) (all_right L (literals c) _ m))

-- Fetching.

at_word : (text : List Instruction) (a : ℕ) (i : Instruction) → get_elem? text a ≡ some i → (a < length text) × (get_or (map encode text) a 0 ≡ encode i)
at_word [] a i e = grind arith
at_word (j ∷ text) zero i e = grind arith
at_word (j ∷ text) (suc a) i e = grind (arith, at_word text a i e)

pub at_all : (P : Instruction → Type 0) (text : List Instruction) (a : ℕ) (i : Instruction) → get_elem? text a ≡ some i → All P text → P i
at_all P [] a i e h = grind arith
at_all P (j ∷ text) zero i e h = let q : j ≡ i = cc in subst P q h.0
at_all P (j ∷ text) (suc a) i e h = at_all P text a i e h.1

pub fetched : (S : ℕ → Type 0) (text : List Instruction) (used a : ℕ) (i : Instruction) → length text ≤ 4096 → used ≤ 4096 → All (Bound (length text) used S) text →
    get_elem? text a ≡ some i → fetch (map encode text) used a ≡ Some i
fetched S text used a i p q h e =
    let r = at_word text a i e in
    let b : Bound (length text) used S i = at_all (Bound (length text) used S) text a i e h in
    let n : length (map encode text) ≡ length text = length-map text encode in
    let l : ltb a (length (map encode text)) ≡ true = lt-ltb a (length (map encode text)) (omega (arith, r.0)) in
    let o : inside (length (map encode text)) used i ≡ true = rw n (bound_inside (length text) used S i b) in
    ap (λ (t : Bool). cond t (asked (length (map encode text)) used (get_or (map encode text) a 0)) None) l ∙
    ap (λ (x : ℕ). asked (length (map encode text)) used x) r.1 ∙
    ap (allowed (length (map encode text)) used) (round i (bound_small (length text) used S p q i b)) ∙
    ap (λ (t : Bool). cond t (Some i) None) o
