-- Where the code of expressions, commands and what is left to run stands, as relations; and that a program's code stands so.
use Rattle.std.proofs.Common.{◌≡◌, ℕ, suc, ◌+◌, ◌*◌, ◌≤◌, Bool, true, false, cond, List, [], ◌∷◌, ◌++◌, length, Some, refl, append_assoc, arith}
use Rattle.std.specs.List.{AllByRecursion as All}
use Rattle.trees.specs.Trees.{Name, Expr, variable, literal, binary, Command, labelled, empty, assign, go_to, go_to_of, read, print, branch}
use Rattle.trees.specs.declared.operator.Operator.{Operator}
use Rattle.trees.specs.declared.relation.Relation.{Relation}
use Rattle.runs.specs.Names.{same}
use Rattle.runs.specs.Source.{operators, cost, command, end_of_then, Continuation, in_order, seek, find, then_read, then_print}
use Rattle.runs.specs.Machine.{Instruction, Bru, Brz, Lda, Sta, Sub, Read, Convert, Newline, Stop, fetch}
use Rattle.runs.specs.Code.{Layout, temp, one, first_temporary, operating, cell_of, operations, expression, size, values_size, then_at, else_at, past, locate, locate_all, branching, comparing, tests, reads, values, code, codes}
use Rattle.runs.specs.Placed.{variables_in, literals_in, variables, literals, wholes, picks, collected}
use Rattle.runs.proofs.Basics.{all_left, all_right}

module _ (words : List ℕ) (k : Layout) (to : Name → ℕ) (V : Name → Type 0) (L : List ℕ → Type 0) where
  abbrev pub Fetch : ℕ → Instruction → Type 0
  Fetch a i = fetch words k.used a ≡ Some i

  -- the operators of an expression, with temporaries from t on, stand from a to b
  pub data OpsAt : ℕ → ℕ → Expr → ℕ → Type 0 where
    variable_at : {a t : ℕ} {x : Name} → V x → OpsAt a t (variable x) a
    literal_at : {a t : ℕ} {ds : List ℕ} → L ds → OpsAt a t (literal ds) a
    binary_at : {a b c t : ℕ} {o : Operator} {l r : Expr} → OpsAt a t l b → OpsAt b (t + operators l) r c →
        Fetch c (Lda (cell_of k t l)) → Fetch (suc c) (operating o (cell_of k (t + operators l) r)) → Fetch (suc (suc c)) (Sta (t + (operators l + operators r))) →
        OpsAt a t (binary o l r) (suc (suc (suc c)))

  pub data ExprAt : ℕ → Expr → ℕ → Type 0 where
    lone_variable : {a : ℕ} {x : Name} → V x → Fetch a (Lda (k.variable_cell x)) → ExprAt a (variable x) (suc a)
    lone_literal : {a : ℕ} {ds : List ℕ} → L ds → Fetch a (Lda (k.literal_cell ds)) → ExprAt a (literal ds) (suc a)
    composed : {a b : ℕ} {o : Operator} {l r : Expr} → suc (operators l + operators r) ≤ 64 → OpsAt a first_temporary (binary o l r) b → ExprAt a (binary o l r) b

  -- the tests of GO TO .. OF after the first
  pub data TestsAt : ℕ → List Name → ℕ → Type 0 where
    no_test : {a : ℕ} → TestsAt a [] a
    more_test : {a b : ℕ} {l : Name} {ls : List Name} → Fetch a (Sub one) → Fetch (suc a) (Brz (to l)) → TestsAt (suc (suc a)) ls b → TestsAt a (l ∷ ls) b

  pub data ReadsAt : ℕ → List Name → ℕ → Type 0 where
    no_read : {a : ℕ} → ReadsAt a [] a
    more_read : {a b : ℕ} {x : Name} {xs : List Name} → V x → Fetch a Read → Fetch (suc a) (Sta (k.variable_cell x)) → ReadsAt (suc (suc a)) xs b → ReadsAt a (x ∷ xs) b

  pub data ValuesAt : ℕ → List Expr → ℕ → Type 0 where
    no_value : {a : ℕ} → ValuesAt a [] a
    more_value : {a b c : ℕ} {e : Expr} {es : List Expr} → ExprAt a e b → Fetch b Convert → Fetch (suc b) Newline → ValuesAt (suc (suc b)) es c → ValuesAt a (e ∷ es) c

  pub data CommandAt : ℕ → Command → ℕ → Type 0 where
    labelled_at : {a b : ℕ} {l : Name} {c : Command} → CommandAt a c b → CommandAt a (labelled l c) b
    empty_at : {a : ℕ} → CommandAt a empty a
    assign_at : {a b : ℕ} {x : Name} {e : Expr} → ExprAt a e b → V x → Fetch b (Sta (k.variable_cell x)) → CommandAt a (assign x e) (suc b)
    go_to_at : {a : ℕ} {l : Name} → Fetch a (Bru (to l)) → CommandAt a (go_to l) (suc a)
    go_to_of_at : {a b : ℕ} {x l : Name} {ls : List Name} → V x → suc (length ls) ≤ 64 → Fetch a (Lda (k.variable_cell x)) → Fetch (suc a) (Brz (to l)) →
        TestsAt (suc (suc a)) ls b → CommandAt a (go_to_of x l ls) b
    read_none : {a : ℕ} → Fetch a Read → CommandAt a (read []) (suc a)
    read_some : {a b : ℕ} {x : Name} {xs : List Name} → ReadsAt a (x ∷ xs) b → CommandAt a (read (x ∷ xs)) b
    print_none : {a : ℕ} → Fetch a Newline → CommandAt a (print []) (suc a)
    print_some : {a b : ℕ} {e : Expr} {es : List Expr} → ValuesAt a (e ∷ es) b → CommandAt a (print (e ∷ es)) b
    branch_at : {a b c i j : ℕ} {r : Relation} {e f : Expr} {x y : Command} → ExprAt a e b → Fetch b (Sta temp) → ExprAt (suc b) f c →
        Fetch c comparing → Fetch (suc c) (branching r (then_at a e f)) → Fetch (suc (suc c)) (Bru (else_at a e f x)) →
        CommandAt (then_at a e f) x i → Fetch i (Bru j) → CommandAt (else_at a e f x) y j → CommandAt a (branch r e f x y) j

  pub data RestAt : ℕ → Continuation → Type 0 where
    end_at : {a : ℕ} → Fetch a Stop → RestAt a []
    command_at : {a b : ℕ} {c : Command} {r : Continuation} → CommandAt a c b → RestAt b r → RestAt a (command c ∷ r)
    off_at : {a b : ℕ} {r : Continuation} → Fetch a (Bru b) → RestAt b r → RestAt a (end_of_then ∷ r)

  pub data AllAt : ℕ → List Command → Type 0 where
    none_at : {a : ℕ} → Fetch a Stop → AllAt a []
    more_at : {a : ℕ} {c : Command} {cs : List Command} → CommandAt a c (a + size c) → AllAt (a + size c) cs → AllAt a (c ∷ cs)

  -- the rest of a list
  pub reads_rest : {a b : ℕ} {xs : List Name} {r : Continuation} → ReadsAt a xs b → RestAt b r → RestAt a (then_read xs r)
  reads_rest no_read r = r
  reads_rest (more_read x f g o) r = command_at (read_some (more_read x f g o)) r

  pub values_rest : {a b : ℕ} {es : List Expr} {r : Continuation} → ValuesAt a es b → RestAt b r → RestAt a (then_print es r)
  values_rest no_value r = r
  values_rest (more_value e f g o) r = command_at (print_some (more_value e f g o)) r

  either : (t : Bool) {a b : ℕ} {x y : Continuation} → RestAt a x → RestAt b y → RestAt (cond t a b) (cond t x y)
  either true p q = p
  either false p q = q

  -- a label is found where its address says
  seek_at : {a b m : ℕ} {c : Command} {after miss : Continuation} (l : Name) → CommandAt a c b → RestAt b after → RestAt m miss → RestAt (locate l a c m) (seek l c after miss)
  seek_at l (labelled_at {l = j} c) r q = either (same l j) (command_at c r) (seek_at l c r q)
  seek_at l empty_at r q = q
  seek_at l (assign_at e x f) r q = q
  seek_at l (go_to_at f) r q = q
  seek_at l (go_to_of_at x n f g t) r q = q
  seek_at l (read_none f) r q = q
  seek_at l (read_some o) r q = q
  seek_at l (print_none f) r q = q
  seek_at l (print_some o) r q = q
  seek_at l (branch_at e s f m n o c j d) r q = seek_at l c (off_at j r) (seek_at l d r q)

  pub rest_at : {a : ℕ} {cs : List Command} → AllAt a cs → RestAt a (in_order cs)
  rest_at (none_at f) = end_at f
  rest_at (more_at c cs) = command_at c (rest_at cs)

  pub find_at : {a : ℕ} {cs : List Command} (l : Name) → AllAt a cs → RestAt (locate_all l a cs) (find l cs)
  find_at l (none_at f) = end_at f
  find_at l (more_at c cs) = seek_at l c (rest_at cs) (find_at l cs)

  -- instructions stand in a row from a on
  abbrev pub Stands : ℕ → List Instruction → Type 0
  Stands a [] = Unit {0}
  Stands a (i ∷ is) = Fetch a i × Stands (suc a) is

  -- a part that is laid from a to b, with what stands after it
  ops_laid : (e : Expr) (a b t : ℕ) (ys : List Instruction) → All V (variables_in e) → All L (literals_in e) → b ≡ a + 3 * operators e →
      Stands a (operations k t e ++ ys) → OpsAt a t e b × Stands b ys
  ops_laid (variable x) a b t ys v n q s = let e : b ≡ a = omega arith in rw e (variable_at v.0, s)
  ops_laid (literal ds) a b t ys v n q s = let e : b ≡ a = omega arith in rw e (literal_at n.0, s)
  ops_laid (binary o l r) a b t ys v n q s =
      let i = ops_laid l a (a + 3 * operators l) t _ (all_left V (variables_in l) (variables_in r) v) (all_left L (literals_in l) (literals_in r) n) refl (simp append_assoc at s) in
      let j = ops_laid r (a + 3 * operators l) (a + 3 * operators l + 3 * operators r) (t + operators l) _ (all_right V (variables_in l) (variables_in r) v) (all_right L (literals_in l) (literals_in r) n) refl i.1 in
      let e : b ≡ suc (suc (suc (a + 3 * operators l + 3 * operators r))) = omega arith in
      rw e (binary_at i.0 j.0 j.1.0 j.1.1.0 j.1.1.1.0, j.1.1.1.1)

  expr_laid : (e : Expr) (a b : ℕ) (ys : List Instruction) → All V (variables_in e) → All L (literals_in e) → operators e ≤ 64 → b ≡ a + cost e →
      Stands a (expression k e ++ ys) → ExprAt a e b × Stands b ys
  expr_laid (variable x) a b ys v n m q s = let e : b ≡ suc a = omega arith in rw e (lone_variable v.0 s.0, s.1)
  expr_laid (literal ds) a b ys v n m q s = let e : b ≡ suc a = omega arith in rw e (lone_literal n.0 s.0, s.1)
  expr_laid (binary o l r) a b ys v n m q s = let i = ops_laid (binary o l r) a b 2 ys v n q s in (composed m i.0, i.1)

  tests_laid : (ls : List Name) (a b : ℕ) (ys : List Instruction) → b ≡ a + 2 * length ls → Stands a (tests to ls ++ ys) → TestsAt a ls b × Stands b ys
  tests_laid [] a b ys q s = let e : b ≡ a = omega arith in rw e (no_test, s)
  tests_laid (l ∷ ls) a b ys q s = let i = tests_laid ls (suc (suc a)) b ys (omega arith) s.1.1 in (more_test s.0 s.1.0 i.0, i.1)

  reads_laid : (xs : List Name) (a b : ℕ) (ys : List Instruction) → All V xs → b ≡ a + 2 * length xs → Stands a (reads k xs ++ ys) → ReadsAt a xs b × Stands b ys
  reads_laid [] a b ys h q s = let e : b ≡ a = omega arith in rw e (no_read, s)
  reads_laid (x ∷ xs) a b ys h q s = let i = reads_laid xs (suc (suc a)) b ys h.1 (omega arith) s.1.1 in (more_read h.0 s.0 s.1.0 i.0, i.1)

  abbrev pub Few : Expr → Type 0
  Few e = operators e ≤ 64

  abbrev pub Short : ℕ → Type 0
  Short n = n ≤ 64

  values_laid : (es : List Expr) (a b : ℕ) (ys : List Instruction) → All V (collected variables_in es) → All L (collected literals_in es) → All Few es → b ≡ a + values_size es →
      Stands a (values k es ++ ys) → ValuesAt a es b × Stands b ys
  values_laid [] a b ys v n m q s = let e : b ≡ a = omega arith in rw e (no_value, s)
  values_laid (e ∷ es) a b ys v n m q s =
      let i = expr_laid e a (a + cost e) _ (all_left V (variables_in e) (collected variables_in es) v) (all_left L (literals_in e) (collected literals_in es) n) m.0 refl (simp append_assoc at s) in
      let j = values_laid es (suc (suc (a + cost e))) b ys (all_right V (variables_in e) (collected variables_in es) v) (all_right L (literals_in e) (collected literals_in es) n) m.1 (omega arith) i.1.1.1 in
      (more_value i.0 i.1.0 i.1.1.0 j.0, j.1)

  command_laid : (c : Command) (a b : ℕ) (ys : List Instruction) → All V (variables c) → All L (literals c) → All Few (wholes c) → All Short (picks c) → b ≡ a + size c →
      Stands a (code k to a c ++ ys) → CommandAt a c b × Stands b ys
  command_laid (labelled l c) a b ys v n m p q s = let i = command_laid c a b ys v n m p q s in (labelled_at i.0, i.1)
  command_laid empty a b ys v n m p q s = let e : b ≡ a = omega arith in rw e (empty_at, s)
  command_laid (assign x e) a b ys v n m p q s =
      let i = expr_laid e a (a + cost e) _ v.1 n m.0 refl (simp append_assoc at s) in
      let w : b ≡ suc (a + cost e) = omega arith in
      rw w (assign_at i.0 v.0 i.1.0, i.1.1)
  command_laid (go_to l) a b ys v n m p q s = let e : b ≡ suc a = omega arith in rw e (go_to_at s.0, s.1)
  command_laid (go_to_of x l ls) a b ys v n m p q s =
      let i = tests_laid ls (suc (suc a)) b ys (omega arith) s.1.1 in
      (go_to_of_at v.0 p.0 s.0 s.1.0 i.0, i.1)
  command_laid (read []) a b ys v n m p q s = let e : b ≡ suc a = omega arith in rw e (read_none s.0, s.1)
  command_laid (read (x ∷ xs)) a b ys v n m p q s = let i = reads_laid (x ∷ xs) a b ys v (omega arith) s in (read_some i.0, i.1)
  command_laid (print []) a b ys v n m p q s = let e : b ≡ suc a = omega arith in rw e (print_none s.0, s.1)
  command_laid (print (e ∷ es)) a b ys v n m p q s = let i = values_laid (e ∷ es) a b ys v n m q s in (print_some i.0, i.1)
  command_laid (branch r e f c d) a b ys v n m p q s =
      let v' = all_right V (variables_in e) _ v in
      let n' = all_right L (literals_in e) _ n in
      let v'' = all_right V (variables_in f) _ v' in
      let n'' = all_right L (literals_in f) _ n' in
      let i = expr_laid e a (a + cost e) _ (all_left V (variables_in e) _ v) (all_left L (literals_in e) _ n) m.0 refl (simp append_assoc at s) in
      let j = expr_laid f (suc (a + cost e)) (suc (a + cost e) + cost f) _ (all_left V (variables_in f) _ v') (all_left L (literals_in f) _ n') m.1.0 refl i.1.1 in
      let w : suc (suc (suc (suc (a + cost e) + cost f))) ≡ then_at a e f = omega arith in
      let x = command_laid c (then_at a e f) (then_at a e f + size c) _ (all_left V (variables c) _ v'') (all_left L (literals c) _ n'') (all_left Few (wholes c) _ m.1.1) (all_left Short (picks c) _ p) refl (rw w at j.1.1.1.1) in
      let u : suc (then_at a e f + size c) ≡ else_at a e f c = omega arith in
      let y = command_laid d (else_at a e f c) b ys (all_right V (variables c) _ v'') (all_right L (literals c) _ n'') (all_right Few (wholes c) _ m.1.1) (all_right Short (picks c) _ p) (omega arith) (rw u at x.1.1) in
      let t : past a e f c d ≡ b = omega arith in
      (branch_at i.0 i.1.0 j.0 j.1.0 j.1.1.0 j.1.1.1.0 x.0 (rw t at x.1.0) y.0, y.1)

  pub all_laid : (cs : List Command) (a : ℕ) → All V (collected variables cs) → All L (collected literals cs) → All Few (collected wholes cs) → All Short (collected picks cs) →
      Stands a (codes k to a cs) → AllAt a cs
  all_laid [] a v n m p s = none_at s.0
  all_laid (c ∷ cs) a v n m p s =
      let d = command_laid c a (a + size c) (codes k to (a + size c) cs) (all_left V (variables c) _ v) (all_left L (literals c) _ n) (all_left Few (wholes c) _ m) (all_left Short (picks c) _ p) refl s in
      more_at d.0 (all_laid cs (a + size c) (all_right V (variables c) _ v) (all_right L (literals c) _ n) (all_right Few (wholes c) _ m) (all_right Short (picks c) _ p) d.1)
