-- A step of the source is as many steps of the machine, with the same events at the same places.
use Rattle.std.proofs.Common.{◌≡◌, ℕ, suc, ◌+◌, ◌*◌, ◌<◌, ◌≤◌, Bool, true, false, cond, ◌≢◌, ◌⊎◌, List, [], ◌∷◌, length, set, ℤ, pos, Some, Option, sym, refl, ap, ◌∙◌, subst, inl, inr, arith, length-set}
use Rattle.std.proofs.lemmas.List.{get_or-set_same, get_or-set_other}
use Rattle.trees.specs.Trees.{Name, Expr, variable, literal, binary, Command}
use Rattle.trees.specs.declared.operator.Operator.{Operator}
use Rattle.trees.specs.declared.relation.Relation.{Relation}
use Rattle.trees.specs.declared.relation.Relation.TheVariants.{Greater as greater, Equal as equal, Less as lesser}
use Rattle.arithmetic.specs.Words.{Words, Lawful, is_zero, difference, less}
use Rattle.host.specs.Meaning.{Meaning, first, taken, fits, marked}
use Rattle.runs.specs.Names.{same, Store, put}
use Rattle.runs.specs.Events.{World, Mark, number, line_end, Running}
use Rattle.runs.specs.Source.{decimal, apply, value, operators, cost, compared, holds, command, end_of_then, Continuation, find, quiets, Stage, at, ended, Step, making, storing, dropping, choosing, picked, pick_cost, leading, perform}
use Rattle.runs.specs.Source.{step as source_step}
use Rattle.runs.specs.Machine.{Instruction, Bru, Brz, Lda, Sta, Sub, Read, Convert, Newline, State, state, held, load, take_line, make_mark, carry_out, step}
use Rattle.runs.specs.Code.{Layout, temp, one, operating, cell_of, branching}
use Rattle.runs.proofs.Basics.{same_self, same_eq, is_number, found, spent, found_is, spent_is, Fixed, fit_fixed, value_fixed, put_fixed, less_more, test_is}
use Rattle.runs.proofs.Goes.{Goes, done, tick, tick_to, join, quietly}
use Rattle.runs.proofs.Laid.{Fetch, OpsAt, variable_at, literal_at, binary_at, ExprAt, lone_variable, lone_literal, composed, TestsAt, no_test, more_test, more_read, more_value, CommandAt, labelled_at, empty_at, assign_at, go_to_at, go_to_of_at, read_none, read_some, print_none, print_some, branch_at, RestAt, end_at, command_at, off_at, reads_rest, values_rest}

-- a running machine
abbrev pub at_work : ℕ → ℤ → List ℤ → Meaning → State
at_work a x s h = state a x s h Running

-- the cells of variables and numbers are past the fixed ones, in use, and apart
pub record Apart (k : Layout) (V : Name → Type 0) (L : List ℕ → Type 0) : Type 0 where
  pub fixed : 66 ≤ k.used
  pub variable_past : (x : Name) → V x → 66 ≤ k.variable_cell x
  pub variable_used : (x : Name) → V x → k.variable_cell x < k.used
  pub variable_own : (x y : Name) → V x → V y → k.variable_cell x ≡ k.variable_cell y → x ≡ y
  pub literal_past : (ds : List ℕ) → L ds → 66 ≤ k.literal_cell ds
  pub literal_own : (ds : List ℕ) (x : Name) → L ds → V x → k.literal_cell ds ≢ k.variable_cell x

module _ (w : Words) (law : Lawful w) where
  held_same : (s : List ℤ) (a : ℕ) (z : ℤ) → a < length s → Fixed w law z → held w (set s a z) a ≡ z
  held_same s a z l f = ap w.fit (get_or-set_same s a z (pos 0) l) ∙ f

  held_other : (s : List ℤ) (a b : ℕ) (z : ℤ) → b ≢ a → held w (set s a z) b ≡ held w s b
  held_other s a b z l = ap w.fit (get_or-set_other s a b z (pos 0) l)

  module _ (k : Layout) (V : Name → Type 0) (L : List ℕ → Type 0) (apart : Apart k V L) where
    -- the cells hold 1, the variables' values and the numbers; every value is a word
    pub record Holds (v : Store) (s : List ℤ) : Type 0 where
      pub size : k.used ≤ length s
      pub unit : held w s one ≡ pos 1
      pub variables : (x : Name) → V x → held w s (k.variable_cell x) ≡ v x
      pub literals : (ds : List ℕ) → L ds → held w s (k.literal_cell ds) ≡ w.fit (pos (decimal ds))
      pub fixed : (x : Name) → Fixed w law (v x)

    -- the cells below t and past the temporaries are as they were
    record Keeps (t : ℕ) (s u : List ℤ) : Type 0 where
      size : length u ≡ length s
      same_at : (c : ℕ) → (c < t) ⊎ (65 < c) → held w u c ≡ held w s c

    kept_none : {t : ℕ} {s : List ℤ} → Keeps t s s
    kept_none = record { size = refl; same_at = λ c _. refl }

    kept : {v : Store} {t : ℕ} {s u : List ℤ} → 2 ≤ t → Holds v s → Keeps t s u → Holds v u
    kept l h q = record {
      size = omega (arith, q.size, h.size);
      unit = q.same_at one (inl (omega arith)) ∙ h.unit;
      variables = λ x m. q.same_at (k.variable_cell x) (inr (apart.variable_past x m)) ∙ h.variables x m;
      literals = λ ds m. q.same_at (k.literal_cell ds) (inr (apart.literal_past ds m)) ∙ h.literals ds m;
      fixed = h.fixed;
    }

    -- #TEMP is written
    temp_put : {v : Store} (s : List ℤ) (z : ℤ) → Holds v s → Holds v (set s temp z)
    temp_put s z h = record {
      size = omega (arith, length-set s temp z, h.size);
      unit = held_other s temp one z (omega arith) ∙ h.unit;
      variables = λ x m. held_other s temp (k.variable_cell x) z (let l = apart.variable_past x m in omega arith) ∙ h.variables x m;
      literals = λ ds m. held_other s temp (k.literal_cell ds) z (let l = apart.literal_past ds m in omega arith) ∙ h.literals ds m;
      fixed = h.fixed;
    }

    -- a variable is written
    variable_put : {v : Store} (s : List ℤ) (x : Name) (z : ℤ) → V x → Fixed w law z → Holds v s → Holds (put v x z) (set s (k.variable_cell x) z)
    variable_put {v} s x z l f h = record {
      size = omega (arith, length-set s (k.variable_cell x) z, h.size);
      unit = held_other s (k.variable_cell x) one z (let p = apart.variable_past x l in omega arith) ∙ h.unit;
      variables = λ y m. written y m (same x y) refl;
      literals = λ ds m. held_other s (k.variable_cell x) (k.literal_cell ds) z (apart.literal_own ds x m l) ∙ h.literals ds m;
      fixed = put_fixed w law v x z h.fixed f;
    }
      where
        written : (y : Name) → V y → (b : Bool) → same x y ≡ b → held w (set s (k.variable_cell x) z) (k.variable_cell y) ≡ cond b z (v y)
        written y m true e =
            subst (λ (i : Name). held w (set s (k.variable_cell x) z) (k.variable_cell i) ≡ z) (same_eq x y e)
            (held_same s (k.variable_cell x) z (let u = apart.variable_used x l in omega (arith, h.size)) f)
        written y m false e =
            held_other s (k.variable_cell x) (k.variable_cell y) z
            (λ q. let d : x ≡ y = apart.variable_own x y l m (sym q) in
            let t : same x y ≡ true = subst (λ (i : Name). same x i ≡ true) d (same_self x) in
            let n : ◌≡◌ {A = ℕ} 0 1 = cc (sym e ∙ t) in omega arith) ∙
            h.variables y m

    -- where the value of a part stands, a later part does not write
    out_of_way : (e : Expr) (t : ℕ) {a b : ℕ} {code : List ℕ} {to : Name → ℕ} → OpsAt code k to V L a t e b → (cell_of k t e < t + operators e) ⊎ (65 < cell_of k t e)
    out_of_way (variable x) t (variable_at m) = inr (apart.variable_past x m)
    out_of_way (literal ds) t (literal_at m) = inr (apart.literal_past ds m)
    out_of_way (binary o l r) t m = inl (omega arith)

module _ (W : World) (law : Lawful W.words) (k : Layout) (V : Name → Type 0) (L : List ℕ → Type 0) (apart : Apart k V L) (code : List ℕ) (to : Name → ℕ) where
  abbrev w : Words
  w = W.words

  abbrev H : Store → List ℤ → Type 0
  H v s = Holds w law k V L apart v s

  -- an operator's instruction does what the operator says
  operates : (o : Operator) (c : ℕ) (m : State) → carry_out W (operating o c) m ≡ load (apply w o m.accumulator (held w m.cells c)) m
  operates o c m = grind arith

  -- a relation's jump is taken where it holds
  turns : (r : Relation) (a b : ℕ) {z : ℤ} {s : List ℤ} {h : Meaning} {t : Bool} → holds r z ≡ t → carry_out W (branching r b) (at_work a z s h) ≡ at_work (cond t b (suc a)) z s h
  turns greater a b {z} {s} {h} e = ap (λ (t : Bool). at_work (cond t b (suc a)) z s h) e
  turns equal a b {z} {s} {h} e = ap (λ (t : Bool). at_work (cond t b (suc a)) z s h) e
  turns lesser a b {z} {s} {h} e = ap (λ (t : Bool). at_work (cond t b (suc a)) z s h) e

  record Valued (a b t : ℕ) (e : Expr) (v : Store) (x : ℤ) (s : List ℤ) (h : Meaning) : Type 0 where
    acc : ℤ
    cells : List ℤ
    goes : Goes W code k.used (at_work a x s h) (quiets (3 * operators e)) (at_work b acc cells h)
    keeps : Keeps w law k V L apart t s cells
    value_held : held w cells (cell_of k t e) ≡ value w v e
    acc_has : 0 < operators e → acc ≡ value w v e

  wider : {t c : ℕ} (i : ℕ) → (c < t) ⊎ (65 < c) → (c < t + i) ⊎ (65 < c)
  wider i (inl l) = inl (omega arith)
  wider i (inr l) = inr l

  -- both parts are computed: the operator
  binary_run : {a b c t : ℕ} {o : Operator} {l r : Expr} (v : Store) (s : List ℤ) (x : ℤ) (h : Meaning) → H v s →
      (A : Valued a b t l v x s h) (B : Valued b c (t + operators l) r v A.acc A.cells h) → (cell_of k t l < t + operators l) ⊎ (65 < cell_of k t l) →
      Fetch code k to V L c (Lda (cell_of k t l)) → Fetch code k to V L (suc c) (operating o (cell_of k (t + operators l) r)) → Fetch code k to V L (suc (suc c)) (Sta (t + (operators l + operators r))) →
      t + suc (operators l + operators r) ≤ 66 → Valued a (suc (suc (suc c))) t (binary o l r) v x s h
  binary_run {c = c} {t = t} {o} {l} {r} v s x h q A B y f f' f'' j =
      let z : ℤ = apply w o (held w B.cells (cell_of k t l)) (held w B.cells (cell_of k (t + operators l) r)) in
      let d : ℕ = t + (operators l + operators r) in
      let el : held w B.cells (cell_of k t l) ≡ value w v l = B.keeps.same_at (cell_of k t l) y ∙ A.value_held in
      let ez : z ≡ value w v (binary o l r) = cc (el, B.value_held) in
      let fz : Fixed w law z = rw ez (value_fixed w law v q.fixed (binary o l r)) in
      let m : 3 * suc (operators l + operators r) ≡ 3 * operators l + 3 * operators r + 3 = omega arith in
      let u : k.used ≤ length s = q.size in
      let U : 66 ≤ k.used = apart.fixed in
      record {
        acc = z;
        cells = set B.cells d z;
        goes = rw m (quietly W code k.used (3 * operators l + 3 * operators r) 3 (quietly W code k.used (3 * operators l) (3 * operators r) A.goes B.goes)
            (tick _ refl f (refl, refl) (tick_to W code k.used (operating o (cell_of k (t + operators l) r)) refl f' (operates o (cell_of k (t + operators l) r) (at_work (suc c) (held w B.cells (cell_of k t l)) B.cells h)) (refl, refl) (tick _ refl f'' (refl, refl) done))));
        keeps = record { size = length-set B.cells d z ∙ B.keeps.size ∙ A.keeps.size; same_at = λ c g. held_other w law B.cells d c z (omega arith) ∙ B.keeps.same_at c (wider (operators l) g) ∙ A.keeps.same_at c g };
        value_held = held_same w law B.cells d z (omega (arith, B.keeps.size, A.keeps.size)) fz ∙ ez;
        acc_has = λ _. ez;
      }

  ops_run : {a b t : ℕ} {e : Expr} (v : Store) (s : List ℤ) (x : ℤ) (h : Meaning) → H v s →
      OpsAt code k to V L a t e b → 2 ≤ t → t + operators e ≤ 66 → Valued a b t e v x s h
  ops_run v s x h q (variable_at {x = y} l) i j = record { acc = x; cells = s; goes = done; keeps = kept_none w law k V L apart; value_held = q.variables y l; acc_has = λ o. absurd (omega arith) }
  ops_run v s x h q (literal_at {ds = ds} l) i j = record { acc = x; cells = s; goes = done; keeps = kept_none w law k V L apart; value_held = q.literals ds l; acc_has = λ o. absurd (omega arith) }
  ops_run v s x h q (binary_at {t = t} {l = l} P Q f f' f'') i j =
      let A = ops_run v s x h q P i (omega arith) in
      binary_run v s x h q A (ops_run v A.cells A.acc h (kept w law k V L apart i q A.keeps) Q (omega arith) (omega arith)) (out_of_way w law k V L apart l t P) f f' f'' j

  record Got (a b : ℕ) (e : Expr) (v : Store) (x : ℤ) (s : List ℤ) (h : Meaning) : Type 0 where
    cells : List ℤ
    goes : Goes W code k.used (at_work a x s h) (quiets (cost e)) (at_work b (value w v e) cells h)
    keeps : Keeps w law k V L apart 2 s cells

  expr_run : {a b : ℕ} {e : Expr} (v : Store) (s : List ℤ) (x : ℤ) (h : Meaning) → H v s → ExprAt code k to V L a e b → Got a b e v x s h
  expr_run v s x h q (lone_variable {a = a} {x = y} l f) = record { cells = s; goes = tick_to W code k.used (Lda (k.variable_cell y)) refl f (ap (λ (z : ℤ). at_work (suc a) z s h) (q.variables y l)) (refl, refl) done; keeps = kept_none w law k V L apart }
  expr_run v s x h q (lone_literal {a = a} {ds = ds} l f) = record { cells = s; goes = tick_to W code k.used (Lda (k.literal_cell ds)) refl f (ap (λ (z : ℤ). at_work (suc a) z s h) (q.literals ds l)) (refl, refl) done; keeps = kept_none w law k V L apart }
  expr_run v s x h q (composed {o = o} {l} {r} i e) =
      let A = ops_run v s x h q e (omega arith) (omega arith) in
      record { cells = A.cells; goes = rw (← (A.acc_has (omega arith))) A.goes; keeps = A.keeps }

  -- the machine stands where the source does
  pub data Matches : Stage → State → Type 0 where
    runs : {a : ℕ} {r : Continuation} {v : Store} {s : List ℤ} {x : ℤ} {h : Meaning} → RestAt code k to V L a r → H v s → Matches (at r v h) (at_work a x s h)
    rests : {m : State} → step W code k.used m ≡ m → Matches ended m

  -- the machine does what the step says
  pub record Does (m : State) (p : Step) : Type 0 where
    pub last : State
    pub goes : Goes W code k.used m p.units last
    pub fits_to : Matches p.next last

  -- a mark, whatever it is, after some quiet units
  marks : {a : ℕ} {r : Continuation} {v : Store} {s : List ℤ} {x : ℤ} {h : Meaning} {m : State} (i : Instruction) (n : Mark) (b : Bool) (j : ℕ) →
      ((m : State) → carry_out W i (at_work a x s h) ≡ make_mark (fits (W.weight n) h) (W.weight n) n (at_work a x s h)) →
      fits (W.weight n) h ≡ b → Goes W code k.used m (quiets j) (at_work a x s h) → H v s → RestAt code k to V L (suc a) r → Fetch code k to V L a i →
      Does m (making b n j r v (marked (W.weight n) n h))
  marks {a} {s = s} {x} {h} {m} i n true j d e g q r f = record {
    last = _;
    goes = join W code k.used g (tick_to W code k.used i refl f (d m ∙ ap (λ (b : Bool). make_mark b (W.weight n) n (at_work a x s h)) e) (e, refl, refl) done);
    fits_to = runs r q;
  }
  marks {a} {s = s} {x} {h} {m} i n false j d e g q r f = record {
    last = _;
    goes = join W code k.used g (tick_to W code k.used i refl f (d m ∙ ap (λ (b : Bool). make_mark b (W.weight n) n (at_work a x s h)) e) (refl, refl) done);
    fits_to = rests refl;
  }

  stores : {a : ℕ} {r : Continuation} {v : Store} {s : List ℤ} {x : ℤ} {h : Meaning} (y : Name) (ls : List ℤ) → h.lines ≡ ls →
      H v s → V y → RestAt code k to V L (suc (suc a)) r → Fetch code k to V L a Read → Fetch code k to V L (suc a) (Sta (k.variable_cell y)) →
      Does (at_work a x s h) (storing w y (first ls) r v (taken h))
  stores {a} {s = s} {x} {h} y [] e q l r f f' = record {
    last = _;
    goes = tick_to W code k.used Read refl f (ap (λ (ls : List ℤ). take_line w (first ls) (at_work a x s h)) e) (refl, refl) done;
    fits_to = rests refl;
  }
  stores {a} {s = s} {x} {h} y (z ∷ zs) e q l r f f' = record {
    last = _;
    goes = tick_to W code k.used Read refl f (ap (λ (ls : List ℤ). take_line w (first ls) (at_work a x s h)) e) (z, zs, e, refl, refl) (tick (Sta (k.variable_cell y)) refl f' (refl, refl) done);
    fits_to = runs r (variable_put w law k V L apart s y (w.fit z) l (fit_fixed w law z) q);
  }

  drops : {a : ℕ} {r : Continuation} {v : Store} {s : List ℤ} {x : ℤ} {h : Meaning} (ls : List ℤ) → h.lines ≡ ls →
      H v s → RestAt code k to V L (suc a) r → Fetch code k to V L a Read → Does (at_work a x s h) (dropping (first ls) r v (taken h))
  drops {a} {s = s} {x} {h} [] e q r f = record {
    last = _;
    goes = tick_to W code k.used Read refl f (ap (λ (ls : List ℤ). take_line w (first ls) (at_work a x s h)) e) (refl, refl) done;
    fits_to = rests refl;
  }
  drops {a} {s = s} {x} {h} (z ∷ zs) e q r f = record {
    last = _;
    goes = tick_to W code k.used Read refl f (ap (λ (ls : List ℤ). take_line w (first ls) (at_work a x s h)) e) (z, zs, e, refl, refl) done;
    fits_to = runs r q;
  }

  chooses : {a b u : ℕ} (o : Relation) (t : Bool) (j : ℕ) {c d : Command} {r : Continuation} {v : Store} {s : List ℤ} {z : ℤ} {h : Meaning} {m : State} →
      Goes W code k.used m (quiets j) (at_work a z s h) → holds o z ≡ t → H v s →
      Fetch code k to V L a (branching o b) → Fetch code k to V L (suc a) (Bru u) → RestAt code k to V L b (command c ∷ end_of_then ∷ r) → RestAt code k to V L u (command d ∷ r) →
      Does m (choosing t j c d r v h)
  chooses {a} {b} o true j g e q f f' x y = record { last = _; goes = quietly W code k.used j 1 g (tick_to W code k.used _ refl f (turns o a b e) (refl, refl) done); fits_to = runs x q }
  chooses {a} {b} o false j g e q f f' x y = record { last = _; goes = quietly W code k.used j 2 g (tick_to W code k.used _ refl f (turns o a b e) (refl, refl) (tick _ refl f' (refl, refl) done)); fits_to = runs y q }

  module _ (program : List Command) (jumps : (l : Name) → RestAt code k to V L (to l) (find l program)) where
    -- GO TO .. OF from its test at label i on
    abbrev picking : ℕ → ℤ → List Name → Continuation → Store → Meaning → Step
    picking i z ls r v h = record { units = quiets (spent i z ls); next = at (leading W program (found i z ls) r) v h }

    abbrev tested : Bool → ℕ → ℤ → Name → List Name → Continuation → Store → Meaning → Step
    tested b i z l ls r v h = record { units = quiets (cond b (2 + 2 * i) (spent (suc i) z ls)); next = at (leading W program (cond b (Some l) (found (suc i) z ls)) r) v h }

    pick_does : {a b : ℕ} {ls : List Name} (l : Name) {r : Continuation} {v : Store} {s : List ℤ} (z : ℤ) (h : Meaning) (m : State) (i : ℕ) (t : Bool) → is_number z i ≡ t → i + suc (length ls) ≤ 64 → Fixed w law z →
        Fetch code k to V L a (Brz (to l)) → TestsAt code k to V L (suc a) ls b → RestAt code k to V L b r → H v s →
        Goes W code k.used m (quiets (2 * i + 1)) (at_work a (less w i z) s h) → Does m (tested t i z l ls r v h)
    pick_does {a} l {s = s} z h m i true e n x f o r q g =
        let p : is_zero (less w i z) ≡ true = test_is w law i (omega arith) z x ∙ e in
        let c : 2 * i + 1 + 1 ≡ 2 + 2 * i = omega arith in
        record { last = _; goes = rw c at (quietly W code k.used (2 * i + 1) 1 g (tick_to W code k.used (Brz (to l)) refl f (turns equal a (to l) p) (refl, refl) done)); fits_to = runs (jumps l) q }
    pick_does {a} l {s = s} z h m i false e n x f no_test r q g =
        let p : is_zero (less w i z) ≡ false = test_is w law i (omega arith) z x ∙ e in
        let c : 2 * i + 1 + 1 ≡ 2 * suc i = omega arith in
        record { last = _; goes = rw c at (quietly W code k.used (2 * i + 1) 1 g (tick_to W code k.used (Brz (to l)) refl f (turns equal a (to l) p) (refl, refl) done)); fits_to = runs r q }
    pick_does {a} l {s = s} z h m i false e n x f (more_test {l = j} f' f'' o) r q g =
        let p : is_zero (less w i z) ≡ false = test_is w law i (omega arith) z x ∙ e in
        let d : difference w (less w i z) (held w s one) ≡ less w (suc i) z = ap (difference w (less w i z)) q.unit ∙ sym (less_more w law i z) in
        let c : 2 * i + 1 + 2 ≡ 2 * suc i + 1 = omega arith in
        pick_does j z h m (suc i) (is_number z (suc i)) refl (omega arith) x f'' o r q
        (rw c at (quietly W code k.used (2 * i + 1) 2 g
        (tick_to W code k.used (Brz (to l)) refl f (turns equal a (to l) p) (refl, refl)
        (tick_to W code k.used (Sub one) refl f' (ap (λ (y : ℤ). at_work (suc (suc a)) y s h) d) (refl, refl) done))))

    command_does : {a b : ℕ} {c : Command} {r : Continuation} {v : Store} {s : List ℤ} (x : ℤ) (h : Meaning) → CommandAt code k to V L a c b → RestAt code k to V L b r → H v s →
        Does (at_work a x s h) (perform W program c r v h)
    command_does x h (labelled_at c) r q = record { last = _; goes = done; fits_to = runs (command_at c r) q }
    command_does x h empty_at r q = record { last = _; goes = done; fits_to = runs r q }
    command_does {v = v} {s = s} x h (assign_at {x = y} {e = e} i l f) r q =
        let E = expr_run v s x h q i in
        record {
          last = _;
          goes = quietly W code k.used (cost e) 1 E.goes (tick _ refl f (refl, refl) done);
          fits_to = runs r (variable_put w law k V L apart E.cells y (value w v e) l (value_fixed w law v q.fixed e) (kept w law k V L apart (omega arith) q E.keeps));
        }
    command_does x h (go_to_at {l = l} f) r q = record { last = _; goes = tick _ refl f (refl, refl) done; fits_to = runs (jumps l) q }
    command_does {a = a} {r = r'} {v = v} {s = s} x h (go_to_of_at {x = y} {l = l} {ls = ls} m n f f' o) r q =
        let D : Does (at_work a x s h) (picking 0 (v y) (l ∷ ls) r' v h) =
        pick_does l (v y) h _ 0 (is_number (v y) 0) refl (omega arith) (q.fixed y) f' o r q
        (tick_to W code k.used (Lda (k.variable_cell y)) refl f (ap (λ (z : ℤ). at_work (suc a) z s h) (q.variables y m)) (refl, refl) done) in
        subst (λ (o : Option Name). Does (at_work a x s h) (record { units = quiets (pick_cost (v y) (suc (length ls)) (picked (v y) (l ∷ ls))); next = at (leading W program o r') v h })) (found_is (v y) (l ∷ ls))
        (subst (λ (c : ℕ). Does (at_work a x s h) (record { units = quiets c; next = at (leading W program (found 0 (v y) (l ∷ ls)) r') v h })) (spent_is (v y) (l ∷ ls)) D)
    command_does x h (read_none f) r q = drops h.lines refl q r f
    command_does x h (read_some (more_read {x = y} l f f' o)) r q = stores y h.lines refl q l (reads_rest code k to V L o r) f f'
    command_does x h (print_none f) r q = marks Newline line_end (fits (W.weight line_end) h) 0 (λ m. refl) refl done q r f
    command_does {v = v} {s = s} x h (print_some (more_value {e = e} i f f' o)) r q =
        let E = expr_run v s x h q i in
        marks Convert (number (value w v e)) (fits (W.weight (number (value w v e))) h) (cost e) (λ m. refl) refl E.goes (kept w law k V L apart (omega arith) q E.keeps) (command_at (print_none f') (values_rest code k to V L o r)) f
    command_does {v = v} {s = s} x h (branch_at {r = o} {e = e} {f = e'} i f i' f' f'' f''' c j d) r q =
        let E = expr_run v s x h q i in
        let y : ℤ = value w v e in
        let K : H v E.cells = kept w law k V L apart (omega arith) q E.keeps in
        let u : List ℤ = set E.cells temp y in
        let Q : H v u = temp_put w law k V L apart E.cells y K in
        let F = expr_run v u y h Q i' in
        let z : held w F.cells temp ≡ y =
        F.keeps.same_at temp (inl (omega arith)) ∙
        held_same w law E.cells temp y (let U = apart.fixed in let S = K.size in omega arith) (value_fixed w law v q.fixed e) in
        let l : cost e + 1 + cost e' + 1 ≡ cost e + cost e' + 2 = omega arith in
        chooses o (holds o (compared w y (value w v e'))) (cost e + cost e' + 2)
        (rw l at (quietly W code k.used (cost e + 1 + cost e') 1 (quietly W code k.used (cost e + 1) (cost e') (quietly W code k.used (cost e) 1 E.goes (tick _ refl f (refl, refl) done)) F.goes) (tick _ refl f' (refl, refl) done)))
        (ap (λ (n : ℤ). holds o (difference w (value w v e') n)) z)
        (kept w law k V L apart (omega arith) Q F.keeps) f'' f''' (command_at c (off_at j r)) (command_at d r)

    pub does_step : {t : Stage} {m : State} → Matches t m → Does m (source_step W program t)
    does_step (rests e) = record { last = _; goes = done; fits_to = rests e }
    does_step (runs {x = x} {h = h} (command_at c r) q) = command_does x h c r q
    does_step (runs (end_at f) q) = record { last = _; goes = tick _ refl f (refl, refl) done; fits_to = rests refl }
    does_step (runs (off_at f r) q) = record { last = _; goes = tick _ refl f (refl, refl) done; fits_to = runs r q }
