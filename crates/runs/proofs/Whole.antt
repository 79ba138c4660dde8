-- The whole run: what is seen of n machine steps is what the source's events of running cost up to n add up to.
use Rattle.std.proofs.Common.{◌≡◌, ℕ, zero, suc, ◌+◌, ◌-◌, ◌≤◌, Bool, true, false, cond, leb, ◌⊎◌, List, [], ◌∷◌, ◌++◌, length, take, ℤ, Some, None, Option, sym, refl, ap, ◌∙◌, subst, inl, inr, append_assoc, append-nil, suc-add, zero-add, arith, length-append}
use lib.ListN.{length-replicate}
use Rattle.std.proofs.lemmas.Bool.Decides.{nat_tests}
use lib.Seq.{take-nil}
use Rattle.trees.specs.Trees.{Name, Command, labelled, empty, assign, go_to, go_to_of, read, print, branch, Program, commands}
use Rattle.arithmetic.specs.Words.{Words, Lawful}
use Rattle.host.specs.Meaning.{Meaning, first, taken, fits, marked}
use Rattle.runs.specs.Names.{Store, zeros}
use Rattle.runs.specs.Events.{World, Mark, number, line_end, Event, Observation, nothing, observe, observed_from, observed, Tick, quiet, does, timed, up_to, remaining}
use Rattle.runs.specs.Source.{value, cost, compared, holds, command, end_of_then, Continuation, find, then_read, then_print, Stage, at, ended, Step, making, storing, dropping, choosing, picked, pick_cost, step, units, stage, start, events}
use Rattle.runs.specs.Machine.{State, run}
use Rattle.runs.specs.Machine.{step as machine_step}
use Rattle.runs.specs.Code.{Layout, address_of, code_of}
use Rattle.runs.specs.Placed.{Variable, Literal, Placed, Ready}
use Rattle.runs.specs.Statements.{after, BudgetedRunsSettle, BudgetedRunsAgree}
use Rattle.runs.proofs.Basics.{zero_fixed, one_fixed, fit_fixed}
use Rattle.runs.proofs.Cut.{still}
use Rattle.runs.proofs.Goes.{notes, all_noted, Follows, shows}
use Rattle.runs.proofs.Laid.{RestAt, rest_at, find_at}
use Rattle.runs.proofs.Stands.{laid}
use Rattle.runs.proofs.Sim.{Apart, Holds, Matches, runs, rests, does_step}

-- the events up to n, by taking n units
late : (c N : ℕ) (ts : List Tick) → N ≤ c → up_to N (timed c ts) ≡ []
late c N [] h = refl
late c N (quiet ∷ ts) h = late (suc c) N ts (omega arith)
late c N (does e ∷ ts) h = let i = late (suc c) N ts (omega arith) in grind (arith, nat_tests)

pub in_time : (c N M : ℕ) (o : Observation) (ts : List Tick) → M ≡ c + N → observed_from o (up_to M (timed c ts)) ≡ all_noted o (take N ts)
in_time c zero M o ts e = ap (observed_from o) (late c M ts (omega arith))
in_time c (suc N) M o [] e = refl
in_time c (suc N) M o (quiet ∷ ts) e = in_time (suc c) N M o ts (omega arith)
in_time c (suc N) M o (does h ∷ ts) e =
    let t : leb (suc c) M ≡ true = grind (arith, nat_tests) in
    rw t (in_time (suc c) N M (observe h o) ts (omega arith))

-- units beyond n add no event of running cost up to n
up_to_more : (c N : ℕ) (ts us : List Tick) → N ≤ c + length ts → up_to N (timed c (ts ++ us)) ≡ up_to N (timed c ts)
up_to_more c N [] us h = late c N us (omega arith)
up_to_more c N (quiet ∷ ts) us h = up_to_more (suc c) N ts us (omega arith)
up_to_more c N (does e ∷ ts) us h =
    ap (λ (es : List Event). cond (leb (suc c) N) (e ∷ es) es) (up_to_more (suc c) N ts us (omega arith))

-- the source does not stand still
record Costly (s : Step) : Type 0 where
  some : 1 ≤ length (s.units ++ [])

costly_making : (b : Bool) (m : Mark) (j : ℕ) (r : Continuation) (v : Store) (h : Meaning) → Costly (making b m j r v h)
costly_making false m j r v h = record { some = simp (append_assoc, length-append) (omega arith) }
costly_making true m j r v h = record { some = simp (append_assoc, length-append) (omega arith) }

costly_storing : (w : Words) (x : Name) (o : Option ℤ) (r : Continuation) (v : Store) (h : Meaning) → Costly (storing w x o r v h)
costly_storing w x None r v h = record { some = omega arith }
costly_storing w x (Some z) r v h = record { some = omega arith }

costly_dropping : (o : Option ℤ) (r : Continuation) (v : Store) (h : Meaning) → Costly (dropping o r v h)
costly_dropping None r v h = record { some = omega arith }
costly_dropping (Some z) r v h = record { some = omega arith }

costly_choosing : (b : Bool) (j : ℕ) (c d : Command) (r : Continuation) (v : Store) (h : Meaning) → Costly (choosing b j c d r v h)
costly_choosing true j c d r v h = record { some = simp (length-append, length-replicate) (omega arith) }
costly_choosing false j c d r v h = record { some = simp (length-append, length-replicate) (omega arith) }

costly_pick : (z : ℤ) (n : ℕ) (o : Option Name) → 1 ≤ pick_cost z (suc n) o
costly_pick z n o = grind arith

module _ (W : World) (p : List Command) where
  -- the source run over n and then d steps
  pub units_more : (n d : ℕ) (s : Stage) → units W p (n + d) s ≡ units W p n s ++ units W p d (stage W p n s)
  units_more zero d s = rw (zero-add d)
  units_more (suc n) d s =
      rw (suc-add n d) (ap (λ (ts : List Tick). (step W p s).units ++ ts) (units_more n d (step W p s).next) ∙
      sym (append_assoc (step W p s).units (units W p n (step W p s).next) (units W p d (stage W p n (step W p s).next))))

  stage_more : (n d : ℕ) (s : Stage) → stage W p (n + d) s ≡ stage W p d (stage W p n s)
  stage_more zero d s = rw (zero-add d)
  stage_more (suc n) d s = rw (suc-add n d) (stage_more n d (step W p s).next)

  pub ended_stage : (n : ℕ) → stage W p n ended ≡ ended
  ended_stage zero = refl
  ended_stage (suc n) = ended_stage n

  pub ended_units : (n : ℕ) → units W p n ended ≡ []
  ended_units zero = refl
  ended_units (suc n) = ended_units n

  -- n steps of the source cost at least N, or end the run
  abbrev pub Far : ℕ → ℕ → Stage → Type 0
  Far N n s = (N ≤ length (units W p n s)) ⊎ (stage W p n s ≡ ended)

  wakes_command : (c : Command) (r : Continuation) (v : Store) (h : Meaning) → ((n : ℕ) × Far 1 n (at r v h)) → (n : ℕ) × Far 1 n (at (command c ∷ r) v h)
  wakes_command (labelled l c) r v h d = let i = wakes_command c r v h d in (suc i.0, i.1)
  wakes_command empty r v h d = (suc d.0, d.1)
  wakes_command (assign x e) r v h d = (1, inl (simp (length-append, length-replicate) (omega arith)))
  wakes_command (go_to l) r v h d = (1, inl (omega arith))
  wakes_command (go_to_of x l ls) r v h d =
      (1, inl (let c = costly_pick (v x) (length ls) (picked (v x) (l ∷ ls)) in simp (length-append, length-replicate) (omega arith)))
  wakes_command (read []) r v h d = (1, inl (costly_dropping (first h.lines) r v (taken h)).some)
  wakes_command (read (x ∷ xs)) r v h d = (1, inl (costly_storing W.words x (first h.lines) (then_read xs r) v (taken h)).some)
  wakes_command (print []) r v h d = (1, inl (costly_making (fits (W.weight line_end) h) line_end 0 r v (marked (W.weight line_end) line_end h)).some)
  wakes_command (print (e ∷ es)) r v h d =
      let m : Mark = number (value W.words v e) in
      (1, inl (costly_making (fits (W.weight m) h) m (cost e) (command (print []) ∷ then_print es r) v (marked (W.weight m) m h)).some)
  wakes_command (branch o e f c d) r v h i =
      (1, inl (costly_choosing (holds o (compared W.words (value W.words v e) (value W.words v f))) (cost e + cost f + 2) c d r v h).some)

  wakes : (r : Continuation) (v : Store) (h : Meaning) → (n : ℕ) × Far 1 n (at r v h)
  wakes [] v h = (1, inl (omega arith))
  wakes (command c ∷ r) v h = wakes_command c r v h (wakes r v h)
  wakes (end_of_then ∷ r) v h = (1, inl (omega arith))

  pub farther : (N n d : ℕ) (s : Stage) → Far N n s → Far N (n + d) s
  farther N n d s (inl l) = inl (rw (units_more n d s) (simp length-append (omega arith)))
  farther N n d s (inr e) = inr (stage_more n d s ∙ ap (stage W p d) e ∙ ended_stage d)

  beyond : (N n d : ℕ) (s t : Stage) → stage W p n s ≡ t → N ≤ length (units W p n s) → Far 1 d t → Far (suc N) (n + d) s
  beyond N n d s t e l (inl g) = inl (rw (units_more n d s, e) (simp length-append (omega arith)))
  beyond N n d s t e l (inr g) = inr (stage_more n d s ∙ ap (stage W p d) e ∙ g)

  pub far : (N : ℕ) (s : Stage) → (n : ℕ) × Far N n s
  far zero s = (0, inl (omega arith))
  far (suc N) s = go (far N s)
    where
      on : (n : ℕ) → N ≤ length (units W p n s) → (t : Stage) → stage W p n s ≡ t → (n : ℕ) × Far (suc N) n s
      on n l ended e = (n, inr e)
      on n l (at r v h) e = let o = wakes r v h in (n + o.0, beyond N n o.0 s (at r v h) e l o.1)

      go : (n : ℕ) × Far N n s → (n : ℕ) × Far (suc N) n s
      go (n, inl l) = on n l (stage W p n s) refl
      go (n, inr e) = (n, inr e)

  module _ (law : Lawful W.words) (k : Layout) (V : Name → Type 0) (L : List ℕ → Type 0) (apart : Apart k V L) (code : List ℕ) (to : Name → ℕ)
      (jumps : (l : Name) → RestAt code k to V L (to l) (find l p)) (h : Meaning) where
    at_rest : {m : State} → Matches W law k V L apart code to ended m → machine_step W code k.used m ≡ m
    at_rest (rests e) = e

    -- what is left of the way after the first step
    onward : (M N n : ℕ) (s : Stage) → Far N (suc n) s → N ≡ length (step W p s).units + M → Far M n (step W p s).next
    onward M N n s (inl l) q = let o = simp length-append at l in inl (omega arith)
    onward M N n s (inr e) q = inr e

    agrees : (n N : ℕ) {s : Stage} {m : State} (o : Observation) → Matches W law k V L apart code to s m → Follows W h o m → Far N n s →
        Follows W h (all_noted o (take N (units W p n s))) (run W code k.used N m)
    agrees zero zero o c f (inl l) = f
    agrees zero (suc N) o c f (inl l) = absurd (omega arith)
    agrees zero N {m = m} o c f (inr e) = rw (still W code k.used N m (at_rest (rw e at c)), take-nil {A = Tick} N) f
    agrees (suc n) N {s = s} o c f g =
        let D = does_step W law k V L apart code to p jumps c in
        notes W code k.used h o D.goes f (units W p n (step W p s).next) N (λ M q l F. agrees n M q D.fits_to F (onward M N n s g l))

module _ (W : World) (law : Lawful W.words) (k : Layout) (p : Program) (placed : Placed k p) (s : List ℤ) (ready : Ready W.words k p s) (h : Meaning) where
  apart : Apart k (Variable p) (Literal p)
  apart = record {
    fixed = placed.fixed;
    variable_past = placed.variable_past;
    variable_used = placed.variable_used;
    variable_own = placed.variable_own;
    literal_past = placed.literal_past;
    literal_own = placed.literal_own;
  }

  first_holds : Holds W.words law k (Variable p) (Literal p) apart zeros s
  first_holds = record {
    size = ready.all_there;
    unit = ap W.words.fit ready.one_held ∙ one_fixed W.words law;
    variables = λ x m. ap W.words.fit (ready.variable_zero x m) ∙ zero_fixed W.words law;
    literals = λ ds m. ap W.words.fit (ready.literal_held ds m) ∙ fit_fixed W.words law _;
    fixed = λ x. zero_fixed W.words law;
  }

  untouched : h ≡ remaining W h nothing
  untouched =
      let z : h.paper ≡ h.paper - 0 = omega arith in
      let m : h.marks ≡ h.marks ++ [] = sym (append-nil h.marks) in
      λ i. record { lines = h.lines; marks = m i; paper = z i }

  -- what is seen after N machine steps, by n source steps that go so far
  pub agrees_after : (n N : ℕ) → Far W (commands p) N n (start W (commands p) h) →
      Follows W h (all_noted nothing (take N (units W (commands p) n (start W (commands p) h)))) (after W k p s h N)
  agrees_after n N f =
      agrees W (commands p) law k (Variable p) (Literal p) apart (code_of k p) (address_of p)
      (λ l. find_at (code_of k p) k (address_of p) (Variable p) (Literal p) l (laid k p placed)) h n N nothing
      (runs (rest_at (code_of k p) k (address_of p) (Variable p) (Literal p) (laid k p placed)) first_holds)
      (record { host = untouched; status = refl; lines = omega arith; paper = omega arith }) f

pub budgeted_runs_settle_lem : BudgetedRunsSettle
budgeted_runs_settle_lem W p h N =
    let t = start W (commands p) h in
    let f = far W (commands p) N t in (
      f.0,
      λ m l.
          let q : m ≡ f.0 + (m - f.0) = omega arith in
          ap (λ (i : ℕ). up_to N (events W p h i)) q ∙
          ap (λ (ts : List Tick). up_to N (timed 0 ts)) (units_more W (commands p) f.0 (m - f.0) t) ∙
          settled f.0 (m - f.0) t f.1,
    )
  where
    settled : (n d : ℕ) (t : Stage) → Far W (commands p) N n t →
        up_to N (timed 0 (units W (commands p) n t ++ units W (commands p) d (stage W (commands p) n t))) ≡ up_to N (timed 0 (units W (commands p) n t))
    settled n d t (inl l) = up_to_more 0 N (units W (commands p) n t) (units W (commands p) d (stage W (commands p) n t)) (omega arith)
    settled n d t (inr e) =
        ap (λ (s : Stage). up_to N (timed 0 (units W (commands p) n t ++ units W (commands p) d s))) e ∙
        ap (λ (ts : List Tick). up_to N (timed 0 (units W (commands p) n t ++ ts))) (ended_units W (commands p) d) ∙
        ap (λ (ts : List Tick). up_to N (timed 0 ts)) (append-nil (units W (commands p) n t))

pub budgeted_runs_agree_lem : BudgetedRunsAgree
budgeted_runs_agree_lem W law k p placed s ready h N =
    let t = start W (commands p) h in
    let f = far W (commands p) N t in (
      f.0,
      λ m l.
          let q : f.0 + (m - f.0) ≡ m = omega arith in
          let F = agrees_after W law k p placed s ready h m N (rw q at (farther W (commands p) N f.0 (m - f.0) t f.1)) in
          shows W h (observed (up_to N (events W p h m))) (after W k p s h N)
          (subst (λ (o : Observation). Follows W h o (after W k p s h N)) (sym (in_time 0 N N nothing (units W (commands p) m t) (omega arith))) F),
    )
