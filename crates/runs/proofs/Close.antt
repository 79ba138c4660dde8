-- A run that closes: its last unit is the close, and before it the run is open.
use Rattle.std.proofs.Common.{◌≡◌, ℕ, zero, suc, ◌+◌, ◌-◌, ◌<◌, ◌≤◌, Bool, true, false, ◌≢◌, ◌⊎◌, List, [], ◌∷◌, ◌++◌, length, take, ℤ, Some, None, Option, sym, refl, ap, ◌∙◌, subst, inl, inr, append-nil, add_comm, arith}
use native.Mathlib.Decide.{dec_le}
use Rattle.std.proofs.lemmas.List.{take_all}
use Rattle.trees.specs.Trees.{Name, Command, labelled, empty, assign, go_to, go_to_of, read, print, branch, Program, commands}
use Rattle.arithmetic.specs.Words.{Words, Lawful}
use Rattle.host.specs.Meaning.{Meaning, first, taken, fits, marked}
use Rattle.runs.specs.Names.{Store}
use Rattle.runs.specs.Events.{World, Mark, number, line_end, Status, Running, Stopped, NoLine, NoPaper, Corrupt, Close, status_of, Event, line, mark, close, Observation, nothing, observe, observed_from, observed, Tick, quiet, does, Timed, timed, every}
use Rattle.runs.specs.Source.{value, cost, compared, holds, command, end_of_then, Continuation, then_read, then_print, quiets, Stage, at, ended, making, storing, dropping, choosing, picked, pick_cost, perform, step, units, stage, start, events}
use Rattle.runs.specs.Machine.{Instruction, State, fetch, counted, count, loaded}
use Rattle.runs.specs.Machine.{step as machine_step}
use Rattle.runs.specs.Code.{Layout, code_of}
use Rattle.runs.specs.Placed.{Among, Placed, Ready}
use Rattle.runs.specs.Statements.{after, carried, shown, closing, Costs, Whole, WholeExactly, WholeRunExactlyWhen, InstructionsCounted}
use Rattle.runs.proofs.Cut.{run_more, count_more, none_more, all_counted, open_or_closed}
use Rattle.runs.proofs.Goes.{all_noted, Follows, shown_from}
use Rattle.runs.proofs.Stands.{never}
use Rattle.runs.proofs.Whole.{units_more, ended_units, ended_stage, Far, far, agrees_after}

-- units none of which closes; and units of which the last closes, and no other
data Open : List Tick → Type 0 where
  open_none : Open []
  open_quiet : {ts : List Tick} → Open ts → Open (quiet ∷ ts)
  open_line : {ts : List Tick} → Open ts → Open (does line ∷ ts)
  open_mark : {m : Mark} {ts : List Tick} → Open ts → Open (does (mark m) ∷ ts)

data Shut : List Tick → Close → Type 0 where
  shut_last : {e : Close} → Shut (does (close e) ∷ []) e
  shut_quiet : {ts : List Tick} {e : Close} → Shut ts e → Shut (quiet ∷ ts) e
  shut_line : {ts : List Tick} {e : Close} → Shut ts e → Shut (does line ∷ ts) e
  shut_mark : {m : Mark} {ts : List Tick} {e : Close} → Shut ts e → Shut (does (mark m) ∷ ts) e

open_join : {ts us : List Tick} → Open ts → Open us → Open (ts ++ us)
open_join open_none u = u
open_join (open_quiet o) u = open_quiet (open_join o u)
open_join (open_line o) u = open_line (open_join o u)
open_join (open_mark o) u = open_mark (open_join o u)

shut_join : {ts us : List Tick} {e : Close} → Open ts → Shut us e → Shut (ts ++ us) e
shut_join open_none u = u
shut_join (open_quiet o) u = shut_quiet (shut_join o u)
shut_join (open_line o) u = shut_line (shut_join o u)
shut_join (open_mark o) u = shut_mark (shut_join o u)

open_quiets : (n : ℕ) → Open (quiets n)
open_quiets zero = open_none
open_quiets (suc n) = open_quiet (open_quiets n)

closed_not_running : (e : Close) → status_of e ≢ Running
closed_not_running e w = grind arith

-- a step, or a stretch of the run, leaves it open, or shuts it
data Outcome (ts : List Tick) (t : Stage) : Type 0 where
  stays : Open ts → Outcome ts t
  shuts : {e : Close} → Shut ts e → t ≡ ended → Outcome ts t

made : (b : Bool) (m : Mark) (j : ℕ) (r : Continuation) (v : Store) (h : Meaning) → Outcome (making b m j r v h).units (making b m j r v h).next
made false m j r v h = shuts (shut_join (open_quiets j) shut_last) refl
made true m j r v h = stays (open_join (open_quiets j) (open_mark open_none))

stored : (w : Words) (x : Name) (o : Option ℤ) (r : Continuation) (v : Store) (h : Meaning) → Outcome (storing w x o r v h).units (storing w x o r v h).next
stored w x None r v h = shuts shut_last refl
stored w x (Some z) r v h = stays (open_line (open_quiet open_none))

dropped : (o : Option ℤ) (r : Continuation) (v : Store) (h : Meaning) → Outcome (dropping o r v h).units (dropping o r v h).next
dropped None r v h = shuts shut_last refl
dropped (Some z) r v h = stays (open_line open_none)

chose : (b : Bool) (j : ℕ) (c d : Command) (r : Continuation) (v : Store) (h : Meaning) → Outcome (choosing b j c d r v h).units (choosing b j c d r v h).next
chose true j c d r v h = stays (open_quiets (j + 1))
chose false j c d r v h = stays (open_quiets (j + 2))

module _ (W : World) (p : List Command) where
  performed : (c : Command) (r : Continuation) (v : Store) (h : Meaning) → Outcome (perform W p c r v h).units (perform W p c r v h).next
  performed (labelled l c) r v h = stays open_none
  performed empty r v h = stays open_none
  performed (assign x e) r v h = stays (open_quiets (cost e + 1))
  performed (go_to l) r v h = stays (open_quiet open_none)
  performed (go_to_of x l ls) r v h = stays (open_quiets (pick_cost (v x) (suc (length ls)) (picked (v x) (l ∷ ls))))
  performed (read []) r v h = dropped (first h.lines) r v (taken h)
  performed (read (x ∷ xs)) r v h = stored W.words x (first h.lines) (then_read xs r) v (taken h)
  performed (print []) r v h = made (fits (W.weight line_end) h) line_end 0 r v (marked (W.weight line_end) line_end h)
  performed (print (e ∷ es)) r v h =
      let m : Mark = number (value W.words v e) in
      made (fits (W.weight m) h) m (cost e) (command (print []) ∷ then_print es r) v (marked (W.weight m) m h)
  performed (branch o e f c d) r v h = chose (holds o (compared W.words (value W.words v e) (value W.words v f))) (cost e + cost f + 2) c d r v h

  stepped : (s : Stage) → Outcome (step W p s).units (step W p s).next
  stepped ended = stays open_none
  stepped (at [] v h) = shuts shut_last refl
  stepped (at (command c ∷ r) v h) = performed c r v h
  stepped (at (end_of_then ∷ r) v h) = stays (open_quiet open_none)

  outcome : (n : ℕ) (s : Stage) → Outcome (units W p n s) (stage W p n s)
  outcome zero s = stays open_none
  outcome (suc n) s = go (step W p s).next refl (stepped s) (outcome n (step W p s).next)
    where
      go : (t : Stage) → (step W p s).next ≡ t → Outcome (step W p s).units t → Outcome (units W p n t) (stage W p n t) → Outcome ((step W p s).units ++ units W p n t) (stage W p n t)
      go t i (stays o) (stays u) = stays (open_join o u)
      go t i (stays o) (shuts u e) = shuts (shut_join o u) e
      go t i (shuts {e = z} o e) u =
          shuts {e = z} (rw (e, ended_units W p n, append-nil) o) (ap (stage W p n) e ∙ ended_stage W p n)

  -- after its end a run has no more units
  units_after : (n d : ℕ) (s : Stage) → stage W p n s ≡ ended → units W p (n + d) s ≡ units W p n s
  units_after n d s e = units_more W p n d s ∙ ap (λ (t : Stage). units W p n s ++ units W p d t) e ∙ ap (λ (ts : List Tick). units W p n s ++ ts) (ended_units W p d) ∙ append-nil (units W p n s)

  one_end : (n m : ℕ) (s : Stage) → stage W p n s ≡ ended → stage W p m s ≡ ended → units W p n s ≡ units W p m s
  one_end n m s e f = sym (units_after n m s e) ∙ ap (λ (i : ℕ). units W p i s) (add_comm n m) ∙ units_after m n s f

-- what the units add up to
open_running : {ts : List Tick} (o : Observation) → Open ts → (all_noted o ts).status ≡ o.status
open_running o open_none = refl
open_running o (open_quiet u) = open_running o u
open_running o (open_line u) = open_running (observe line o) u
open_running o (open_mark {m = m} u) = open_running (observe (mark m) o) u

shut_status : {ts : List Tick} {e : Close} (o : Observation) → Shut ts e → (all_noted o ts).status ≡ status_of e
shut_status o shut_last = refl
shut_status o (shut_quiet u) = shut_status o u
shut_status o (shut_line u) = shut_status (observe line o) u
shut_status o (shut_mark {m = m} u) = shut_status (observe (mark m) o) u

before : {ts : List Tick} {e : Close} (N : ℕ) → Shut ts e → N < length ts → Open (take N ts)
before zero o l = open_none
before (suc N) shut_last l = absurd (omega arith)
before (suc N) (shut_quiet o) l = open_quiet (before N o (omega arith))
before (suc N) (shut_line o) l = open_line (before N o (omega arith))
before (suc N) (shut_mark o) l = open_mark (before N o (omega arith))

open_take : {ts : List Tick} (N : ℕ) → Open ts → Open (take N ts)
open_take zero o = open_none
open_take (suc N) open_none = open_none
open_take (suc N) (open_quiet o) = open_quiet (open_take N o)
open_take (suc N) (open_line o) = open_line (open_take N o)
open_take (suc N) (open_mark o) = open_mark (open_take N o)

noted_every : (c : ℕ) (o : Observation) (ts : List Tick) → observed_from o (every (timed c ts)) ≡ all_noted o ts
noted_every c o [] = refl
noted_every c o (quiet ∷ ts) = noted_every (suc c) o ts
noted_every c o (does h ∷ ts) = noted_every (suc c) (observe h o) ts

-- an open stretch has no close, and that of a shut one costs what the whole does
abbrev what : Timed → Event
what t = t.event

no_close : {ts : List Tick} (c d : ℕ) (e : Close) → Open ts → Among (closing c e) (timed d ts) → ⊥
no_close c d e open_none h = h
no_close c d e (open_quiet o) h = no_close c (suc d) e o h
no_close c d e (open_line o) (inl q) = let z : ◌≡◌ {A = ℕ} 0 1 = cc (ap what q) in omega arith
no_close c d e (open_line o) (inr h) = no_close c (suc d) e o h
no_close c d e (open_mark o) (inl q) = let z : ◌≡◌ {A = ℕ} 0 1 = cc (ap what q) in omega arith
no_close c d e (open_mark o) (inr h) = no_close c (suc d) e o h

close_cost : {ts : List Tick} {f : Close} (c d : ℕ) (e : Close) → Shut ts f → Among (closing c e) (timed d ts) → c ≡ d + length ts
close_cost c d e shut_last (inl q) = let z : c ≡ suc d = ap (λ (t : Timed). t.cost) q in omega arith
close_cost c d e shut_last (inr q) = absurd q
close_cost c d e (shut_quiet o) h = let z = close_cost c (suc d) e o h in omega arith
close_cost c d e (shut_line o) (inl q) = let z : ◌≡◌ {A = ℕ} 0 1 = cc (ap what q) in absurd (omega arith)
close_cost c d e (shut_line o) (inr h) = let z = close_cost c (suc d) e o h in omega arith
close_cost c d e (shut_mark o) (inl q) = let z : ◌≡◌ {A = ℕ} 0 1 = cc (ap what q) in absurd (omega arith)
close_cost c d e (shut_mark o) (inr h) = let z = close_cost c (suc d) e o h in omega arith

close_there : {ts : List Tick} {e : Close} (c d : ℕ) → Shut ts e → c ≡ d + length ts → Among (closing c e) (timed d ts)
close_there {e = e} c d shut_last q = let z : c ≡ suc d = omega arith in inl (ap (λ (n : ℕ). closing n e) z)
close_there c d (shut_quiet o) q = close_there c (suc d) o (omega arith)
close_there c d (shut_line o) q = inr (close_there c (suc d) o (omega arith))
close_there c d (shut_mark o) q = inr (close_there c (suc d) o (omega arith))

-- what an entry of a close says
record Closing (W : World) (p : Program) (h : Meaning) (n c : ℕ) : Type 0 where
  how : Close
  shut : Shut (units W (commands p) n (start W (commands p) h)) how
  at_end : stage W (commands p) n (start W (commands p) h) ≡ ended
  costs : c ≡ length (units W (commands p) n (start W (commands p) h))

closing_from : (W : World) (p : Program) (h : Meaning) (n c : ℕ) (e : Close) → Among (closing c e) (events W p h n) → Closing W p h n c
closing_from W p h n c e m = go (outcome W (commands p) n (start W (commands p) h))
  where
    go : Outcome (units W (commands p) n (start W (commands p) h)) (stage W (commands p) n (start W (commands p) h)) → Closing W p h n c
    go (stays o) = absurd (no_close c 0 e o m)
    go (shuts {e = f} o q) = let z = close_cost c 0 e o m in record { how = f; shut = o; at_end = q; costs = omega arith }

module _ (W : World) (law : Lawful W.words) (k : Layout) (p : Program) (placed : Placed k p) (s : List ℤ) (ready : Ready W.words k p s) (h : Meaning) where
  abbrev ticks : ℕ → List Tick
  ticks n = units W (commands p) n (start W (commands p) h)

  -- after N steps, of a run that closes within n source steps
  follows : (n c N : ℕ) → Closing W p h n c → Follows W h (all_noted nothing (take N (ticks n))) (after W k p s h N)
  follows n c N C = agrees_after W law k p placed s ready h n N (inr C.at_end)

  still_open : (n c N : ℕ) → Closing W p h n c → N < c → (after W k p s h N).status ≡ Running
  still_open n c N C l = let q = C.costs in (follows n c N C).status ∙ open_running nothing (before N C.shut (omega arith))

  all_seen : (n c N : ℕ) → Closing W p h n c → c ≤ N → Follows W h (all_noted nothing (ticks n)) (after W k p s h N)
  all_seen n c N C l =
      let q = C.costs in
      subst (λ (ts : List Tick). Follows W h (all_noted nothing ts) (after W k p s h N)) (take_all N (ticks n) (omega arith)) (follows n c N C)

  now_closed : (n c N : ℕ) → Closing W p h n c → c ≤ N → (after W k p s h N).status ≢ Running
  now_closed n c N C l w = closed_not_running C.how (sym (shut_status nothing C.shut) ∙ sym (all_seen n c N C l).status ∙ w)

  one_cost : (c d : ℕ) → Costs W p h c → Costs W p h d → c ≡ d
  one_cost c d (m, e, x) (n, f, y) =
      let C = closing_from W p h m c e x in let D = closing_from W p h n d f y in
      C.costs ∙ ap length (one_end W (commands p) m n (start W (commands p) h) C.at_end D.at_end) ∙ sym D.costs

  one_whole : (o q : Observation) → Whole W p h o → Whole W p h q → o ≡ q
  one_whole o q (m, c, e, x, i) (n, d, f, y, j) =
      let C = closing_from W p h m c e x in let D = closing_from W p h n d f y in
      i ∙ ap (λ (ts : List Tick). observed (every (timed 0 ts))) (one_end W (commands p) m n (start W (commands p) h) C.at_end D.at_end) ∙ sym j

  whole_shown : (m c N : ℕ) → Closing W p h m c → c ≤ N → shown h (after W k p s h N) ≡ observed (every (events W p h m))
  whole_shown m c N C l = shown_from W h (all_noted nothing (ticks m)) (after W k p s h N) (all_seen m c N C l) ∙ sym (noted_every 0 nothing (ticks m))

  only_then : (N : ℕ) → (o : Observation) × Whole W p h o × (shown h (after W k p s h N) ≡ o) → (c : ℕ) × Costs W p h c × (c ≤ N)
  only_then N (o, (m, c, e, x, i), g) =
      let C = closing_from W p h m c e x in
      elim (dec_le c N) [
        | yes l ↦ (c, (m, e, x), l)
        | no l ↦ absurd (closed_not_running C.how
            (sym (shut_status nothing C.shut) ∙ ap (λ (q : Observation). q.status) (sym (noted_every 0 nothing (ticks m)) ∙ sym i ∙ sym g) ∙ still_open m c N C (omega arith)))
      ]

  then_so : (N : ℕ) → (c : ℕ) × Costs W p h c × (c ≤ N) → (o : Observation) × Whole W p h o × (shown h (after W k p s h N) ≡ o)
  then_so N (c, (m, e, x), l) = (observed (every (events W p h m)), (m, c, e, x, refl), whole_shown m c N (closing_from W p h m c e x) l)

  whole_exactly : WholeExactly W k p s h
  whole_exactly = record { one_cost = one_cost; one_whole = one_whole; exactly = λ N. (only_then N, then_so N) }

  -- counts
  one_counted : (t : Status) (o : Option Instruction) (m : State) → m.status ≡ t → fetch (code_of k p) k.used m.address ≡ o → t ≡ Running →
      ((a : ℕ) → (machine_step W (code_of k p) k.used m).status ≢ Corrupt a) → counted t o ≡ 1
  one_counted Running (Some i) m e f r q = refl
  one_counted Running None m e f r q = absurd (q m.address (rw (e, f)))
  one_counted Stopped o m e f r q = grind arith
  one_counted NoLine o m e f r q = grind arith
  one_counted NoPaper o m e f r q = grind arith
  one_counted (Corrupt a) o m e f r q = grind arith

  -- the instructions up to the close, and none after it
  up_to_close : (n c : ℕ) → Closing W p h n c → carried W k p s h c ≡ c
  up_to_close n zero C = refl
  up_to_close n (suc c) C =
      let m : State = after W k p s h c in
      let r : m.status ≡ Running = still_open n (suc c) c C (omega arith) in
      let i : carried W k p s h c ≡ c = all_counted W (code_of k p) k.used c (loaded s h) r in
      let e : suc c ≡ c + 1 = omega arith in
      let j : count W (code_of k p) k.used (c + 1) (loaded s h) ≡ carried W k p s h c + count W (code_of k p) k.used 1 m = count_more W (code_of k p) k.used c 1 (loaded s h) in
      let g : counted m.status (fetch (code_of k p) k.used m.address) ≡ 1 =
      one_counted m.status (fetch (code_of k p) k.used m.address) m refl refl r
      (λ a q. never k p placed W s h (c + 1) a (ap (λ (x : State). x.status) (run_more W (code_of k p) k.used c 1 (loaded s h)) ∙ q)) in
      ap (carried W k p s h) e ∙ j ∙ omega arith

  closed_count : (n c N : ℕ) → Closing W p h n c → c ≤ N → carried W k p s h N ≡ c
  closed_count n c N C l =
      let e : N ≡ c + (N - c) = omega arith in
      let i = up_to_close n c C in
      let j = none_more W (code_of k p) k.used (N - c) (after W k p s h c) (now_closed n c c C (omega arith)) in
      ap (carried W k p s h) e ∙ count_more W (code_of k p) k.used c (N - c) (loaded s h) ∙ omega arith

  instructions_counted_lem : (N : ℕ) →
      (((after W k p s h N).status ≡ Running) × (carried W k p s h N ≡ N) × ((c : ℕ) → Costs W p h c → N < c)) ⊎
      ((c : ℕ) × Costs W p h c × (c ≤ N) × (carried W k p s h N ≡ c))
  instructions_counted_lem N = go (open_or_closed W (code_of k p) k.used (after W k p s h N).status)
    where
      t : Stage
      t = start W (commands p) h

      later : (after W k p s h N).status ≡ Running → (c : ℕ) → Costs W p h c → N < c
      later r c (m, e, x) = elim (dec_le (suc N) c) [ yes l ↦ l | no l ↦ absurd (now_closed m c N (closing_from W p h m c e x) (omega arith) r) ]

      found : (n : ℕ) → (after W k p s h N).status ≢ Running → Far W (commands p) N n (start W (commands p) h) → Outcome (ticks n) (stage W (commands p) n (start W (commands p) h)) →
          (c : ℕ) × Costs W p h c × (c ≤ N) × (carried W k p s h N ≡ c)
      found n r f (stays o) = absurd (r ((agrees_after W law k p placed s ready h n N f).status ∙ open_running nothing (open_take N o)))
      found n r f (shuts {e = e} o q) =
          let x : Among (closing (length (ticks n)) e) (events W p h n) = close_there (length (ticks n)) 0 o (omega arith) in
          let C = closing_from W p h n (length (ticks n)) e x in
          let l : length (ticks n) ≤ N = elim (dec_le (length (ticks n)) N) [ yes l ↦ l | no l ↦ absurd (r (still_open n (length (ticks n)) N C (omega arith))) ] in
          (length (ticks n), (n, e, x), l, closed_count n (length (ticks n)) N C l)

      go : ((after W k p s h N).status ≡ Running) ⊎ ((after W k p s h N).status ≢ Running) →
          (((after W k p s h N).status ≡ Running) × (carried W k p s h N ≡ N) × ((c : ℕ) → Costs W p h c → N < c)) ⊎
          ((c : ℕ) × Costs W p h c × (c ≤ N) × (carried W k p s h N ≡ c))
      go (inl r) = inl (r, all_counted W (code_of k p) k.used N (loaded s h) r, later r)
      go (inr r) = let f = far W (commands p) N (start W (commands p) h) in inr (found f.0 r f.1 (outcome W (commands p) f.0 (start W (commands p) h)))

pub whole_run_exactly_when_lem : WholeRunExactlyWhen
whole_run_exactly_when_lem = whole_exactly

pub all_instructions_counted : InstructionsCounted
all_instructions_counted = instructions_counted_lem
