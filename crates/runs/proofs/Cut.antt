-- Steps may be cut anywhere; a closed machine stands still; counts.
use Rattle.std.proofs.Common.{◌≡◌, ℕ, zero, suc, ◌+◌, ◌≢◌, ◌⊎◌, List, Some, None, Option, sym, refl, ap, ◌∙◌, inl, inr, suc-add, zero-add, arith as lin}
use Rattle.runs.specs.Events.{World, Status, Running, Stopped, NoLine, NoPaper, Corrupt}
use Rattle.runs.specs.Machine.{Instruction, fetch, State, move, counted, step, run, count}
use Rattle.runs.specs.Statements.{StepsMayBeCut}

module _ (W : World) (code : List ℕ) (used : ℕ) where
  pub run_more : (n d : ℕ) (m : State) → run W code used (n + d) m ≡ run W code used d (run W code used n m)
  run_more zero d m = rw (zero-add d)
  run_more (suc n) d m = rw (suc-add n d) (run_more n d (step W code used m))

  pub count_more : (n d : ℕ) (m : State) → count W code used (n + d) m ≡ count W code used n m + count W code used d (run W code used n m)
  count_more zero d m = rw (zero-add d) (omega lin)
  count_more (suc n) d m = rw (suc-add n d) (let i = count_more n d (step W code used m) in omega lin)

  -- a closed machine stands still, and counts nothing
  still_by : (t : Status) (o : Option Instruction) (m : State) → t ≢ Running → move W t o m ≡ m
  still_by t o m e = grind lin

  none_by : (t : Status) (o : Option Instruction) → t ≢ Running → counted t o ≡ 0
  none_by t o e = grind lin

  pub still_step : (m : State) → m.status ≢ Running → step W code used m ≡ m
  still_step m e = still_by m.status (fetch code used m.address) m e

  pub still : (n : ℕ) (m : State) → step W code used m ≡ m → run W code used n m ≡ m
  still zero m e = refl
  still (suc n) m e = ap (run W code used n) e ∙ still n m e

  pub none_more : (n : ℕ) (m : State) → m.status ≢ Running → count W code used n m ≡ 0
  none_more zero m e = refl
  none_more (suc n) m e =
      let z = none_by m.status (fetch code used m.address) e in
      let y = ap (count W code used n) (still_step m e) in
      let x = none_more n m e in
      omega lin

  -- whether a run is open
  pub open_or_closed : (t : Status) → (t ≡ Running) ⊎ (t ≢ Running)
  open_or_closed t = grind lin

  -- while it is open, each step counts
  pub all_counted : (n : ℕ) (m : State) → (run W code used n m).status ≡ Running → count W code used n m ≡ n
  all_counted zero m e = refl
  all_counted (suc n) m e = go (open_or_closed m.status) (all_counted n (step W code used m) e)
    where
      fetched : (t : Status) (o : Option Instruction) → t ≡ Running → fetch code used m.address ≡ o → m.status ≡ t → counted t o ≡ 1
      fetched Running (Some i) q f g = refl
      fetched Running None q f g =
          let s : (step W code used m).status ≡ Corrupt m.address = rw (g, f) in
          let d : (step W code used m).status ≢ Running = λ w. grind lin in
          let z : ◌≡◌ {A = ℕ} 0 1 = cc (s, ap (λ (x : State). x.status) (still n (step W code used m) (still_step (step W code used m) d)), e) in
          absurd (omega lin)
      fetched Stopped o q f g = grind lin
      fetched NoLine o q f g = grind lin
      fetched NoPaper o q f g = grind lin
      fetched (Corrupt a) o q f g = grind lin

      go : (m.status ≡ Running) ⊎ (m.status ≢ Running) → count W code used n (step W code used m) ≡ n → count W code used (suc n) m ≡ suc n
      go (inl q) i = let f = fetched m.status (fetch code used m.address) q refl refl in omega lin
      go (inr q) i =
          let z : ◌≡◌ {A = ℕ} 0 1 = absurd (q (sym (ap (λ (x : State). x.status) (ap (run W code used n) (still_step m q) ∙ still n m (still_step m q))) ∙ e)) in
          absurd (omega lin)

pub steps_may_be_cut_lem : StepsMayBeCut
steps_may_be_cut_lem W code used n m s = (run_more W code used n m s, count_more W code used n m s)
