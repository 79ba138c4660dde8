-- One step more of a run, and none after its close.
use Rattle.std.proofs.Common.{◌≡◌, ℕ, zero, suc, ◌+◌, ◌-◌, ◌<◌, ◌⊎◌, List, Option, sym, refl, ap, ◌∙◌, subst, inl, inr, arith}
use Rattle.runs.specs.Events.{World}
use Rattle.runs.specs.Machine.{State, fetch, move, counted, step, run, count}
use Rattle.runs.specs.declared.instruction.Instruction.{Instruction}
use Rattle.runs.specs.declared.status.Status.{Status}
use Rattle.runs.specs.declared.status.Status.TheVariants.{Running, Stopped, NoLine, NoPaper, Corrupt}

-- the run is closed
abbrev pub Closed : Status → Type 0
Closed Running = ⊥
Closed Stopped = Unit {0}
Closed NoLine = Unit {0}
Closed NoPaper = Unit {0}
Closed (Corrupt a) = Unit {0}

still_counted : (t : Status) → Closed t → (o : Option Instruction) → counted t o ≡ 0
still_counted t s o = grind arith

none_or_one : (t : Status) (o : Option Instruction) → (0 ≡ counted t o) ⊎ (1 ≡ counted t o)
none_or_one t o = grind arith

module _ (W : World) where
  still_move : (t : Status) → Closed t → (o : Option Instruction) (m : State) → move W t o m ≡ m
  still_move t s o m = grind arith

  -- where nothing is counted, the run is closed after the step
  uncounted : (t : Status) (o : Option Instruction) (m : State) → t ≡ m.status → 0 ≡ counted t o → Closed (move W t o m).status
  uncounted t o m e c = grind arith

  module _ (code : List ℕ) (used : ℕ) where
    -- a closed run moves nothing and counts nothing
    pub run_closed : (n : ℕ) (m : State) → Closed m.status → run W code used n m ≡ m
    run_closed zero m s = refl
    run_closed (suc n) m s = ap (run W code used n) (still_move m.status s (fetch code used m.address) m) ∙ run_closed n m s

    pub count_closed : (n : ℕ) (m : State) → Closed m.status → count W code used n m ≡ 0
    count_closed zero m s = refl
    count_closed (suc n) m s =
        let c = still_counted m.status s (fetch code used m.address) in
        let r = ap (count W code used n) (still_move m.status s (fetch code used m.address) m) ∙ count_closed n m s in
        omega (arith, c, r)

    -- a step of what is left of a budget
    pub on_run : (b d : ℕ) (m v : State) → d < b → v ≡ step W code used m → run W code used (b - (d + 1)) v ≡ run W code used (b - d) m
    on_run b d m v h e =
        let p : b - d ≡ suc (b - (d + 1)) = omega arith in
        ap (run W code used (b - (d + 1))) e ∙ sym (ap (λ n. run W code used n m) p)

    pub on_count : (b d : ℕ) (m v : State) → d < b → v ≡ step W code used m → 1 ≡ counted m.status (fetch code used m.address) →
        (d + 1) + count W code used (b - (d + 1)) v ≡ d + count W code used (b - d) m
    on_count b d m v h e c =
        let p : b - d ≡ suc (b - (d + 1)) = omega arith in
        let q = ap (λ n. count W code used n m) p in
        let r = ap (count W code used (b - (d + 1))) e in
        omega (arith, q, r, c)

    -- a step that is not counted is the last that matters
    pub off_run : (b d : ℕ) (m v : State) → d < b → v ≡ step W code used m → 0 ≡ counted m.status (fetch code used m.address) → v ≡ run W code used (b - d) m
    off_run b d m v h e c =
        e ∙ sym (run_closed (b - (d + 1)) (step W code used m) (uncounted m.status (fetch code used m.address) m refl c)) ∙
        ap (run W code used (b - (d + 1))) (sym e) ∙ on_run b d m v h e

    pub off_count : (b d : ℕ) (m v : State) → d < b → v ≡ step W code used m → 0 ≡ counted m.status (fetch code used m.address) → d ≡ d + count W code used (b - d) m
    off_count b d m v h e c =
        let p : b - d ≡ suc (b - (d + 1)) = omega arith in
        let q = ap (λ n. count W code used n m) p in
        let r = count_closed (b - (d + 1)) (step W code used m) (uncounted m.status (fetch code used m.address) m refl c) in
        omega (arith, q, r, c)

    -- a run that is open at the end carried out an instruction in each step
    pub full : (n : ℕ) (m : State) → (run W code used n m).status ≡ Running → count W code used n m ≡ n
    full zero m e = refl
    full (suc n) m e =
        let r = full n (step W code used m) e in
        elim (none_or_one m.status (fetch code used m.address)) [
          | inl c ↦
              absurd (
              subst Closed (ap (λ s. s.status) (sym (run_closed n (step W code used m) (uncounted m.status (fetch code used m.address) m refl c))) ∙ e)
              (uncounted m.status (fetch code used m.address) m refl c)
              )
          | inr c ↦ omega (arith, c, r)
        ]
