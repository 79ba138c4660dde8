-- A run changes no cell beyond those in use.
use Rattle.std.proofs.Common.{◌≡◌, ℕ, zero, suc, List, drop, refl, ap, ◌∙◌, arith}
use Rattle.std.proofs.lemmas.List.{drop-set-lt}
use Rattle.std.proofs.lemmas.Bool.Decides.{nat_tests}
use Rattle.runs.specs.Events.{World}
use Rattle.runs.specs.Machine.{State, step, run}

module _ (W : World) (code : List ℕ) (used : ℕ) where
  step_keeps : (m : State) → drop used (step W code used m).cells ≡ drop used m.cells
  step_keeps m = grind (arith, nat_tests, drop-set-lt)

  run_keeps : (n : ℕ) (m : State) → drop used (run W code used n m).cells ≡ drop used m.cells
  run_keeps zero m = refl
  run_keeps (suc n) m = run_keeps n (step W code used m) ∙ step_keeps m

  pub kept_beyond : (n : ℕ) (m v : State) → v ≡ run W code used n m → drop used v.cells ≡ drop used m.cells
  kept_beyond n m v e = ap (λ (s : State). drop used s.cells) e ∙ run_keeps n m
