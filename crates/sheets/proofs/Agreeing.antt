-- The machine on the image of a text shows what the source run of its program shows.
use Rattle.std.proofs.Common.{◌≡◌, ℕ, ◌<◌, ◌≤◌, ◌≢◌, ◌⊎◌, ◌↔◌, List, length, sym, refl, subst}
use Rattle.trees.specs.Trees.{Program}
use Rattle.arithmetic.specs.Words.{Lawful}
use Rattle.arithmetic.specs.Wraps.{wrapping_lawful}
use Rattle.arithmetic.specs.Stops.{stopping_lawful}
use Rattle.host.specs.Meaning.{Meaning}
use Rattle.grammar.proofs.Theorems.{one_reading}
use Rattle.runs.specs.declared.status.Status.TheVariants.{Running, Corrupt}
use Rattle.runs.specs.Events.{World, Observation, observed, up_to}
use Rattle.runs.specs.Source.{events}
use Rattle.runs.specs.Machine.{State, run, count, loaded}
use Rattle.runs.specs.Code.{Layout, code_of}
use Rattle.runs.specs.Placed.{Placed, Ready}
use Rattle.runs.specs.Statements as machine
use Rattle.runs.specs.Statements.{shown, Shows, Costs, Whole}
use Rattle.runs.proofs.Stands.{code_is_sound_lem}
use Rattle.runs.proofs.Whole.{budgeted_runs_agree_lem}
use Rattle.runs.proofs.Close.{whole_run_exactly_when_lem, all_instructions_counted}
use Rattle.sheets.specs.Images.{plain_tokens, Accepts, layout, Image, image_of}
use Rattle.sheets.specs.Runs.{after, carried}
use Rattle.sheets.specs.Laws.{PlacedImage, RunsAgree, SheetRunsAgree}
use Rattle.sheets.proofs.Placing.{accepted_is_placed_lem}
use Rattle.sheets.proofs.Answering.{none_accepts, accepted_image}

-- an image whose code is that of a program, and whose cells are just those in use
module _ (W : World) (law : Lawful W.words) (k : Layout) (p : Program) (pl : Placed k p) (i : Image) (code : i.code ≡ code_of k p) (used : length i.cells ≡ k.used)
    (ready : Ready W.words k p i.cells) (h : Meaning) where
  same_after : (n : ℕ) → machine.after W k p i.cells h n ≡ after W i h n
  same_after n = (λ j. run W (sym code j) (sym used j) n (loaded i.cells h))

  same_carried : (n : ℕ) → machine.carried W k p i.cells h n ≡ carried W i h n
  same_carried n = (λ j. count W (sym code j) (sym used j) n (loaded i.cells h))

  pub runs_agree : RunsAgree W p i h
  runs_agree =
      let whole = whole_run_exactly_when_lem W law k p pl i.cells ready h in
      record {
        agree = λ n.
            let b = budgeted_runs_agree_lem W law k p pl i.cells ready h n in
            (b.0, λ m l. subst (Shows W h (observed (up_to n (events W p h m)))) (same_after n) (b.1 m l));
        one_cost = whole.one_cost;
        one_whole = whole.one_whole;
        exactly = λ n.
            subst (λ (s : State). ((o : Observation) × Whole W p h o × (shown h s ≡ o)) ↔ ((c : ℕ) × Costs W p h c × (c ≤ n))) (same_after n) (whole.exactly n);
        counted = λ n.
            subst (λ (s : State). ((s.status ≡ Running) × (carried W i h n ≡ n) × ((c : ℕ) → Costs W p h c → n < c)) ⊎ ((c : ℕ) × Costs W p h c × (c ≤ n) × (carried W i h n ≡ c)))
            (same_after n)
            (subst (λ (t : ℕ). (((machine.after W k p i.cells h n).status ≡ Running) × (t ≡ n) × ((c : ℕ) → Costs W p h c → n < c)) ⊎ ((c : ℕ) × Costs W p h c × (c ≤ n) × (t ≡ c)))
            (same_carried n) (all_instructions_counted W law k p pl i.cells ready h n));
        sound = λ n a. subst (λ (s : State). s.status ≢ Corrupt a) (same_after n) (code_is_sound_lem.runs W k p pl i.cells h n a);
      }

accepted : (W : World) → Lawful W.words → (text : List ℕ) (p : Program) → Accepts W.words text p → (h : Meaning) → RunsAgree W p (image_of W.words text p) h
accepted W law text p a h =
    let q : PlacedImage W.words text p = accepted_is_placed_lem W.words text p a in
    runs_agree W law (layout W.words (plain_tokens text)) p q.placed (image_of W.words text p) refl q.cells_used q.ready h

pub sheet_runs_agree_lem : SheetRunsAgree
sheet_runs_agree_lem = record {
  lawful = (wrapping_lawful, stopping_lawful);
  accepted = accepted;
  computed = λ W law text e.
      let a = none_accepts W.words text e in
      record {
        program = a.0;
        reads = a.1.parses;
        only = λ q d. one_reading (plain_tokens text) q a.0 d a.1.parses;
        loads = accepted_image W.words text a.0 a.1;
        runs = accepted W law text a.0 a.1;
      };
}
