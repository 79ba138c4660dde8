-- The translator refuses what the recogniser refuses.
use Rattle.std.proofs.Common.{◌≡◌, ℕ, List, [], ◌∷◌, sym, refl, ap, ◌∙◌, arith}
use mathlib.Core.Option.{some, map}
use Rattle.token.specs.Tokens.{Token}
use Rattle.runs.specs.Code.{Layout}
use Rattle.grammar.specs.Machine.{choose}
use Rattle.grammar.specs.Recogniser.{stack_rows, stack_step, reach}
use Rattle.grammar.proofs.Erase.{map_rows, choose_map, run_map}
use Rattle.emission.specs.Draft.{Draft}
use Rattle.emission.specs.Table.{State, Return, entered, Translator, draft_rows, translator_rows, draft_step, outset, translated}
use Rattle.emission.specs.Control.{control, control_in}

module _ (y : Layout) where
  by_state : (s : State) (a : ℕ) (k : List Return) (d : Draft) → ((e : Draft) → map_rows control_in (draft_rows y k e) ≡ stack_rows (control k)) →
      map_rows control_in (draft_rows y (entered a s ∷ k) d) ≡ stack_rows (control (entered a s ∷ k))
  by_state s a k d h = grind arith

  control_rows : (k : List Return) (d : Draft) → map_rows control_in (draft_rows y k d) ≡ stack_rows (control k)
  control_rows [] d = refl
  control_rows (r ∷ k) d = by_state r.state r.address k d (control_rows k)

  pub control_step : (x : Translator) (t : Token) → map control_in (draft_step y x t) ≡ stack_step (control_in x) t
  control_step x t = sym (choose_map control_in (translator_rows y x) t) ∙ ap (λ z. choose z t) (control_rows x.stack x.made)

  pub control_reach : (ts : List Token) → map control_in (translated y ts) ≡ reach ts
  control_reach ts = sym (run_map control_in (translator_rows y) stack_rows (λ x. control_rows x.stack x.made) (some (outset y)) ts)
