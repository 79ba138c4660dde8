-- The theorems about plans and drafts.
use Rattle.std.specs.Prelude.{ℕ, min}
use Rattle.trees.specs.Trees.{Name}
use Rattle.runs.specs.Code.{Layout}
use Rattle.emission.specs.Draft.{Draft}
use Rattle.emission.specs.declared.action.Action.{Action}
use Rattle.emission.specs.Actions.{perform}
use Rattle.assembly.specs.Plans.{Plan, Rooms, acted}
use Rattle.assembly.specs.Drawn.{Drawn, Refers, Fits, Few}

-- An action on a plan that is drawn from a draft, by a state that was entered at the address a, at a name or a number n that
-- refers to r.
abbrev pub Acts : Type 0
Acts = (y : Layout) (number : Name → ℕ) (q : Rooms) (b : Action) (a : ℕ) (n : Name) (r : ℕ) (d : Draft) (p : Plan) →
    Drawn number d p → Refers number y b n r d p → Few d → Fits q (perform y b a n d) →
    Drawn number (perform y b a n d) (acted q b (min a 65535) r p)
