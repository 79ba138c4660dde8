-- The theorems about one token at the stack of returns.
use Rattle.std.specs.Prelude.{◌≡◌, ℕ, ◌≤◌, min, ◌⊎◌, List, ◌∷◌, ◌++◌, map, length}
use Rattle.token.specs.Tokens.{Token}
use Rattle.trees.specs.Trees.{Name}
use Rattle.runs.specs.Code.{Layout}
use Rattle.emission.specs.Draft.{Draft}
use Rattle.emission.specs.declared.state.State.{State}
use Rattle.emission.specs.Table.{Return, all_entered}
use Rattle.emission.specs.Returns.{AllBelow}
use Rattle.assembly.specs.Plans.{Plan, Rooms}
use Rattle.assembly.specs.Drawn.{Drawn, Fits, Few}
use Rattle.reading.specs.Steps.{return_code, pushed_all, Kept, Takes, Refuses}

pub record Leaves : Type 0 where
  -- states are left in memory as in the definitions, until one takes the token or none does
  pub found : (number : Name → ℕ) (y : Layout) (q : Rooms) (t : Token) (s : Return) (k : List Return) (d : Draft) (p : Plan) →
      Drawn number d p → Fits q d → Few d → AllBelow k → Kept number y t s d p →
      Takes number y q t s k d p ⊎ Refuses number y q t (s ∷ k) d p
  -- the states of an entry come on the stack, if there is room for them
  pub entered : (n a : ℕ) (ss : List State) (k : List Return) → length (all_entered a ss ++ k) ≤ n →
      pushed_all n (min a 65535) ss (map return_code k) ≡ map return_code (all_entered a ss ++ k)
