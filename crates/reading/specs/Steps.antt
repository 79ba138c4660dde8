-- One token at the stack of returns, on a plan: states are left until one takes the token, and what it takes it by.
use Rattle.std.specs.Prelude.{◌≡◌, ℕ, min, true, false, ◌||◌, List, [], ◌∷◌, map}
use Rattle.std.proofs.Math.Option.{Option, none, some}
use Rattle.token.specs.Tokens.{Token, keyword}
use Rattle.token.specs.declared.kinds.Keyword.TheVariants.{Of}
use Rattle.trees.specs.Trees.{Name}
use Rattle.runs.specs.Code.{Layout}
use Rattle.grammar.specs.Tests.{is, is_name, is_number, spelling}
use Rattle.emission.specs.declared.action.Action.{Action}
use Rattle.emission.specs.declared.action.Action.TheVariants as action
use Rattle.emission.specs.declared.state.State.{State}
use Rattle.emission.specs.declared.state.State.TheVariants.{ToName}
use Rattle.emission.specs.Draft.{Draft}
use Rattle.emission.specs.Table.{Entry, Return, translator, follow, draft_step, Move, refuse, leave, enter, move}
use Rattle.emission.specs.Classes.{class, class_move}
use Rattle.assembly.specs.Plans.{Plan, Rooms, pushed, acted}
use Rattle.assembly.specs.Drawn.{Drawn, Fits, Few}
use Rattle.reading.specs.declared.returns.Return.{Return as Coded}

-- a return as it stands in memory
abbrev pub return_code : Return → Coded
return_code r = record { state = r.state; address = min r.address 65535 }

-- what the stack comes to at a token: the address of the state that takes it and its entry, if one does; what is below that
-- state; and the plan, after what the states that were left did to it
pub record Found : Type 0 where
  pub taken : Option (ℕ × Entry)
  pub below : List Coded
  pub plan : Plan

abbrev pub found : Option (ℕ × Entry) → List Coded → Plan → Found
found o k p = record { taken = o; below = k; plan = p }

abbrev pub after_move : Move → ℕ → List Coded → Plan → (Action → Found) → Found
after_move refuse a k p f = found none k p
after_move (leave b) a k p f = f b
after_move (enter e) a k p f = found (some (a, e)) k p

-- at a token of the class c
abbrev pub leaving : Rooms → ℕ → List Coded → Plan → Found
leaving q c [] p = found none [] p
leaving q c (r ∷ k) p = after_move (class_move r.state c) r.address k p (λ b. leaving q c k (acted q b r.address 0 p))

-- the states of an entry on a stack with room for n returns, at the address a
abbrev pub pushed_all : ℕ → ℕ → List State → List Coded → List Coded
pushed_all n a [] k = k
pushed_all n a (s ∷ ss) k = pushed n (record { state = s; address = a }) (pushed_all n a ss k)

-- What is kept after GO TO, if the current state is the one for it: the cell of a variable if OF comes next, else the symbol of a label.
module _ (number : Name → ℕ) (y : Layout) where
  pub record Kept (of-next : Token) (s : Return) (d : Draft) (p : Plan) : Type 0 where
    pub as_variable : s.state ≡ ToName → is (keyword Of) of-next ≡ true → p.kept ≡ y.variable_cell d.kept
    pub as_label : s.state ≡ ToName → is (keyword Of) of-next ≡ false → p.kept ≡ number d.kept

  -- the current state s, or one of the states k below it, takes the token t: the stack below that state, the draft after what
  -- was left, and the plan that is drawn from it
  pub record Takes (q : Rooms) (t : Token) (s : Return) (k : List Return) (d : Draft) (p : Plan) : Type 0 where
    pub address : ℕ
    pub entry : Entry
    pub below : List Return
    pub after : Draft
    pub plan : Plan
    pub steps : draft_step y (translator (s ∷ k) d) t ≡ some (follow y entry address (spelling t) below after)
    pub finds : leaving q (class t) (map return_code (s ∷ k)) p ≡ found (some (min address 65535, entry)) (map return_code below) plan
    pub drawn : Drawn number after plan
    pub fits : Fits q after
    pub few : Few after
    -- the name that is kept is a variable where it is loaded
    pub loads : entry.action ≡ action.LoadName → plan.kept ≡ y.variable_cell after.kept
    -- a name or a number is taken by the current state alone
    pub direct : (is_name t || is_number t) ≡ true →
        (move s.state t ≡ enter entry) × (address ≡ s.address) × (below ≡ k) × (after ≡ d) × (plan ≡ p)

  -- or none takes it
  pub record Refuses (q : Rooms) (t : Token) (k : List Return) (d : Draft) (p : Plan) : Type 0 where
    pub steps : draft_step y (translator k d) t ≡ none
    pub finds : (leaving q (class t) (map return_code k) p).taken ≡ none
