-- The two stacks of an expression in the making stay within their rooms as operators are reduced and as the expression ends.
use Rattle.std.proofs.Common.{ℕ, suc, ◌+◌, ◌≤◌, Bool, true, false, cond, List, [], ◌∷◌, length, arith}
use Rattle.trees.specs.declared.operator.Operator.{Operator}
use Rattle.runs.specs.Code.{first_temporary}
use Rattle.emission.specs.Draft.{Word, Mark, pending, parenthesis, Work, work, Draft, operation, reduce, reduced, left_off, ended}
use Rattle.assembly.specs.Plans.{Rooms}
use Rattle.assembly.specs.Drawn.{Fits, Few}

-- what `Fits` and `Few` say of a draft, by its work
abbrev pub Bounded : Rooms → Work → Type 0
Bounded q w = (length w.cells ≤ q.cells) × (length w.marks ≤ q.marks) × (w.temporaries + length w.marks ≤ 60000)

pub bounded : {q : Rooms} {d : Draft} → Fits q d → Few d → Bounded q d.making
bounded fits few = (fits.cells, fits.marks, few)

pub fitting : {q : Rooms} {d : Draft} → Bounded q d.making → Fits q d
fitting h = record { cells = h.0; marks = h.1 }

module _ (q : Rooms) where
  bounded_reduce : (p : Operator → Bool) (ms : List Mark) (cs : List ℕ) (n : ℕ) (ws : List Word) → Bounded q (work ms cs n ws) →
      Bounded q (reduce p ms cs n ws)
  bounded_reduce p [] cs n ws h = h
  bounded_reduce p (parenthesis ∷ ms) cs n ws h = h
  bounded_reduce p (pending o ∷ ms) [] n ws h = h
  bounded_reduce p (pending o ∷ ms) (r ∷ []) n ws h = h
  bounded_reduce p (pending o ∷ ms) (r ∷ l ∷ cs) n ws h =
      go (p o) (bounded_reduce p ms ((first_temporary + n) ∷ cs) (suc n) (operation o l r n ws) (omega arith, omega arith, omega arith))
    where
      go : (b : Bool) → Bounded q (reduce p ms ((first_temporary + n) ∷ cs) (suc n) (operation o l r n ws)) →
          Bounded q (cond b (reduce p ms ((first_temporary + n) ∷ cs) (suc n) (operation o l r n ws)) (work (pending o ∷ ms) (r ∷ l ∷ cs) n ws))
      go true ih = ih
      go false ih = h

  pub bounded_reduced : (p : Operator → Bool) (w : Work) → Bounded q w → Bounded q (reduced p w)
  bounded_reduced p w h = bounded_reduce p w.marks w.cells w.temporaries w.words h

  bounded_off : (ms : List Mark) (cs : List ℕ) (n : ℕ) (ws : List Word) → Bounded q (work ms cs n ws) → Bounded q (left_off ms cs n ws)
  bounded_off ms cs n ws h = grind arith

  pub bounded_ended : (w : Work) → Bounded q w → Bounded q (ended w)
  bounded_ended w h = bounded_off w.marks w.cells w.temporaries w.words h
