-- One state of the stack at a token, on plain values.
use Rattle.std.proofs.Common.{◌≡◌, ℕ, suc, ◌<◌, List, ◌∷◌, length, sym, ap, ◌∙◌, arith}
use mathlib.Core.Option.{none, some}
use Rattle.emission.specs.declared.action.Action.{Action}
use Rattle.emission.specs.Table.{Entry, Move, refuse, leave, enter}
use Rattle.emission.specs.Classes.{class_move}
use Rattle.assembly.specs.Plans.{Plan, Rooms, acted}
use Rattle.reading.specs.declared.returns.Return.{Return}
use Rattle.reading.specs.Steps.{found, after_move, leaving}

module _ (q : Rooms) (c : ℕ) (xs k : List Return) (r : Return) (p : Plan) (e : xs ≡ r ∷ k) where
  by_top : (m : Move) → class_move r.state c ≡ m → leaving q c xs p ≡ after_move m r.address k p (λ b. leaving q c k (acted q b r.address 0 p))
  by_top m f = ap (λ l. leaving q c l p) e ∙ ap (λ x. after_move x r.address k p (λ b. leaving q c k (acted q b r.address 0 p))) f

  -- the state on top is left
  pub left : (s : Rooms) (y : Plan) (b : Action) → s ≡ q → class_move r.state c ≡ leave b → y ≡ acted q b r.address 0 p → leaving s c k y ≡ leaving q c xs p
  left s y b a f g = (λ i. leaving (a i) c k (g i)) ∙ sym (by_top (leave b) f)

  -- it takes the token
  pub taken : (x : Entry) → class_move r.state c ≡ enter x → leaving q c xs p ≡ found (some (r.address, x)) k p
  taken x f = by_top (enter x) f

  -- it refuses it
  pub refused : class_move r.state c ≡ refuse → leaving q c xs p ≡ found none k p
  refused f = by_top refuse f

  pub fewer : length k < length xs
  fewer = let l : length xs ≡ suc (length k) = ap length e in omega arith
