-- Lists: one element further.
use Rattle.std.proofs.Common.{◌≡◌, ℕ, suc, ◌<◌, List, [], ◌∷◌, ◌++◌, length, get_or, take, drop, ap, ◌∙◌, arith, length-drop, drop-cons}
use lib.Seq.{take-suc}

module _ {A : Type 0} (k : ℕ) (l : List A) (x : A) (xs : List A) (e : drop k l ≡ x ∷ xs) where
  pub drop_within : k < length l
  drop_within = let m = ap length e in let d = length-drop k l in omega arith

  pub take_next : take (suc k) l ≡ take k l ++ x ∷ []
  take_next =
      let d = drop-cons l k x drop_within in
      let q : get_or l k x ≡ x = cc in
      take-suc l k x drop_within ∙ ap (λ y. take k l ++ y ∷ []) q

  pub drop_next : drop (suc k) l ≡ xs
  drop_next = let d = drop-cons l k x drop_within in cc
