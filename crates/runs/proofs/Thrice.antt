-- A sample meets the premises of the theorems.
use Rattle.std.proofs.Common.{◌≡◌, ℕ, ◌<◌, ◌≤◌, ◌≢◌, List, [], ◌∷◌, get_or, pos, sym, refl, ◌∙◌, arith}
use Rattle.std.proofs.lemmas.Int.{ints}
use Rattle.trees.specs.Trees.{Name, Expr, commands}
use Rattle.arithmetic.specs.Words.{Words, Lawful}
use Rattle.runs.specs.Source.{operators, decimal}
use Rattle.runs.specs.Placed.{Among, wholes, collected, Literal, Placed, Ready}
use Rattle.runs.specs.Samples.{Q, layout, cells, thrice}

only_q : (x : Name) → Among x (Q ∷ Q ∷ Q ∷ []) → x ≡ Q
only_q x h = grind arith

-- what holds of 9 and of 3 holds of each number of it
each_number : (P : List ℕ → Type 0) → P (57 ∷ []) → P (51 ∷ []) → (ds : List ℕ) → Literal thrice ds → P ds
each_number P a b ds h = grind arith

few : (e : Expr) → Among e (collected wholes (commands thrice)) → operators e ≤ 64
few e h = grind arith

pub thrice_placed : Placed layout thrice
thrice_placed = record {
  fixed = omega arith;
  few = omega arith;
  variable_past = λ x v. omega arith;
  variable_used = λ x v. omega arith;
  variable_own = λ x y v u e. only_q x v ∙ sym (only_q y u);
  literal_past = each_number (λ ds. 66 ≤ layout.literal_cell ds) (omega arith) (omega arith);
  literal_used = each_number (λ ds. layout.literal_cell ds < 72) (omega arith) (omega arith);
  literal_own = λ ds x l v. each_number (λ n. layout.literal_cell n ≢ 66) (omega arith) (omega arith) ds l;
  few_operators = few;
  few_labels = λ n a. absurd a;
  short = omega arith;
}

module _ (w : Words) (law : Lawful w) where
  small : (n : ℕ) → n ≤ 127 → w.fit (pos n) ≡ pos n
  small n l = let a = law.low.1 in let b = law.high.0 in law.same (pos n) (omega (arith, ints), omega (arith, ints))

  pub thrice_ready : Ready w layout thrice cells
  thrice_ready = record {
    all_there = omega arith;
    one_held = refl;
    variable_zero = λ x v. refl;
    literal_held = each_number (λ ds. get_or cells (layout.literal_cell ds) (pos 0) ≡ w.fit (pos (decimal ds))) (sym (small 9 (omega arith))) (sym (small 3 (omega arith)));
  }
