-- Expressions in the making: the two stacks of a plan and of a draft, as operators are reduced and as an expression ends.
use Rattle.std.proofs.Common.{◌≡◌, ℕ, zero, suc, ◌+◌, ◌<◌, ◌≤◌, min, Bool, true, false, cond, List, [], ◌∷◌, map, length, refl, ap, ◌∙◌, arith}
use Rattle.std.proofs.lemmas.Bool.Decides.{nat_tests}
use lib.ListN.{length-map}
use Rattle.trees.specs.declared.operator.Operator.{Operator}
use Rattle.trees.specs.Trees.{Name}
use Rattle.runs.specs.declared.instruction.Instruction.TheVariants.{Lda, Sta}
use Rattle.runs.specs.Code as code
use Rattle.emission.specs.Draft as draft
use Rattle.emission.specs.Draft.{Word, fixed, pending, parenthesis}
use Rattle.assembly.specs.Words.{instruction_word}
use Rattle.assembly.specs.Plans.{Words, Work, work, reduces, operation, reduce, pushed, unmarked, loaded}
use Rattle.assembly.specs.Drawn.{mark_code, Written}
use Rattle.assembly.proofs.Writing.{one_more}

-- the work of a plan, with its words, is that of a draft
pub record Works (number : Name → ℕ) (y : draft.Work) (z : Work) (k : Words) : Type 0 where
  pub words : Written number y.words k
  pub marks : z.marks ≡ map mark_code y.marks
  pub cells : z.cells ≡ y.cells
  pub temporaries : z.temporaries ≡ y.temporaries

-- where there is room an entry is pushed
pub pushed_is : {A : Type 0} (n : ℕ) (x : A) (xs : List A) → length xs < n → pushed n x xs ≡ x ∷ xs
pushed_is n x xs h = grind (arith, nat_tests)

module _ (number : Name → ℕ) where
  -- one operation
  operated : (o : Operator) (l r n : ℕ) (ws : List Word) (k : Words) → n ≤ 60000 → Written number ws k →
      Written number (draft.operation o l r n ws) (operation o l r n k)
  operated o l r n ws k few h =
      one_more number (fixed (Sta (code.first_temporary + n))) _ _ _ (λ _. ap (λ c. instruction_word (Sta c)) (omega arith))
      (one_more number (fixed (code.operating o r)) _ _ _ (λ _. refl)
      (one_more number (fixed (Lda l)) _ ws k (λ _. refl) h))

  either : (b : Bool) (y₁ y₂ : draft.Work) (z₁ z₂ : Work × Words) → Works number y₁ z₁.0 z₁.1 → Works number y₂ z₂.0 z₂.1 →
      Works number (cond b y₁ y₂) (cond b z₁ z₂).0 (cond b z₁ z₂).1
  either true y₁ y₂ z₁ z₂ h₁ h₂ = h₁
  either false y₁ y₂ z₁ z₂ h₁ h₂ = h₂

  unreduced : (ms : List draft.Mark) (cs : List ℕ) (n : ℕ) (ws : List Word) (k : Words) → Written number ws k →
      Works number (draft.work ms cs n ws) (work (map mark_code ms) cs n) k
  unreduced ms cs n ws k h = record { words = h; marks = refl; cells = refl; temporaries = refl }

  -- the same operators are reduced, in the same order, to the same temporaries
  reducing : (p : Operator → Bool) (all : Bool) → ((o : Operator) → p o ≡ reduces all o) →
      (ms : List draft.Mark) (cs : List ℕ) (n : ℕ) (ws : List Word) (k : Words) → n + length ms ≤ 60000 → Written number ws k →
      Works number (draft.reduce p ms cs n ws) (reduce all (map mark_code ms) cs n k).0 (reduce all (map mark_code ms) cs n k).1
  reducing p all same [] cs n ws k few h = unreduced [] cs n ws k h
  reducing p all same (parenthesis ∷ ms) cs n ws k few h = unreduced (parenthesis ∷ ms) cs n ws k h
  reducing p all same (pending o ∷ ms) [] n ws k few h = unreduced (pending o ∷ ms) [] n ws k h
  reducing p all same (pending o ∷ ms) (r ∷ []) n ws k few h = unreduced (pending o ∷ ms) (r ∷ []) n ws k h
  reducing p all same (pending o ∷ ms) (r ∷ l ∷ cs) n ws k few h =
      let t : min (n + 2) 65535 ≡ 2 + n = omega arith in
      let s : min (n + 1) 65535 ≡ suc n = omega arith in
      rw (same o) (either (reduces all o) _ _ _ _
      (rw (t, s) (reducing p all same ms ((code.first_temporary + n) ∷ cs) (suc n) (draft.operation o l r n ws) _ (omega arith) (rw t at (operated o l r n ws k (omega arith) h))))
      (unreduced (pending o ∷ ms) (r ∷ l ∷ cs) n ws k h))

  -- the same of works that agree; p is the test of the draft, and all that of the plan
  pub reduced_works : (p : Operator → Bool) (all : Bool) → ((o : Operator) → p o ≡ reduces all o) →
      (y : draft.Work) (z : Work) (k : Words) → y.temporaries + length y.marks ≤ 60000 → Works number y z k →
      Works number (draft.reduced p y) (reduce all z.marks z.cells z.temporaries k).0 (reduce all z.marks z.cells z.temporaries k).1
  reduced_works p all same y z k few h =
      rw (h.marks, h.cells, h.temporaries) (reducing p all same y.marks y.cells y.temporaries y.words k few h.words)

  -- one mark more, one operand more, and one parenthesis less
  pub marked_works : (m : draft.Mark) (q : ℕ) (y : draft.Work) (z : Work) (k : Words) → length y.marks < q → Works number y z k →
      Works number (draft.work (m ∷ y.marks) y.cells y.temporaries y.words) (work (pushed q (mark_code m) z.marks) z.cells z.temporaries) k
  marked_works m q y z k room h = record {
    words = h.words;
    marks = ap (pushed q (mark_code m)) h.marks ∙ pushed_is q (mark_code m) (map mark_code y.marks) (simp length-map room);
    cells = h.cells;
    temporaries = h.temporaries;
  }

  pub operand_works : (c : ℕ) (q : ℕ) (y : draft.Work) (z : Work) (k : Words) → length y.cells < q → Works number y z k →
      Works number (draft.operand c y) (work z.marks (pushed q c z.cells) z.temporaries) k
  operand_works c q y z k room h = record {
    words = h.words;
    marks = h.marks;
    cells = ap (pushed q c) h.cells ∙ pushed_is q c y.cells room;
    temporaries = h.temporaries;
  }

  same_unmarked : (ms : List draft.Mark) → unmarked (map mark_code ms) ≡ map mark_code (draft.unmarked ms)
  same_unmarked ms = grind arith

  pub closed_works : (y : draft.Work) (z : Work) (k : Words) → Works number y z k →
      Works number (draft.closed y) (work (unmarked z.marks) z.cells z.temporaries) k
  closed_works y z k h = record {
    words = h.words;
    marks = ap unmarked h.marks ∙ same_unmarked y.marks;
    cells = h.cells;
    temporaries = h.temporaries;
  }

  -- a lone operand is loaded
  pub loaded_written : (cs : List ℕ) (n : ℕ) (ws : List Word) (k : Words) → Written number ws k → Written number (draft.loaded cs n ws) (loaded cs n k)
  loaded_written [] n ws k h = h
  loaded_written (c ∷ cs) zero ws k h = one_more number (fixed (Lda c)) _ ws k (λ _. refl) h
  loaded_written (c ∷ cs) (suc n) ws k h = h
