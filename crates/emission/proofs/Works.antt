-- The two stacks make the code of the tree.
use Rattle.std.proofs.Common.{◌≡◌, ℕ, suc, ◌+◌, Bool, true, false, List, [], ◌∷◌, ◌++◌, map, sym, refl, ap, ◌∙◌, arith}
use mathlib.Core.List.{reverse_aux}
use mathlib.Core.List.{reverse_aux-append}
use Rattle.std.proofs.lemmas.List.{map-append}
use Rattle.std.proofs.lemmas.Bool.{cond-true, cond-false}
use Rattle.trees.specs.Trees.{Expr, variable, literal, binary}
use Rattle.trees.specs.declared.operator.Operator.{Operator}
use Rattle.runs.specs.declared.instruction.Instruction.{Instruction}
use Rattle.runs.specs.declared.instruction.Instruction.TheVariants.{Lda, Sta}
use Rattle.runs.specs.Source.{operators}
use Rattle.runs.specs.Code.{Layout, first_temporary, operating, cell_of, operations}
use Rattle.grammar.specs.Concrete.{AddSign, adds, takes, MulSign, multiplies, divides, Factor, Term, factor, multiply, add_operator, mul_operator, factor_tree, term_tree, sum_tree}
use Rattle.grammar.specs.Machine.{BeforeTerm, no_sum, sum, BeforeFactor, no_product, product, term_of, sum_before, add_to, whole_of}
use Rattle.emission.specs.Draft.{Word, fixed, Mark, parenthesis, Work, work, idle, any, binds, operation, reduce, reduced, push, operand, ended}
use Rattle.emission.proofs.Drafted.{whole}

-- Lists put behind others, newest first.
onto_map : (xs ys : List Instruction) (ws : List Word) → reverse_aux (map fixed (xs ++ ys)) ws ≡ reverse_aux (map fixed ys) (reverse_aux (map fixed xs) ws)
onto_map xs ys ws = ap (λ z. reverse_aux z ws) (map-append fixed xs ys) ∙ reverse_aux-append (map fixed xs) (map fixed ys) ws

module _ (y : Layout) where
  -- the work after an expression that was put into code
  abbrev pub after_expr : Expr → List Mark → List ℕ → ℕ → List Word → Work
  after_expr e ms cs n ws =
      work ms (cell_of y (first_temporary + n) e ∷ cs) (n + operators e) (reverse_aux (map fixed (operations y (first_temporary + n) e)) ws)

  abbrev pub with_expr : Expr → Work → Work
  with_expr (variable x) w = operand (y.variable_cell x) w
  with_expr (literal ds) w = operand (y.literal_cell ds) w
  with_expr (binary o l r) w = after_expr (binary o l r) w.marks w.cells w.temporaries w.words

  with_is : (e : Expr) (w : Work) → with_expr e w ≡ after_expr e w.marks w.cells w.temporaries w.words
  with_is (variable x) w =
      let h : w.temporaries ≡ w.temporaries + 0 = omega arith in
      ap (λ n. work w.marks (y.variable_cell x ∷ w.cells) n w.words) h
  with_is (literal ds) w =
      let h : w.temporaries ≡ w.temporaries + 0 = omega arith in
      ap (λ n. work w.marks (y.literal_cell ds ∷ w.cells) n w.words) h
  with_is (binary o l r) w = refl

  -- one operation of an expression in parts
  operated : (o : Operator) (l r : Expr) (n : ℕ) (ws : List Word) →
      operation o (cell_of y (first_temporary + n) l) (cell_of y (first_temporary + (n + operators l)) r) ((n + operators l) + operators r)
      (reverse_aux (map fixed (operations y (first_temporary + (n + operators l)) r)) (reverse_aux (map fixed (operations y (first_temporary + n) l)) ws))
      ≡ reverse_aux (map fixed (operations y (first_temporary + n) (binary o l r))) ws
  operated o l r n ws =
      let p : first_temporary + (n + operators l) ≡ (first_temporary + n) + operators l = omega arith in
      let q : first_temporary + ((n + operators l) + operators r) ≡ (first_temporary + n) + (operators l + operators r) = omega arith in
      (λ i. fixed (Sta (q i)) ∷ fixed (operating o (cell_of y (p i) r)) ∷ fixed (Lda (cell_of y (first_temporary + n) l)) ∷
      reverse_aux (map fixed (operations y (p i) r)) (reverse_aux (map fixed (operations y (first_temporary + n) l)) ws))
      ∙ sym (onto_map (operations y (first_temporary + n) l) (operations y ((first_temporary + n) + operators l) r ++ last) ws
      ∙ onto_map (operations y ((first_temporary + n) + operators l) r) last (reverse_aux (map fixed (operations y (first_temporary + n) l)) ws))
    where
      last : List Instruction
      last = Lda (cell_of y (first_temporary + n) l) ∷ operating o (cell_of y ((first_temporary + n) + operators l) r) ∷ Sta ((first_temporary + n) + (operators l + operators r)) ∷ []

  reduce_one : (p : Operator → Bool) (o : Operator) → p o ≡ true → (l r : Expr) (ms : List Mark) (cs : List ℕ) (n : ℕ) (ws : List Word) →
      reduced p (with_expr r (push o (with_expr l (work ms cs n ws)))) ≡ reduced p (with_expr (binary o l r) (work ms cs n ws))
  reduce_one p o h l r ms cs n ws =
      ap (λ w. reduced p (with_expr r (push o w))) (with_is l (work ms cs n ws))
      ∙ ap (reduced p) (with_is r (push o (after_expr l ms cs n ws)))
      ∙ cond-true (p o) _ _ h
      ∙ (λ i. reduce p ms (q i ∷ cs) (t i) (operated o l r n ws i))
    where
      q : first_temporary + ((n + operators l) + operators r) ≡ (first_temporary + n) + (operators l + operators r)
      q = omega arith

      t : suc ((n + operators l) + operators r) ≡ n + suc (operators l + operators r)
      t = omega arith

  keep_one : (p : Operator → Bool) (o : Operator) → p o ≡ false → (l r : Expr) (w : Work) →
      reduced p (with_expr r (push o (with_expr l w))) ≡ with_expr r (push o (with_expr l w))
  keep_one p o h l r w =
      ap (λ x. reduced p (with_expr r (push o x))) (with_is l w)
      ∙ ap (reduced p) (with_is r (push o (after_expr l w.marks w.cells w.temporaries w.words)))
      ∙ cond-false (p o) _ _ h
      ∙ sym (with_is r (push o (after_expr l w.marks w.cells w.temporaries w.words)))
      ∙ sym (ap (λ x. with_expr r (push o x)) (with_is l w))

  -- what may stand below an expression: it is reduced no further
  pub data Low : List Mark → Type 0 where
    at_bottom : Low []
    at_parenthesis : {ms : List Mark} → Low (parenthesis ∷ ms)

  keep_low : (p : Operator → Bool) {ms : List Mark} → Low ms → (cs : List ℕ) (n : ℕ) (ws : List Word) → reduce p ms cs n ws ≡ work ms cs n ws
  keep_low p at_bottom cs n ws = refl
  keep_low p at_parenthesis cs n ws = refl

  low_expr : (p : Operator → Bool) (e : Expr) (w : Work) → Low w.marks → reduced p (with_expr e w) ≡ with_expr e w
  low_expr p e w h = ap (reduced p) (with_is e w) ∙ keep_low p h _ _ _ ∙ sym (with_is e w)

  binds_mul : (o : MulSign) → binds (mul_operator o) ≡ true
  binds_mul multiplies = refl
  binds_mul divides = refl

  binds_add : (o : AddSign) → binds (add_operator o) ≡ false
  binds_add adds = refl
  binds_add takes = refl

  -- the work before a term, and before a factor, of an expression that began with the work w
  abbrev pub before_term : BeforeTerm → Work → Work
  before_term no_sum w = w
  before_term (sum e o) w = push (add_operator o) (with_expr (sum_tree e) w)

  abbrev pub before_factor : BeforeFactor → Work → Work
  before_factor (no_product s) w = before_term s w
  before_factor (product s t o) w = push (mul_operator o) (with_expr (term_tree t) (before_term s w))

  -- "*" and "/" reduce the term so far, "+", "-" and the end the expression so far
  pub term_reduced : (b : BeforeFactor) (f : Factor) (w : Work) → Low w.marks →
      reduced binds (with_expr (factor_tree f) (before_factor b w)) ≡ with_expr (term_tree (term_of b f)) (before_term (sum_before b) w)
  term_reduced (no_product no_sum) f w h = low_expr binds (factor_tree f) w h
  term_reduced (no_product (sum e p)) f w h = keep_one binds (add_operator p) (binds_add p) (sum_tree e) (factor_tree f) w
  term_reduced (product no_sum t q) f w h =
      reduce_one binds (mul_operator q) (binds_mul q) (term_tree t) (factor_tree f) w.marks w.cells w.temporaries w.words
      ∙ low_expr binds (binary (mul_operator q) (term_tree t) (factor_tree f)) w h
  term_reduced (product (sum e p) t q) f w h =
      let v : Work = push (add_operator p) (with_expr (sum_tree e) w) in
      reduce_one binds (mul_operator q) (binds_mul q) (term_tree t) (factor_tree f) v.marks v.cells v.temporaries v.words
      ∙ keep_one binds (add_operator p) (binds_add p) (sum_tree e) (binary (mul_operator q) (term_tree t) (factor_tree f)) w

  sum_reduced : (s : BeforeTerm) (t : Term) (w : Work) → Low w.marks → reduced any (with_expr (term_tree t) (before_term s w)) ≡ with_expr (sum_tree (add_to s t)) w
  sum_reduced no_sum t w h = low_expr any (term_tree t) w h
  sum_reduced (sum e o) t w h =
      reduce_one any (add_operator o) refl (sum_tree e) (term_tree t) w.marks w.cells w.temporaries w.words
      ∙ low_expr any (binary (add_operator o) (sum_tree e) (term_tree t)) w h

  pub whole_reduced : (b : BeforeFactor) (f : Factor) (w : Work) → Low w.marks →
      reduced any (with_expr (factor_tree f) (before_factor b w)) ≡ with_expr (sum_tree (whole_of b f)) w
  whole_reduced (no_product s) f w h = sum_reduced s (factor f) w h
  whole_reduced (product s t q) f w h =
      let v : Work = before_term s w in
      reduce_one any (mul_operator q) refl (term_tree t) (factor_tree f) v.marks v.cells v.temporaries v.words
      ∙ sum_reduced s (multiply t q f) w h

  -- a whole expression leaves its words and nothing else
  pub whole_ended : (e : Expr) (ws : List Word) → ended (with_expr e (idle ws)) ≡ idle (reverse_aux (whole y e) ws)
  whole_ended (variable x) ws = refl
  whole_ended (literal ds) ws = refl
  whole_ended (binary o l r) ws =
      let h : 0 + suc (operators l + operators r) ≡ suc (operators l + operators r) = omega arith in
      ap (λ n. ended (work [] (cell_of y first_temporary (binary o l r) ∷ []) n (reverse_aux (whole y (binary o l r)) ws))) h
