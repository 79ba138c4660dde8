-- The stacks of the translator are no deeper than operators, parentheses and IFs say.
use Rattle.token.specs.declared.kinds.Keyword.TheVariants.{Let, Go, To, Of, Read, Print, If, Then}
use Rattle.token.specs.declared.kinds.Sign.TheVariants.{Becomes, Open, Comma}
use Rattle.std.proofs.Common.{◌≡◌, ℕ, zero, suc, ◌+◌, ◌<◌, ◌≤◌, Bool, true, cond, List, [], ◌∷◌, reverse, length, take, refl, ap, ◌∙◌, inl, inr, zero-le, arith}
use mathlib.Core.Option.{some}
use Rattle.std.proofs.lemmas.Bool.{cases_lt}
use Rattle.token.specs.Tokens.{Token, name, keyword, sign}
use Rattle.trees.specs.Trees.{Expr}
use Rattle.trees.specs.declared.operator.Operator.{Operator}
use Rattle.arithmetic.specs.Words.{Words}
use Rattle.runs.specs.Source.{operators as count}
use Rattle.runs.specs.Code.{Layout}
use Rattle.grammar.specs.Grammar.{relation_sign}
use Rattle.grammar.specs.Concrete.{AddSign, adds, takes, MulSign, multiplies, divides, Factor, var, lit, group, Term, factor, multiply, Sum, term, add, add_sign, mul_sign, add_operator, mul_operator, factor_tree, term_tree, sum_tree}
use Rattle.grammar.specs.Machine.{InCommands, first_command, after_commands, under_label, then_part, else_part, BeforeTerm, no_sum, sum, BeforeFactor, no_product, product, InCommand, of_assign, of_left, of_right, of_print, of_prints, of_group, Config, start, labelling, let_word, let_name, go_word, to_word, to_name, of_word, of_names, of_comma, read_word, read_names, read_comma, print_word, operand, after, done}
use Rattle.limits.specs.Uses.{is_operator, in_expression, operators, depth, parts}
use Rattle.limits.specs.Rules.{operator_limit, past, rest, Rule, many_operators}
use Rattle.limits.proofs.Lists.{take_end, past_next}
use Rattle.limits.proofs.Scans.{factor_b, term_b, sum_b, left_b}
use Rattle.limits.proofs.Configs.{nested}
use Rattle.emission.specs.Draft.{Word, Work, idle, push, opened}
use Rattle.emission.specs.Table.{Translator, translated}
use Rattle.emission.specs.Room.{Sized, Within}
use Rattle.emission.proofs.Works.{with_expr, before_term, before_factor}
use Rattle.emission.proofs.Image.{work_of, returns_in, returns_of, image}
use Rattle.limits.proofs.Pasts.{past_c, past_t, past_f, past_e, past_of, mul_parts, add_parts, relation_parts, factor_parts, term_parts, sum_parts, names_parts, sums_parts, if_parts, statement_parts, past_f_parts}
use Rattle.emission.proofs.Pasts.{reached}

-- Operators of the tokens of an expression.
mul_count : (o : MulSign) (b : List Token) → operators (mul_sign o ∷ b) ≡ suc (operators b)
mul_count multiplies b = refl
mul_count divides b = refl

add_count : (o : AddSign) (b : List Token) → operators (add_sign o ∷ b) ≡ suc (operators b)
add_count adds b = refl
add_count takes b = refl

mutual
  factor_count : (f : Factor) (b : List Token) → operators (factor_b f b) ≡ operators b + count (factor_tree f)
  factor_count (var n) b = omega arith
  factor_count (lit n) b = omega arith
  factor_count (group e) b = sum_count e (sign Open ∷ b)

  term_count : (t : Term) (b : List Token) → operators (term_b t b) ≡ operators b + count (term_tree t)
  term_count (factor f) b = factor_count f b
  term_count (multiply t o f) b =
      let x : operators (factor_b f (mul_sign o ∷ term_b t b)) ≡ operators (mul_sign o ∷ term_b t b) + count (factor_tree f) = factor_count f (mul_sign o ∷ term_b t b) in
      let y : operators (mul_sign o ∷ term_b t b) ≡ suc (operators (term_b t b)) = mul_count o (term_b t b) in
      let z : operators (term_b t b) ≡ operators b + count (term_tree t) = term_count t b in
      omega arith

  sum_count : (e : Sum) (b : List Token) → operators (sum_b e b) ≡ operators b + count (sum_tree e)
  sum_count (term t) b = term_count t b
  sum_count (add e o t) b =
      let x : operators (term_b t (add_sign o ∷ sum_b e b)) ≡ operators (add_sign o ∷ sum_b e b) + count (term_tree t) = term_count t (add_sign o ∷ sum_b e b) in
      let y : operators (add_sign o ∷ sum_b e b) ≡ suc (operators (sum_b e b)) = add_count o (sum_b e b) in
      let z : operators (sum_b e b) ≡ operators b + count (sum_tree e) = sum_count e b in
      omega arith

module _ (y : Layout) where
  -- Work before an operand, by the tokens b.
  record Fits (w : Work) (b : List Token) : Type 0 where
    cells : length w.cells ≤ operators b
    marks : length w.marks ≤ operators b + depth b
    temporaries : w.temporaries ≤ operators b

  fits_idle : (ws : List Word) (b : List Token) → Fits (idle ws) b
  fits_idle ws b = record { cells = zero-le; marks = zero-le; temporaries = zero-le }

  with_cells : (e : Expr) (w : Work) → length (with_expr y e w).cells ≡ suc (length w.cells)
  with_cells e w = grind arith

  with_marks : (e : Expr) (w : Work) → length (with_expr y e w).marks ≡ length w.marks
  with_marks e w = grind arith

  with_temporaries : (e : Expr) (w : Work) → (with_expr y e w).temporaries ≡ w.temporaries + count e
  with_temporaries e w = grind arith

  fits_push : (o : Operator) (e : Expr) (w : Work) (b c : List Token) → Fits w b → operators c ≡ suc (operators b + count e) → depth c ≡ depth b → Fits (push o (with_expr y e w)) c
  fits_push o e w b c f p q =
      let i : length (with_expr y e w).cells ≡ suc (length w.cells) = with_cells e w in
      let j : length (with_expr y e w).marks ≡ length w.marks = with_marks e w in
      let k : (with_expr y e w).temporaries ≡ w.temporaries + count e = with_temporaries e w in
      let l = f.cells in let m = f.marks in let n = f.temporaries in
      record { cells = omega arith; marks = omega arith; temporaries = omega arith }

  fits_t : (s : BeforeTerm) (w : Work) (b : List Token) → Fits w b → Fits (before_term y s w) (past_t s b)
  fits_t no_sum w b f = f
  fits_t (sum e o) w b f =
      let x : operators (add_sign o ∷ sum_b e b) ≡ suc (operators (sum_b e b)) = add_count o (sum_b e b) in
      let z : operators (sum_b e b) ≡ operators b + count (sum_tree e) = sum_count e b in
      fits_push (add_operator o) (sum_tree e) w b (add_sign o ∷ sum_b e b) f (x ∙ ap suc z) ((add_parts o (sum_b e b)).1 ∙ (sum_parts e b).1)

  fits_f : (s : BeforeFactor) (w : Work) (b : List Token) → Fits w b → Fits (before_factor y s w) (past_f s b)
  fits_f (no_product s) w b f = fits_t s w b f
  fits_f (product s t o) w b f =
      let x : operators (mul_sign o ∷ term_b t (past_t s b)) ≡ suc (operators (term_b t (past_t s b))) = mul_count o (term_b t (past_t s b)) in
      let z : operators (term_b t (past_t s b)) ≡ operators (past_t s b) + count (term_tree t) = term_count t (past_t s b) in
      fits_push (mul_operator o) (term_tree t) (before_term y s w) (past_t s b) (mul_sign o ∷ term_b t (past_t s b)) (fits_t s w b f) (x ∙ ap suc z)
      ((mul_parts o (term_b t (past_t s b))).1 ∙ (term_parts t (past_t s b)).1)

  fits_open : (w : Work) (b : List Token) → Fits w b → Fits (opened w) (sign Open ∷ b)
  fits_open w b f = let m = f.marks in record { cells = f.cells; marks = omega arith; temporaries = f.temporaries }

  fits_e : (k : InCommand) → Fits (work_of y k) (past_e k)
  fits_e (of_assign n k) = fits_idle _ _
  fits_e (of_left k) = fits_idle _ _
  fits_e (of_right a o k) = fits_idle _ _
  fits_e (of_print k) = fits_idle _ _
  fits_e (of_prints es k) = fits_idle _ _
  fits_e (of_group b k) = fits_open (before_factor y b (work_of y k)) (past_f b (past_e k)) (fits_f b (work_of y k) (past_e k) (fits_e k))

  -- The stack: below a command, one return for each open IF and one more.
  pub stack_c : (k : InCommands) → length (returns_in y k) ≡ suc (length (parts (past_c k)))
  stack_c first_command = refl
  stack_c (after_commands cs) = refl
  stack_c (under_label n k) = stack_c k
  stack_c (then_part a o b k) = rw (if_parts a o b (past_c k)) (ap suc (stack_c k))
  stack_c (else_part a o b c k) =
      rw (statement_parts c (keyword Then ∷ sum_b b (relation_sign o ∷ sum_b a (keyword If ∷ past_c k))), if_parts a o b (past_c k)) (ap suc (stack_c k))

  within : (m : ℕ) (k : InCommands) (b : List Token) → parts b ≡ parts (past_c k) → m ≤ length (returns_in y k) + 1 → m ≤ 2 + (length (parts b) + depth b)
  within m k b e h =
      let x : length (returns_in y k) ≡ suc (length (parts (past_c k))) = stack_c k in
      let z : length (parts b) ≡ length (parts (past_c k)) = ap length e in
      omega arith

  stack_e : (k : InCommand) → length (returns_of y k) ≤ 2 + (length (parts (past_e k)) + depth (past_e k))
  stack_e (of_assign n k) = within (suc (length (returns_in y k))) k (sign Becomes ∷ name n ∷ keyword Let ∷ past_c k) refl (omega arith)
  stack_e (of_left k) = let x : length (returns_in y k) ≡ suc (length (parts (past_c k))) = stack_c k in omega arith
  stack_e (of_right a o k) =
      let h : length (returns_in y k) ≡ suc (length (parts (past_c k))) = stack_c k in
      let e : length (parts (relation_sign o ∷ sum_b a (keyword If ∷ past_c k))) ≡ suc (length (parts (past_c k))) =
      ap length (relation_parts o (sum_b a (keyword If ∷ past_c k)) ∙ (sum_parts a (keyword If ∷ past_c k)).0) in
      omega arith
  stack_e (of_print k) = within (suc (length (returns_in y k))) k (keyword Print ∷ past_c k) refl (omega arith)
  stack_e (of_prints es k) = within (suc (length (returns_in y k))) k (sign Comma ∷ left_b sum_b (sign Comma) es (keyword Print ∷ past_c k)) (sums_parts es (keyword Print ∷ past_c k)) (omega arith)
  stack_e (of_group b k) =
      let h : length (returns_of y k) ≤ 2 + (length (parts (past_e k)) + depth (past_e k)) = stack_e k in
      let p : length (parts (past_f b (past_e k))) ≡ length (parts (past_e k)) = ap length (past_f_parts b (past_e k)).0 in
      let d : depth (past_f b (past_e k)) ≡ depth (past_e k) = (past_f_parts b (past_e k)).1 in
      omega arith

  -- between expressions
  quiet : (x : Translator) (k : InCommands) (b : List Token) → x.made.making ≡ idle x.made.making.words → length x.stack ≡ suc (length (returns_in y k)) → parts b ≡ parts (past_c k) → Sized b x
  quiet x k b e l p =
      let i : length x.made.making.cells ≡ 0 = ap (λ (w : Work). length w.cells) e in
      let j : length x.made.making.marks ≡ 0 = ap (λ (w : Work). length w.marks) e in
      let t : x.made.making.temporaries ≡ 0 = ap (λ (w : Work). w.temporaries) e in
      let m = within (suc (length (returns_in y k))) k b p (omega arith) in
      record { cells = omega arith; marks = omega arith; temporaries = omega arith; stack = omega arith }

  sized : (c : Config) → Sized (past_of c) (image y c)
  sized (start k) = quiet (image y (start k)) k (past_c k) refl refl refl
  sized (labelling n k) = quiet (image y (labelling n k)) k (past_of (labelling n k)) refl refl refl
  sized (let_word k) = quiet (image y (let_word k)) k (past_of (let_word k)) refl refl refl
  sized (let_name n k) = quiet (image y (let_name n k)) k (past_of (let_name n k)) refl refl refl
  sized (go_word k) = quiet (image y (go_word k)) k (past_of (go_word k)) refl refl refl
  sized (to_word k) = quiet (image y (to_word k)) k (past_of (to_word k)) refl refl refl
  sized (to_name n k) = quiet (image y (to_name n k)) k (past_of (to_name n k)) refl refl refl
  sized (of_word n k) = quiet (image y (of_word n k)) k (past_of (of_word n k)) refl refl refl
  sized (of_names n ns k) = quiet (image y (of_names n ns k)) k (past_of (of_names n ns k)) refl refl (names_parts ns (keyword Of ∷ name n ∷ keyword To ∷ keyword Go ∷ past_c k))
  sized (of_comma n ns k) = quiet (image y (of_comma n ns k)) k (past_of (of_comma n ns k)) refl refl (names_parts ns (keyword Of ∷ name n ∷ keyword To ∷ keyword Go ∷ past_c k))
  sized (read_word k) = quiet (image y (read_word k)) k (past_of (read_word k)) refl refl refl
  sized (read_names ns k) = quiet (image y (read_names ns k)) k (past_of (read_names ns k)) refl refl (names_parts ns (keyword Read ∷ past_c k))
  sized (read_comma ns k) = quiet (image y (read_comma ns k)) k (past_of (read_comma ns k)) refl refl (names_parts ns (keyword Read ∷ past_c k))
  sized (print_word k) = quiet (image y (print_word k)) k (past_of (print_word k)) refl refl refl
  sized (operand b k) =
      let f : Fits (before_factor y b (work_of y k)) (past_f b (past_e k)) = fits_f b (work_of y k) (past_e k) (fits_e k) in
      let l = f.cells in let m = f.marks in let n = f.temporaries in
      let h : length (returns_of y k) ≤ 2 + (length (parts (past_e k)) + depth (past_e k)) = stack_e k in
      let p : length (parts (past_f b (past_e k))) ≡ length (parts (past_e k)) = ap length (past_f_parts b (past_e k)).0 in
      let d : depth (past_f b (past_e k)) ≡ depth (past_e k) = (past_f_parts b (past_e k)).1 in
      record { cells = omega arith; marks = omega arith; temporaries = omega arith; stack = omega arith }
  sized (after b x k) =
      let f : Fits (before_factor y b (work_of y k)) (past_f b (past_e k)) = fits_f b (work_of y k) (past_e k) (fits_e k) in
      let l = f.cells in let m = f.marks in let n = f.temporaries in
      let h : length (returns_of y k) ≤ 2 + (length (parts (past_e k)) + depth (past_e k)) = stack_e k in
      let p : length (parts (factor_b x (past_f b (past_e k)))) ≡ length (parts (past_e k)) = ap length ((factor_parts x (past_f b (past_e k))).0 ∙ (past_f_parts b (past_e k)).0) in
      let q : depth (factor_b x (past_f b (past_e k))) ≡ depth (past_f b (past_e k)) = (factor_parts x (past_f b (past_e k))).1 in
      let d : depth (past_f b (past_e k)) ≡ depth (past_e k) = (past_f_parts b (past_e k)).1 in
      let c : operators (factor_b x (past_f b (past_e k))) ≡ operators (past_f b (past_e k)) + count (factor_tree x) = factor_count x (past_f b (past_e k)) in
      let i : length (with_expr y (factor_tree x) (before_factor y b (work_of y k))).cells ≡ suc (length (before_factor y b (work_of y k)).cells) = with_cells (factor_tree x) (before_factor y b (work_of y k)) in
      let j : length (with_expr y (factor_tree x) (before_factor y b (work_of y k))).marks ≡ length (before_factor y b (work_of y k)).marks = with_marks (factor_tree x) (before_factor y b (work_of y k)) in
      let t : (with_expr y (factor_tree x) (before_factor y b (work_of y k))).temporaries ≡ (before_factor y b (work_of y k)).temporaries + count (factor_tree x) = with_temporaries (factor_tree x) (before_factor y b (work_of y k)) in
      record { cells = omega arith; marks = omega arith; temporaries = omega arith; stack = omega arith }
  sized (done cs) = record { cells = zero-le; marks = zero-le; temporaries = zero-le; stack = zero-le }

  pub text_sized : (ts : List Token) (x : Translator) → translated y ts ≡ some x → Sized (reverse ts) x
  text_sized = reached y Sized sized

-- As long as no refusal stands, a whole expression has few operators.
pub operators_step : (t : Token) (b : List Token) → operators b ≤ operator_limit → (is_operator t ≡ true → operators b < operator_limit) → operators (t ∷ b) ≤ operator_limit
operators_step t b h g = go (is_operator t) (in_expression t) g
  where
    go : (x z : Bool) → (x ≡ true → operators b < operator_limit) → cond x (suc (operators b)) (cond z (operators b) 0) ≤ operator_limit
    go x z f = grind arith

few_operators : (w : Words) (ts : List Token) (k : ℕ) → ((j n : ℕ) → j < k → Rule w ts j n → ⊥) → operators (past ts k) ≤ operator_limit
few_operators w ts zero h = zero-le
few_operators w ts (suc k) h = go (rest ts k) refl (few_operators w ts k (λ j n l r. h j n (omega arith) r))
  where
    go : (q : List Token) → rest ts k ≡ q → operators (past ts k) ≤ operator_limit → operators (past ts (suc k)) ≤ operator_limit
    go [] e p =
        let x : past ts (suc k) ≡ past ts k = ap reverse (take_end k ts e) in
        rw x p
    go (t ∷ q) e p =
        let x : past ts (suc k) ≡ t ∷ past ts k = past_next ts k t q e in
        rw x (operators_step t (past ts k) p
        (λ i. elim (cases_lt (operators (past ts k)) operator_limit) [ inl l ↦ l | inr g ↦ absurd (h k 9 (omega arith) (many_operators (rw e i) g)) ]))

pub text_within : (y : Layout) (w : Words) (ts : List Token) (k : ℕ) (x : Translator) → ((j n : ℕ) → j < k → Rule w ts j n → ⊥) → translated y (take k ts) ≡ some x → Within x
text_within y w ts k x h e =
    let s : Sized (past ts k) x = text_sized y (take k ts) x e in
    let o : operators (past ts k) ≤ operator_limit = few_operators w ts k h in
    let n = nested w ts k h in
    let p : length (parts (past ts k)) ≤ 32 = n.0 in
    let d : depth (past ts k) ≤ 32 = n.1 in
    let a = s.cells in let b = s.marks in let c = s.temporaries in let f = s.stack in
    record { cells = omega arith; marks = omega arith; temporaries = omega arith; stack = omega arith }
