-- What the machine's configurations say of the tokens read so far.
use Rattle.grammar.specs.declared.state.State.{State}
use Rattle.grammar.specs.declared.state.State.TheVariants.{Next}
use Rattle.token.specs.declared.kinds.Keyword.TheVariants.{Let, Go, To, Of, Read, Print, If, Then, Else}
use Rattle.token.specs.declared.kinds.Sign.TheVariants.{Semicolon, Becomes, Open, Close, Comma}
use Rattle.std.proofs.Common.{◌≡◌, ℕ, zero, suc, pred, ◌+◌, ◌<◌, ◌≤◌, Bool, true, false, cond, List, [], ◌∷◌, reverse, length, sym, refl, ap, ◌∙◌, subst, inl, inr, arith}
use mathlib.Core.Option.{Option, none, some, map, some-injective, none-ne-some}
use Rattle.std.proofs.lemmas.Bool.{cases_lt}
use Rattle.token.specs.Tokens.{Token, name, keyword, sign}
use Rattle.trees.specs.Trees.{Name}
use Rattle.arithmetic.specs.Words.{Words}
use Rattle.grammar.specs.Tests.{is}
use Rattle.grammar.specs.Grammar.{relation_sign}
use Rattle.grammar.specs.Concrete.{sole, then, Sums}
use Rattle.grammar.specs.Machine.{InCommands, first_command, after_commands, under_label, then_part, else_part, BeforeTerm, no_sum, sum, BeforeFactor, no_product, product, InCommand, of_assign, of_left, of_right, of_print, of_prints, of_group, Config, start, labelling, let_word, let_name, go_word, to_word, to_name, of_word, of_names, of_comma, read_word, read_names, read_comma, print_word, operand, after, done, run, begun}
use Rattle.grammar.specs.Recogniser.{stack_step, reach}
use Rattle.grammar.proofs.Erase.{erase_c, erase_e, erase, reach_is}
use Rattle.limits.specs.Uses.{command_starts, after_of, before_of, name_role, in_expression, depth, Part, in_then, in_else, after_else, parts}
use Rattle.limits.specs.Rules.{depth_limit, past, rest, Rule, deep_parenthesis, deep_if}
use Rattle.limits.specs.States.{state_role}
use Rattle.limits.proofs.Lists.{take_end, past_next}
use Rattle.limits.proofs.Scans.{factor_b, term_b, sum_b, left_b, term_after_of, sum_after_of, Plain, plain_role, mul_plain, add_plain, relation_plain, listing_role}
use Rattle.limits.proofs.Fitting.{labels_of}
use Rattle.limits.proofs.Pasts.{past_c, past_t, past_f, past_e, past_of, past_is, relation_parts, factor_parts, sum_parts, names_parts, sums_parts, if_parts, statement_parts, past_f_parts}

-- a stack that the recogniser reaches is that of a configuration that has read these tokens
pub reached : (ts : List Token) (k : List State) → reach ts ≡ some k → (c : Config) × (erase c ≡ k) × (reverse ts ≡ past_of c)
reached ts k e = go (run begun ts) refl (sym (reach_is ts) ∙ e)
  where
    go : (o : Option Config) → run begun ts ≡ o → map erase o ≡ some k → (c : Config) × (erase c ≡ k) × (reverse ts ≡ past_of c)
    go none q h = absurd (none-ne-some k h)
    go (some c) q h = (c, some-injective (erase c) k h, past_is ts c q)

-- The stack is hardly deeper.
length_c : (k : InCommands) → length (erase_c k) ≤ 1 + length (parts (past_c k))
length_c first_command = omega arith
length_c (after_commands cs) = omega arith
length_c (under_label n k) = length_c k
length_c (then_part x o y k) = rw (if_parts x o y (past_c k)) (omega (arith, length_c k))
length_c (else_part x o y c k) =
    rw (statement_parts c (keyword Then ∷ sum_b y (relation_sign o ∷ sum_b x (keyword If ∷ past_c k))), if_parts x o y (past_c k)) (omega (arith, length_c k))

bounded : (m : ℕ) (k : InCommands) (b : List Token) → parts b ≡ parts (past_c k) → m ≤ length (erase_c k) + 1 → m ≤ 2 + (length (parts b) + depth b)
bounded m k b e h =
    let x : length (erase_c k) ≤ 1 + length (parts (past_c k)) = length_c k in
    let y : length (parts b) ≡ length (parts (past_c k)) = ap length e in
    omega arith

length_e : (k : InCommand) → length (erase_e k) ≤ 2 + (length (parts (past_e k)) + depth (past_e k))
length_e (of_assign n k) = bounded (length (erase_c k)) k (sign Becomes ∷ name n ∷ keyword Let ∷ past_c k) refl (omega arith)
length_e (of_left k) = let x : length (erase_c k) ≤ 1 + length (parts (past_c k)) = length_c k in omega arith
length_e (of_right x o k) =
    let h : length (erase_c k) ≤ 1 + length (parts (past_c k)) = length_c k in
    let e : length (parts (relation_sign o ∷ sum_b x (keyword If ∷ past_c k))) ≡ suc (length (parts (past_c k))) =
    ap length (relation_parts o (sum_b x (keyword If ∷ past_c k)) ∙ (sum_parts x (keyword If ∷ past_c k)).0) in
    omega arith
length_e (of_print k) = bounded (suc (length (erase_c k))) k (keyword Print ∷ past_c k) refl (omega arith)
length_e (of_prints es k) = bounded (suc (length (erase_c k))) k (sign Comma ∷ left_b sum_b (sign Comma) es (keyword Print ∷ past_c k)) (sums_parts es (keyword Print ∷ past_c k)) (omega arith)
length_e (of_group f k) =
    let h : length (erase_e k) ≤ 2 + (length (parts (past_e k)) + depth (past_e k)) = length_e k in
    let p : length (parts (past_f f (past_e k))) ≡ length (parts (past_e k)) = ap length (past_f_parts f (past_e k)).0 in
    let d : depth (past_f f (past_e k)) ≡ depth (past_e k) = (past_f_parts f (past_e k)).1 in
    omega arith

one_more : (m : ℕ) (k : InCommands) (b : List Token) → parts b ≡ parts (past_c k) → m ≤ length (erase_c k) + 1 → m ≤ 3 + (length (parts b) + depth b)
one_more m k b e h = let x = bounded m k b e h in omega arith

length_config : (c : Config) → length (erase c) ≤ 3 + (length (parts (past_of c)) + depth (past_of c))
length_config (start k) = one_more (suc (length (erase_c k))) k (past_c k) refl (omega arith)
length_config (labelling n k) = one_more (suc (length (erase_c k))) k (name n ∷ past_c k) refl (omega arith)
length_config (let_word k) = one_more (suc (length (erase_c k))) k (keyword Let ∷ past_c k) refl (omega arith)
length_config (let_name n k) = one_more (suc (length (erase_c k))) k (name n ∷ keyword Let ∷ past_c k) refl (omega arith)
length_config (go_word k) = one_more (suc (length (erase_c k))) k (keyword Go ∷ past_c k) refl (omega arith)
length_config (to_word k) = one_more (suc (length (erase_c k))) k (keyword To ∷ keyword Go ∷ past_c k) refl (omega arith)
length_config (to_name n k) = one_more (suc (length (erase_c k))) k (name n ∷ keyword To ∷ keyword Go ∷ past_c k) refl (omega arith)
length_config (of_word n k) = one_more (suc (length (erase_c k))) k (keyword Of ∷ name n ∷ keyword To ∷ keyword Go ∷ past_c k) refl (omega arith)
length_config (of_names n ns k) =
    one_more (suc (length (erase_c k))) k (past_of (of_names n ns k)) (names_parts ns (keyword Of ∷ name n ∷ keyword To ∷ keyword Go ∷ past_c k)) (omega arith)
length_config (of_comma n ns k) =
    one_more (suc (length (erase_c k))) k (past_of (of_comma n ns k)) (names_parts ns (keyword Of ∷ name n ∷ keyword To ∷ keyword Go ∷ past_c k)) (omega arith)
length_config (read_word k) = one_more (suc (length (erase_c k))) k (keyword Read ∷ past_c k) refl (omega arith)
length_config (read_names ns k) = one_more (suc (length (erase_c k))) k (past_of (read_names ns k)) (names_parts ns (keyword Read ∷ past_c k)) (omega arith)
length_config (read_comma ns k) = one_more (suc (length (erase_c k))) k (past_of (read_comma ns k)) (names_parts ns (keyword Read ∷ past_c k)) (omega arith)
length_config (print_word k) = one_more (suc (length (erase_c k))) k (keyword Print ∷ past_c k) refl (omega arith)
length_config (operand f k) =
    let h : length (erase_e k) ≤ 2 + (length (parts (past_e k)) + depth (past_e k)) = length_e k in
    let p : length (parts (past_f f (past_e k))) ≡ length (parts (past_e k)) = ap length (past_f_parts f (past_e k)).0 in
    let d : depth (past_f f (past_e k)) ≡ depth (past_e k) = (past_f_parts f (past_e k)).1 in
    omega arith
length_config (after f x k) =
    let h : length (erase_e k) ≤ 2 + (length (parts (past_e k)) + depth (past_e k)) = length_e k in
    let p : length (parts (factor_b x (past_f f (past_e k)))) ≡ length (parts (past_e k)) = ap length ((factor_parts x (past_f f (past_e k))).0 ∙ (past_f_parts f (past_e k)).0) in
    let d : depth (factor_b x (past_f f (past_e k))) ≡ depth (past_e k) = (factor_parts x (past_f f (past_e k))).1 ∙ (past_f_parts f (past_e k)).1 in
    omega arith
length_config (done cs) = omega arith

pub shallow : (ts : List Token) (k : List State) → reach ts ≡ some k → length k ≤ 3 + (length (parts (reverse ts)) + depth (reverse ts))
shallow ts k e =
    let c = reached ts k e in
    subst (λ (b : List Token). length k ≤ 3 + (length (parts b) + depth b)) (sym c.2)
    (subst (λ (s : List State). length s ≤ 3 + (length (parts (past_of c.0)) + depth (past_of c.0))) c.1 (length_config c.0))

-- The role of a name, by the state that it comes at.
starts_c : (k : InCommands) → command_starts (past_c k) ≡ true
starts_c first_command = refl
starts_c (after_commands cs) = refl
starts_c (under_label n k) = refl
starts_c (then_part x o y k) = refl
starts_c (else_part x o y c k) = refl

sums_of : (es : Sums) (b : List Token) → after_of (left_b sum_b (sign Comma) es b) ≡ after_of b
sums_of (sole e) b = sum_after_of e b
sums_of (then l e) b = sum_after_of e (sign Comma ∷ left_b sum_b (sign Comma) l b) ∙ sums_of l b

plain_t : (s : BeforeTerm) (b : List Token) → Plain b → Plain (past_t s b)
plain_t no_sum b p = p
plain_t (sum e o) b p = add_plain o (sum_b e b) (sum_after_of e b ∙ p.no_of)

plain_f : (f : BeforeFactor) (b : List Token) → Plain b → Plain (past_f f b)
plain_f (no_product s) b p = plain_t s b p
plain_f (product s t o) b p = mul_plain o (term_b t (past_t s b)) (term_after_of t (past_t s b) ∙ (plain_t s b p).no_of)

plain_e : (k : InCommand) → Plain (past_e k)
plain_e (of_assign n k) = record { no_start = refl; no_to = refl; no_of = refl }
plain_e (of_left k) = record { no_start = refl; no_to = refl; no_of = refl }
plain_e (of_right x o k) = relation_plain o (sum_b x (keyword If ∷ past_c k)) (sum_after_of x (keyword If ∷ past_c k))
plain_e (of_print k) = record { no_start = refl; no_to = refl; no_of = refl }
plain_e (of_prints es k) = record { no_start = refl; no_to = refl; no_of = sums_of es (keyword Print ∷ past_c k) }
plain_e (of_group f k) = record { no_start = refl; no_to = refl; no_of = (plain_f f (past_e k) (plain_e k)).no_of }

-- after a command or an expression no name comes
no_c : (k : InCommands) (n : Name) → stack_step (erase_c k) (name n) ≡ none
no_c first_command n = refl
no_c (after_commands cs) n = refl
no_c (under_label m k) n = no_c k n
no_c (then_part x o y k) n = refl
no_c (else_part x o y c k) n = no_c k n

no_e : (k : InCommand) (n : Name) → stack_step (erase_e k) (name n) ≡ none
no_e (of_assign m k) n = no_c k n
no_e (of_left k) n = refl
no_e (of_right x o k) n = refl
no_e (of_print k) n = no_c k n
no_e (of_prints es k) n = no_c k n
no_e (of_group f k) n = refl

abbrev top : List State → State
top [] = Next
top (s ∷ k) = s

refused_name : {A : Type 0} {o : Option (List State)} (j : List State) → o ≡ none → o ≡ some j → A
refused_name j p q = absurd (none-ne-some j (sym p ∙ q))

role_config : (c : Config) (j : List State) (n : Name) (r : List Token) → stack_step (erase c) (name n) ≡ some j →
    name_role (past_of c) r ≡ state_role (top (erase c)) (before_of r)
role_config (start k) j n r h = rw (starts_c k)
role_config (labelling m k) j n r h = refused_name j refl h
role_config (let_word k) j n r h = refl
role_config (let_name m k) j n r h = refused_name j refl h
role_config (go_word k) j n r h = refused_name j refl h
role_config (to_word k) j n r h = refl
role_config (to_name m k) j n r h = refused_name j (no_c k n) h
role_config (of_word m k) j n r h = refl
role_config (of_names m ns k) j n r h = refused_name j (no_c k n) h
role_config (of_comma m ns k) j n r h =
    listing_role (past_of (of_comma m ns k)) r (record { no_start = refl; no_to = refl; is_of = labels_of ns (keyword Of ∷ name m ∷ keyword To ∷ keyword Go ∷ past_c k) })
role_config (read_word k) j n r h = refl
role_config (read_names ns k) j n r h = refused_name j (no_c k n) h
role_config (read_comma ns k) j n r h =
    plain_role (past_of (read_comma ns k)) r (record { no_start = refl; no_to = refl; no_of = labels_of ns (keyword Read ∷ past_c k) })
role_config (print_word k) j n r h = refl
role_config (operand f k) j n r h = plain_role (past_f f (past_e k)) r (plain_f f (past_e k) (plain_e k))
role_config (after f x k) j n r h = refused_name j (no_e k n) h
role_config (done cs) j n r h = refused_name j refl h

pub role_by_state : (ts : List Token) (s : State) (k j : List State) (n : Name) (r : List Token) → reach ts ≡ some (s ∷ k) →
    stack_step (s ∷ k) (name n) ≡ some j → name_role (reverse ts) r ≡ state_role s (before_of r)
role_by_state ts s k j n r e h =
    let c = reached ts (s ∷ k) e in
    let g : stack_step (erase c.0) (name n) ≡ some j = ap (λ (x : List State). stack_step x (name n)) c.1 ∙ h in
    ap (λ (b : List Token). name_role b r) c.2 ∙ role_config c.0 j n r g ∙ ap (λ (x : List State). state_role (top x) (before_of r)) c.1

-- Nesting stays within its limits as long as no refusal stands.
pub depth_step : (t : Token) (b : List Token) → depth b ≤ depth_limit → (is (sign Open) t ≡ true → depth b < depth_limit) → depth (t ∷ b) ≤ depth_limit
depth_step t b h g = go (is (sign Open) t) (is (sign Close) t) (in_expression t) g
  where
    go : (x y z : Bool) → (x ≡ true → depth b < depth_limit) → cond x (suc (depth b)) (cond y (pred (depth b)) (cond z (depth b) 0)) ≤ depth_limit
    go x y z f = grind arith

after_else_shorter : (ps : List Part) → length (after_else ps) ≤ length ps
after_else_shorter [] = omega arith
after_else_shorter (in_then ∷ ps) = omega arith
after_else_shorter (in_else ∷ ps) = let h = after_else_shorter ps in omega arith

pub parts_step : (t : Token) (b : List Token) → length (parts b) ≤ depth_limit → (is (keyword If) t ≡ true → length (parts b) < depth_limit) → length (parts (t ∷ b)) ≤ depth_limit
parts_step t b h g = go (is (keyword If) t) (is (keyword Else) t) (is (sign Semicolon) t) g
  where
    go : (x y z : Bool) → (x ≡ true → length (parts b) < depth_limit) → length (cond x (in_then ∷ parts b) (cond y (after_else (parts b)) (cond z [] (parts b)))) ≤ depth_limit
    go true y z f = f refl
    go false true z f = let s = after_else_shorter (parts b) in omega arith
    go false false true f = omega arith
    go false false false f = h

pub nested : (w : Words) (ts : List Token) (k : ℕ) → ((j n : ℕ) → j < k → Rule w ts j n → ⊥) →
    (length (parts (past ts k)) ≤ depth_limit) × (depth (past ts k) ≤ depth_limit)
nested w ts zero h = (omega arith, omega arith)
nested w ts (suc k) h = go (rest ts k) refl (nested w ts k (λ j n l r. h j n (omega arith) r))
  where
    go : (q : List Token) → rest ts k ≡ q → (length (parts (past ts k)) ≤ depth_limit) × (depth (past ts k) ≤ depth_limit) →
        (length (parts (past ts (suc k))) ≤ depth_limit) × (depth (past ts (suc k)) ≤ depth_limit)
    go [] e p =
        let x : past ts (suc k) ≡ past ts k = ap reverse (take_end k ts e) in
        rw x p
    go (t ∷ q) e p =
        let x : past ts (suc k) ≡ t ∷ past ts k = past_next ts k t q e in
        let y : length (parts (t ∷ past ts k)) ≤ depth_limit = parts_step t (past ts k) p.0
        (λ i. elim (cases_lt (length (parts (past ts k))) depth_limit) [ inl l ↦ l | inr g ↦ absurd (h k 10 (omega arith) (deep_if (rw e i) g)) ]) in
        let z : depth (t ∷ past ts k) ≤ depth_limit = depth_step t (past ts k) p.1
        (λ i. elim (cases_lt (depth (past ts k)) depth_limit) [ inl l ↦ l | inr g ↦ absurd (h k 10 (omega arith) (deep_parenthesis (rw e i) g)) ]) in
        rw x (y, z)
