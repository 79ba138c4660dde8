-- What the tree of a program has, as the limits say it and as runs say it.
use Rattle.std.proofs.Common.{◌≡◌, ℕ, suc, ◌+◌, ◌≤◌, ◌⊎◌, List, [], ◌∷◌, ◌++◌, sym, refl, ap, ◌∙◌, subst, inl, inr, append_assoc, append-nil, arith}
use Rattle.token.specs.Numbers as text
use Rattle.token.proofs.Decimals.{decimal_push}
use Rattle.trees.specs.Trees.{Name, Expr, variable, literal, binary, Command, labelled, empty, assign, go_to, go_to_of, read, print, branch}
use Rattle.limits.specs.Uses.{definition, variable_use, number_use, listed, Use, made, In, at_head, in_tail}
use Rattle.limits.specs.Programs.{expression_uses, name_uses, each, command_uses, operator_count, Small, All, Fits}
use Rattle.runs.specs.Source.{operators, decimal_from, decimal}
use Rattle.runs.specs.Placed.{Among, collected, variables_in, literals_in, variables, literals, wholes, picks}

-- the number that digits write is the same for tokens and for runs
decimal_on : (bs cs : List ℕ) → decimal_from (text.decimal bs) cs ≡ text.decimal (bs ++ cs)
decimal_on bs [] = ap text.decimal (sym (append-nil bs))
decimal_on bs (c ∷ cs) =
    ap (λ (n : ℕ). decimal_from n cs) (sym (decimal_push bs c)) ∙ decimal_on (bs ++ (c ∷ [])) cs ∙ ap text.decimal (append_assoc bs (c ∷ []) cs)

pub same_decimal : (ds : List ℕ) → decimal ds ≡ text.decimal ds
same_decimal ds = decimal_on [] ds

same_count : (e : Expr) → operators e ≡ operator_count e
same_count (variable x) = refl
same_count (literal ds) = refl
same_count (binary o l r) = (λ i. suc (same_count l i + same_count r i))

-- members of lists
module _ {A : Type 0} where
  among_either : (x : A) (xs ys : List A) → Among x (xs ++ ys) → Among x xs ⊎ Among x ys
  among_either x [] ys a = inr a
  among_either x (y ∷ xs) ys (inl e) = inl (inl e)
  among_either x (y ∷ xs) ys (inr a) = go (among_either x xs ys a)
    where
      go : Among x xs ⊎ Among x ys → Among x (y ∷ xs) ⊎ Among x ys
      go (inl b) = inl (inr b)
      go (inr b) = inr b

  in_left : (x : A) (xs ys : List A) → In x xs → In x (xs ++ ys)
  in_left x xs ys at_head = at_head
  in_left x xs ys (in_tail i) = in_tail (in_left x _ ys i)

  in_right : (x : A) (xs ys : List A) → In x ys → In x (xs ++ ys)
  in_right x [] ys i = i
  in_right x (y ∷ xs) ys i = in_tail (in_right x xs ys i)

-- names of one list are uses of another
module _ {X : Type 0} (m : X → Use) where
  abbrev Within : List X → List Use → Type 0
  Within xs us = (x : X) → Among x xs → In (m x) us

  none_within : (us : List Use) → Within [] us
  none_within us x a = absurd a

  within_both : (xs ys : List X) (us vs : List Use) → Within xs us → Within ys vs → Within (xs ++ ys) (us ++ vs)
  within_both xs ys us vs p q x a = go (among_either x xs ys a)
    where
      go : Among x xs ⊎ Among x ys → In (m x) (us ++ vs)
      go (inl b) = in_left (m x) us vs (p x b)
      go (inr b) = in_right (m x) us vs (q x b)

  within_each : {A : Type 0} (f : A → List X) (g : A → List Use) → ((a : A) → Within (f a) (g a)) → (as' : List A) → Within (collected f as') (each g as')
  within_each f g h [] = none_within []
  within_each f g h (b ∷ bs) = within_both (f b) (collected f bs) (g b) (each g bs) (h b) (within_each f g h bs)

  one_within : (y : X) → Within (y ∷ []) (m y ∷ [])
  one_within y x (inl e) = subst (λ (z : X). In (m x) (m z ∷ [])) e at_head
  one_within y x (inr a) = absurd a

  more_within : (u : Use) (xs : List X) (us : List Use) → Within xs us → Within xs (u ∷ us)
  more_within u xs us p x a = in_tail (p x a)

  first_within : (y : X) (xs : List X) (us : List Use) → Within xs us → Within (y ∷ xs) (m y ∷ us)
  first_within y xs us p x (inl e) = subst (λ (z : X). In (m x) (m z ∷ us)) e at_head
  first_within y xs us p x (inr a) = in_tail (p x a)

abbrev variable_made : Name → Use
variable_made = made variable_use

abbrev number_made : List ℕ → Use
number_made = made number_use

variables_of : (e : Expr) → Within variable_made (variables_in e) (expression_uses e)
variables_of (variable x) = one_within variable_made x
variables_of (literal ds) = none_within variable_made (number_made ds ∷ [])
variables_of (binary o l r) = within_both variable_made (variables_in l) (variables_in r) (expression_uses l) (expression_uses r) (variables_of l) (variables_of r)

literals_of : (e : Expr) → Within number_made (literals_in e) (expression_uses e)
literals_of (variable x) = none_within number_made (variable_made x ∷ [])
literals_of (literal ds) = one_within number_made ds
literals_of (binary o l r) = within_both number_made (literals_in l) (literals_in r) (expression_uses l) (expression_uses r) (literals_of l) (literals_of r)

names_of : (xs : List Name) → Within variable_made xs (each (name_uses variable_use) xs)
names_of [] = none_within variable_made []
names_of (x ∷ xs) = first_within variable_made x xs (each (name_uses variable_use) xs) (names_of xs)

pub command_variables : (c : Command) → Within variable_made (variables c) (command_uses c)
command_variables (labelled l c) = more_within variable_made (made definition l) (variables c) (command_uses c) (command_variables c)
command_variables empty = none_within variable_made []
command_variables (assign y e) = first_within variable_made y (variables_in e) (expression_uses e) (variables_of e)
command_variables (go_to l) = none_within variable_made (command_uses (go_to l))
command_variables (go_to_of y l ls) = first_within variable_made y [] (each (name_uses listed) (l ∷ ls)) (none_within variable_made (each (name_uses listed) (l ∷ ls)))
command_variables (read xs) = names_of xs
command_variables (print es) = within_each variable_made variables_in expression_uses variables_of es
command_variables (branch r e f c d) =
    within_both variable_made (variables_in e) (variables_in f ++ (variables c ++ variables d)) (expression_uses e) (expression_uses f ++ (command_uses c ++ command_uses d)) (variables_of e)
    (within_both variable_made (variables_in f) (variables c ++ variables d) (expression_uses f) (command_uses c ++ command_uses d) (variables_of f)
    (within_both variable_made (variables c) (variables d) (command_uses c) (command_uses d) (command_variables c) (command_variables d)))

pub command_literals : (c : Command) → Within number_made (literals c) (command_uses c)
command_literals (labelled l c) = more_within number_made (made definition l) (literals c) (command_uses c) (command_literals c)
command_literals empty = none_within number_made []
command_literals (assign y e) = more_within number_made (variable_made y) (literals_in e) (expression_uses e) (literals_of e)
command_literals (go_to l) = none_within number_made (command_uses (go_to l))
command_literals (go_to_of y l ls) = none_within number_made (command_uses (go_to_of y l ls))
command_literals (read xs) = none_within number_made (command_uses (read xs))
command_literals (print es) = within_each number_made literals_in expression_uses literals_of es
command_literals (branch r e f c d) =
    within_both number_made (literals_in e) (literals_in f ++ (literals c ++ literals d)) (expression_uses e) (expression_uses f ++ (command_uses c ++ command_uses d)) (literals_of e)
    (within_both number_made (literals_in f) (literals c ++ literals d) (expression_uses f) (command_uses c ++ command_uses d) (literals_of f)
    (within_both number_made (literals c) (literals d) (command_uses c) (command_uses d) (command_literals c) (command_literals d)))

pub all_variables : (cs : List Command) → Within variable_made (collected variables cs) (each command_uses cs)
all_variables = within_each variable_made variables command_uses command_variables

pub all_literals : (cs : List Command) → Within number_made (collected literals cs) (each command_uses cs)
all_literals = within_each number_made literals command_uses command_literals

-- the limits of each command hold of each whole expression and each list after OF
small_is : (e f : Expr) → f ≡ e → Small e → operators f ≤ 64
small_is e f q s = let a = ap operators q ∙ same_count e in omega (arith, a, s)

all_small : (es : List Expr) → All Small es → (f : Expr) → Among f es → operators f ≤ 64
all_small [] s f a = absurd a
all_small (e ∷ es) s f (inl q) = small_is e f q s.0
all_small (e ∷ es) s f (inr a) = all_small es s.1 f a

whole_small : (c : Command) → Fits c → (f : Expr) → Among f (wholes c) → operators f ≤ 64
whole_small (labelled l c) s f a = whole_small c s f a
whole_small empty s f a = absurd a
whole_small (assign y e) s f (inl q) = small_is e f q s
whole_small (assign y e) s f (inr a) = absurd a
whole_small (go_to l) s f a = absurd a
whole_small (go_to_of y l ls) s f a = absurd a
whole_small (read xs) s f a = absurd a
whole_small (print es) s f a = all_small es s f a
whole_small (branch r d e b c) s f (inl q) = small_is d f q s.0
whole_small (branch r d e b c) s f (inr (inl q)) = small_is e f q s.1
whole_small (branch r d e b c) s f (inr (inr a)) = go (among_either f (wholes b) (wholes c) a) (whole_small b s.2 f) (whole_small c s.3 f)
  where
    go : Among f (wholes b) ⊎ Among f (wholes c) → (Among f (wholes b) → operators f ≤ 64) → (Among f (wholes c) → operators f ≤ 64) → operators f ≤ 64
    go (inl x) p q = p x
    go (inr x) p q = q x

pick_small : (c : Command) → Fits c → (n : ℕ) → Among n (picks c) → n ≤ 64
pick_small (labelled l c) s n a = pick_small c s n a
pick_small empty s n a = absurd a
pick_small (assign y e) s n a = absurd a
pick_small (go_to l) s n a = absurd a
pick_small (go_to_of y l ls) s n (inl q) = omega (arith, q, s)
pick_small (go_to_of y l ls) s n (inr a) = absurd a
pick_small (read xs) s n a = absurd a
pick_small (print es) s n a = absurd a
pick_small (branch r d e b c) s n a = go (among_either n (picks b) (picks c) a) (pick_small b s.2 n) (pick_small c s.3 n)
  where
    go : Among n (picks b) ⊎ Among n (picks c) → (Among n (picks b) → n ≤ 64) → (Among n (picks c) → n ≤ 64) → n ≤ 64
    go (inl x) p q = p x
    go (inr x) p q = q x

-- what holds of the members of each holds of the members of all
module _ {X : Type 0} (P : X → Type 0) (f : Command → List X) (h : (c : Command) → Fits c → (x : X) → Among x (f c) → P x) where
  all_fit : (cs : List Command) → All Fits cs → (x : X) → Among x (collected f cs) → P x
  all_fit [] s x a = absurd a
  all_fit (c ∷ cs) s x a = go (among_either x (f c) (collected f cs) a) (all_fit cs s.1 x)
    where
      go : Among x (f c) ⊎ Among x (collected f cs) → (Among x (collected f cs) → P x) → P x
      go (inl b) q = h c s.0 x b
      go (inr b) q = q b

pub few_operators : (cs : List Command) → All Fits cs → (e : Expr) → Among e (collected wholes cs) → operators e ≤ 64
few_operators = all_fit (λ (e : Expr). operators e ≤ 64) wholes whole_small

pub few_labels : (cs : List Command) → All Fits cs → (n : ℕ) → Among n (collected picks cs) → n ≤ 64
few_labels = all_fit (λ (n : ℕ). n ≤ 64) picks pick_small
