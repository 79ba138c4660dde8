-- What the limits mean for a program's tree.
use Rattle.std.specs.Prelude.{◌≡◌, ℕ, suc, ◌+◌, ◌≤◌, true, List, [], ◌∷◌, ◌++◌, length}
use Rattle.trees.specs.Trees.{Name, Expr, variable, literal, binary, Command, labelled, empty, assign, go_to, go_to_of, read, print, branch, Program, commands}
use Rattle.limits.specs.Uses.{Role, definition, target, listed, variable_use, number_use, Use, made, In, is_definition}
use Rattle.limits.specs.Rules.{operator_limit, list_limit}

-- The uses of a tree, in the order of its tokens.

abbrev pub expression_uses : Expr → List Use
expression_uses (variable x) = made variable_use x ∷ []
expression_uses (literal d) = made number_use d ∷ []
expression_uses (binary o a b) = expression_uses a ++ expression_uses b

abbrev pub name_uses : Role → Name → List Use
name_uses r x = made r x ∷ []

-- the uses of each, one after the other
abbrev pub each : {A : Type 0} → (A → List Use) → List A → List Use
each f [] = []
each f (x ∷ xs) = f x ++ each f xs

abbrev pub command_uses : Command → List Use
command_uses (labelled x c) = made definition x ∷ command_uses c
command_uses empty = []
command_uses (assign x e) = made variable_use x ∷ expression_uses e
command_uses (go_to x) = made target x ∷ []
command_uses (go_to_of x l ls) = made variable_use x ∷ each (name_uses listed) (l ∷ ls)
command_uses (read xs) = each (name_uses variable_use) xs
command_uses (print es) = each expression_uses es
command_uses (branch o a b c d) = expression_uses a ++ (expression_uses b ++ (command_uses c ++ command_uses d))

abbrev pub program_uses : Program → List Use
program_uses p = each command_uses (commands p)

-- The limits of a tree.

abbrev pub operator_count : Expr → ℕ
operator_count (variable x) = 0
operator_count (literal d) = 0
operator_count (binary o a b) = suc (operator_count a + operator_count b)

-- a whole expression has at most 64 operators
abbrev pub Small : Expr → Type 0
Small e = operator_count e ≤ operator_limit

-- each of a list
abbrev pub All : {A : Type 0} → (A → Type 0) → List A → Type 0
All P [] = Unit {0}
All P (x ∷ xs) = P x × All P xs

-- the whole expressions of a command are small, and at most 64 labels stand after OF
abbrev pub Fits : Command → Type 0
Fits (labelled x c) = Fits c
Fits empty = Unit {0}
Fits (assign x e) = Small e
Fits (go_to x) = Unit {0}
Fits (go_to_of x l ls) = suc (length ls) ≤ list_limit
Fits (read xs) = Unit {0}
Fits (print es) = All Small es
Fits (branch o a b c d) = Small a × Small b × Fits c × Fits d

-- no label is defined twice: none of the uses behind a definition is the same definition
abbrev pub Once : List Use → Type 0
Once [] = Unit {0}
Once (u ∷ us) = (is_definition u.role ≡ true → In u us → ⊥) × Once us
