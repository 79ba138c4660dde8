-- The code of a tree.
-- Cells: 0 is #TEMP, 1 is #ONE and holds 1, 2 to 65 are the temporaries #TEMP1 to #TEMP64, from 66 on variables and numbers.
use Rattle.std.specs.Prelude.{ℕ, ◌+◌, ◌*◌, cond, List, [], ◌∷◌, ◌++◌, map, length}
use Rattle.trees.specs.Trees.{Name, Expr, variable, literal, binary, Command, labelled, empty, assign, go_to, go_to_of, read, print, branch, Program, commands}
use Rattle.trees.specs.declared.operator.Operator.{Operator}
use Rattle.trees.specs.declared.operator.Operator.TheVariants.{Plus as plus, Minus as minus, Times as times, Over as over}
use Rattle.trees.specs.declared.relation.Relation.{Relation}
use Rattle.trees.specs.declared.relation.Relation.TheVariants.{Greater as greater, Equal as equal, Less as less}
use Rattle.runs.specs.Names.{same}
use Rattle.runs.specs.Source.{operators, cost}
use Rattle.runs.specs.Machine.{Instruction, Bru, Brz, Brn, Brp, Ada, Sub, Mul, Div, Lda, Sta, Read, Convert, Newline, Stop, encode}

-- the cell of each variable and of each number, and how many cells are in use
pub record Layout : Type 0 where
  pub variable_cell : Name → ℕ
  pub literal_cell : List ℕ → ℕ
  pub used : ℕ

abbrev pub temp : ℕ
temp = 0

abbrev pub one : ℕ
one = 1

abbrev pub first_temporary : ℕ
first_temporary = 2

abbrev pub first_free : ℕ
first_free = 66

-- Expressions.

abbrev pub operating : Operator → ℕ → Instruction
operating plus a = Ada a
operating minus a = Sub a
operating times a = Mul a
operating over a = Div a

-- the cell of a part's value, when the next temporary is t
abbrev pub cell_of : Layout → ℕ → Expr → ℕ
cell_of k t (variable x) = k.variable_cell x
cell_of k t (literal ds) = k.literal_cell ds
cell_of k t (binary o l r) = t + (operators l + operators r)

-- left, right, then the operator itself: each stores to the next temporary, and none is used twice
abbrev pub operations : Layout → ℕ → Expr → List Instruction
operations k t (variable x) = []
operations k t (literal ds) = []
operations k t (binary o l r) =
    operations k t l ++ (operations k (t + operators l) r ++
    (Lda (cell_of k t l) ∷ operating o (cell_of k (t + operators l) r) ∷ Sta (t + (operators l + operators r)) ∷ []))

-- a whole expression, its value in the accumulator: a lone operand is loaded, else the temporaries begin with #TEMP1
abbrev pub expression : Layout → Expr → List Instruction
expression k (variable x) = Lda (k.variable_cell x) ∷ []
expression k (literal ds) = Lda (k.literal_cell ds) ∷ []
expression k (binary o l r) = operations k first_temporary (binary o l r)

-- Sizes and addresses.

abbrev pub read_size : List Name → ℕ
read_size [] = 1
read_size (x ∷ xs) = 2 + 2 * length xs

abbrev pub values_size : List Expr → ℕ
values_size [] = 0
values_size (e ∷ es) = (cost e + 2) + values_size es

abbrev pub print_size : List Expr → ℕ
print_size [] = 1
print_size (e ∷ es) = values_size (e ∷ es)

-- the words of a command
abbrev pub size : Command → ℕ
size (labelled l c) = size c
size empty = 0
size (assign x e) = cost e + 1
size (go_to l) = 1
size (go_to_of x l ls) = 2 + 2 * length ls
size (read xs) = read_size xs
size (print es) = print_size es
size (branch r e f c d) = (cost e + cost f + 4) + (size c + 1) + size d

abbrev pub sizes : List Command → ℕ
sizes [] = 0
sizes (c ∷ cs) = size c + sizes cs

-- the words of a program: those of its commands, and END's
abbrev pub program_size : Program → ℕ
program_size p = sizes (commands p) + 1

-- the addresses of the parts of an IF that stands at a, and the one past it
abbrev pub then_at : ℕ → Expr → Expr → ℕ
then_at a e f = a + (cost e + cost f + 4)

abbrev pub else_at : ℕ → Expr → Expr → Command → ℕ
else_at a e f c = then_at a e f + (size c + 1)

abbrev pub past : ℕ → Expr → Expr → Command → Command → ℕ
past a e f c d = else_at a e f c + size d

-- the address of a label, if it stands in this command, which stands at a; else `elsewhere`
abbrev pub locate : Name → ℕ → Command → ℕ → ℕ
locate l a (labelled k c) elsewhere = cond (same l k) a (locate l a c elsewhere)
locate l a empty elsewhere = elsewhere
locate l a (assign x e) elsewhere = elsewhere
locate l a (go_to k) elsewhere = elsewhere
locate l a (go_to_of x k ks) elsewhere = elsewhere
locate l a (read xs) elsewhere = elsewhere
locate l a (print es) elsewhere = elsewhere
locate l a (branch r e f c d) elsewhere = locate l (then_at a e f) c (locate l (else_at a e f c) d elsewhere)

abbrev pub locate_all : Name → ℕ → List Command → ℕ
locate_all l a [] = a
locate_all l a (c ∷ cs) = locate l a c (locate_all l (a + size c) cs)

-- the address of a label: that of the next word from where it first stands; END's if it stands nowhere
abbrev pub address_of : Program → Name → ℕ
address_of p l = locate_all l 0 (commands p)

-- Commands.

abbrev pub branching : Relation → ℕ → Instruction
branching greater a = Brn a
branching equal a = Brz a
branching less a = Brp a

-- what compares the accumulator, which holds the second value, with the first, which #TEMP holds
abbrev pub comparing : Instruction
comparing = Sub temp

-- one taken from the accumulator for each further label
abbrev pub tests : (Name → ℕ) → List Name → List Instruction
tests to [] = []
tests to (l ∷ ls) = Sub one ∷ Brz (to l) ∷ tests to ls

abbrev pub reads : Layout → List Name → List Instruction
reads k [] = []
reads k (x ∷ xs) = Read ∷ Sta (k.variable_cell x) ∷ reads k xs

abbrev pub reading : Layout → List Name → List Instruction
reading k [] = Read ∷ []
reading k (x ∷ xs) = reads k (x ∷ xs)

abbrev pub values : Layout → List Expr → List Instruction
values k [] = []
values k (e ∷ es) = expression k e ++ (Convert ∷ Newline ∷ values k es)

abbrev pub printing : Layout → List Expr → List Instruction
printing k [] = Newline ∷ []
printing k (e ∷ es) = values k (e ∷ es)

-- the code of a command that stands at a, given the labels' addresses
abbrev pub code : Layout → (Name → ℕ) → ℕ → Command → List Instruction
code k to a (labelled l c) = code k to a c
code k to a empty = []
code k to a (assign x e) = expression k e ++ (Sta (k.variable_cell x) ∷ [])
code k to a (go_to l) = Bru (to l) ∷ []
code k to a (go_to_of x l ls) = Lda (k.variable_cell x) ∷ Brz (to l) ∷ tests to ls
code k to a (read xs) = reading k xs
code k to a (print es) = printing k es
code k to a (branch r e f c d) =
    expression k e ++ (Sta temp ∷ (expression k f ++ (comparing ∷ branching r (then_at a e f) ∷ Bru (else_at a e f c) ∷
    (code k to (then_at a e f) c ++ (Bru (past a e f c d) ∷ code k to (else_at a e f c) d)))))

-- commands in a row, and END
abbrev pub codes : Layout → (Name → ℕ) → ℕ → List Command → List Instruction
codes k to a [] = Stop ∷ []
codes k to a (c ∷ cs) = code k to a c ++ codes k to (a + size c) cs

abbrev pub instructions : Layout → Program → List Instruction
instructions k p = codes k (address_of p) 0 (commands p)

-- the words of a program
abbrev pub code_of : Layout → Program → List ℕ
code_of k p = map encode (instructions k p)
