-- What a program and its cells must meet for its code to do what it says: limits of the text, cells that are apart, and what they hold at first.
use Rattle.std.specs.Prelude.{◌≡◌, ℕ, suc, ◌<◌, ◌≤◌, ◌≢◌, ◌⊎◌, List, [], ◌∷◌, ◌++◌, length, ℤ, pos, slice_index_or}
use Rattle.trees.specs.Trees.{Name, Expr, variable, literal, binary, Command, labelled, empty, assign, go_to, go_to_of, read, print, branch, Program, commands}
use Rattle.arithmetic.specs.Words.{Words}
use Rattle.runs.specs.Source.{operators, decimal}
use Rattle.runs.specs.Code.{Layout, temp, one, first_temporary, first_free, code_of}

-- x stands in a list
abbrev pub Among : {X : Type 0} → X → List X → Type 0
Among x [] = ⊥
Among x (y ∷ ys) = (x ≡ y) ⊎ Among x ys

abbrev pub collected : {X Y : Type 0} → (X → List Y) → List X → List Y
collected f [] = []
collected f (x ∷ xs) = f x ++ collected f xs

-- the variables and the numbers of an expression
abbrev pub variables_in : Expr → List Name
variables_in (variable x) = x ∷ []
variables_in (literal ds) = []
variables_in (binary o l r) = variables_in l ++ variables_in r

abbrev pub literals_in : Expr → List (List ℕ)
literals_in (variable x) = []
literals_in (literal ds) = ds ∷ []
literals_in (binary o l r) = literals_in l ++ literals_in r

-- the variables that a command names
abbrev pub variables : Command → List Name
variables (labelled l c) = variables c
variables empty = []
variables (assign x e) = x ∷ variables_in e
variables (go_to l) = []
variables (go_to_of x l ls) = x ∷ []
variables (read xs) = xs
variables (print es) = collected variables_in es
variables (branch r e f c d) = variables_in e ++ (variables_in f ++ (variables c ++ variables d))

-- the numbers that it writes
abbrev pub literals : Command → List (List ℕ)
literals (labelled l c) = literals c
literals empty = []
literals (assign x e) = literals_in e
literals (go_to l) = []
literals (go_to_of x l ls) = []
literals (read xs) = []
literals (print es) = collected literals_in es
literals (branch r e f c d) = literals_in e ++ (literals_in f ++ (literals c ++ literals d))

-- its whole expressions: those that are not part of another
abbrev pub wholes : Command → List Expr
wholes (labelled l c) = wholes c
wholes empty = []
wholes (assign x e) = e ∷ []
wholes (go_to l) = []
wholes (go_to_of x l ls) = []
wholes (read xs) = []
wholes (print es) = es
wholes (branch r e f c d) = e ∷ f ∷ (wholes c ++ wholes d)

-- how many labels stand after each OF
abbrev pub picks : Command → List ℕ
picks (labelled l c) = picks c
picks empty = []
picks (assign x e) = []
picks (go_to l) = []
picks (go_to_of x l ls) = suc (length ls) ∷ []
picks (read xs) = []
picks (print es) = []
picks (branch r e f c d) = picks c ++ picks d

abbrev pub Variable : Program → Name → Type 0
Variable p x = Among x (collected variables (commands p))

abbrev pub Literal : Program → List ℕ → Type 0
Literal p ds = Among ds (collected literals (commands p))

-- the limits that a program keeps, and where its variables and numbers have their cells
pub record Placed (k : Layout) (p : Program) : Type 0 where
  -- the fixed cells are in use, and no more than 512 are
  pub fixed : first_free ≤ k.used
  pub few : k.used ≤ 512
  -- a variable has a cell in use past the fixed ones, which no other has
  pub variable_past : (x : Name) → Variable p x → first_free ≤ k.variable_cell x
  pub variable_used : (x : Name) → Variable p x → k.variable_cell x < k.used
  pub variable_own : (x y : Name) → Variable p x → Variable p y → k.variable_cell x ≡ k.variable_cell y → x ≡ y
  -- so has a number; it may share it with a number
  pub literal_past : (ds : List ℕ) → Literal p ds → first_free ≤ k.literal_cell ds
  pub literal_used : (ds : List ℕ) → Literal p ds → k.literal_cell ds < k.used
  pub literal_own : (ds : List ℕ) (x : Name) → Literal p ds → Variable p x → k.literal_cell ds ≢ k.variable_cell x
  -- at most 64 operators in a whole expression, 64 labels after OF, 4,096 words of code
  pub few_operators : (e : Expr) → Among e (collected wholes (commands p)) → operators e ≤ 64
  pub few_labels : (n : ℕ) → Among n (collected picks (commands p)) → n ≤ 64
  pub short : length (code_of k p) ≤ 4096

-- what the cells hold when a run begins: 1 in #ONE, 0 for each variable, its fitted value for each number; temporaries may hold anything
pub record Ready (w : Words) (k : Layout) (p : Program) (s : List ℤ) : Type 0 where
  pub all_there : k.used ≤ length s
  pub one_held : slice_index_or s one (pos 0) ≡ pos 1
  pub variable_zero : (x : Name) → Variable p x → slice_index_or s (k.variable_cell x) (pos 0) ≡ pos 0
  pub literal_held : (ds : List ℕ) → Literal p ds → slice_index_or s (k.literal_cell ds) (pos 0) ≡ w.fit (pos (decimal ds))

-- the cells that a program's code writes: #TEMP, the temporaries, its variables
pub data Written (k : Layout) (p : Program) : ℕ → Type 0 where
  to_temp : Written k p temp
  to_temporary : {c : ℕ} → first_temporary ≤ c → c < first_free → Written k p c
  to_variable : {x : Name} → Variable p x → Written k p (k.variable_cell x)
