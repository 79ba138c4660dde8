-- The words of a tree, with its labels by name, and the labels that it defines.
use Rattle.std.proofs.Common.{ℕ, List, [], ◌∷◌, ◌++◌, map}
use Rattle.trees.specs.Trees.{Name, Expr, Command, labelled, empty, assign, go_to, go_to_of, read, print, branch}
use Rattle.runs.specs.declared.instruction.Instruction.TheVariants.{Bru, Lda, Sta, Sub}
use Rattle.runs.specs.Code.{Layout, temp, one, expression, then_at, else_at, past, branching, comparing, reading, printing}
use Rattle.emission.specs.Draft.{Word, fixed, jump, jump_zero, Definition}

abbrev pub definition : Name → ℕ → Definition
definition n a = record { label = n; address = a }

abbrev pub testing : List Name → List Word
testing [] = []
testing (l ∷ ls) = fixed (Sub one) ∷ jump_zero l ∷ testing ls

-- the labels of a command at a, in their order
abbrev pub definitions_of : ℕ → Command → List Definition
definitions_of a (labelled l c) = definition l a ∷ definitions_of a c
definitions_of a empty = []
definitions_of a (assign x e) = []
definitions_of a (go_to l) = []
definitions_of a (go_to_of x l ls) = []
definitions_of a (read xs) = []
definitions_of a (print es) = []
definitions_of a (branch r e f c d) = definitions_of (then_at a e f) c ++ definitions_of (else_at a e f c) d

module _ (y : Layout) where
  abbrev pub whole : Expr → List Word
  whole e = map fixed (expression y e)

  abbrev pub drafted : ℕ → Command → List Word
  drafted a (labelled l c) = drafted a c
  drafted a empty = []
  drafted a (assign x e) = whole e ++ (fixed (Sta (y.variable_cell x)) ∷ [])
  drafted a (go_to l) = jump l ∷ []
  drafted a (go_to_of x l ls) = fixed (Lda (y.variable_cell x)) ∷ jump_zero l ∷ testing ls
  drafted a (read xs) = map fixed (reading y xs)
  drafted a (print es) = map fixed (printing y es)
  drafted a (branch r e f c d) =
      whole e ++ (fixed (Sta temp) ∷ (whole f ++ (fixed comparing ∷ fixed (branching r (then_at a e f)) ∷ fixed (Bru (else_at a e f c)) ∷
      (drafted (then_at a e f) c ++ (fixed (Bru (past a e f c d)) ∷ drafted (else_at a e f c) d)))))
