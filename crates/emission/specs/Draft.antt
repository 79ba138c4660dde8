-- A draft: the code of the tokens so far, and what is still open in it.
use Rattle.std.specs.Prelude.{ℕ, zero, suc, pred, ◌+◌, Bool, true, false, cond, List, [], ◌∷◌, map, reverse, length, ◌==◌}
use mathlib.Core.List.{reverse_aux}
use Rattle.trees.specs.Trees.{Name}
use Rattle.trees.specs.declared.operator.Operator.{Operator}
use Rattle.trees.specs.declared.operator.Operator.TheVariants.{Plus as plus, Minus as minus, Times as times, Over as over}
use Rattle.trees.specs.declared.relation.Relation.{Relation}
use Rattle.trees.specs.declared.relation.Relation.TheVariants.{Greater as greater}
use Rattle.runs.specs.Names.{same}
use Rattle.runs.specs.declared.instruction.Instruction.{Instruction}
use Rattle.runs.specs.declared.instruction.Instruction.TheVariants.{Bru, Brz, Lda, Sta}
use Rattle.runs.specs.Machine.{encode}
use Rattle.runs.specs.Code.{first_temporary, operating}

-- a word of a draft: an instruction, or a jump to a label by its name, always or where the accumulator is zero
pub data Word : Type 0 where
  fixed : Instruction → Word
  jump : Name → Word
  jump_zero : Name → Word

-- what waits on the operator stack
pub data Mark : Type 0 where
  pending : Operator → Mark
  parenthesis : Mark

-- an expression in the making: operators and open parentheses, the cells of operands, the number of temporaries that the
-- whole expression has used, and the words so far; all newest first
pub record Work : Type 0 where
  pub marks : List Mark
  pub cells : List ℕ
  pub temporaries : ℕ
  pub words : List Word

abbrev pub work : List Mark → List ℕ → ℕ → List Word → Work
work ms cs n ws = record { marks = ms; cells = cs; temporaries = n; words = ws }

-- between expressions only words are left
abbrev pub idle : List Word → Work
idle ws = work [] [] 0 ws

-- a label and the address of the next word from where it stands
pub record Definition : Type 0 where
  pub label : Name
  pub address : ℕ

-- a draft: the work, the labels defined so far, newest first, and what is kept between two tokens of a command:
-- the target's cell of LET, the name after GO TO, the relation of IF. Each is blank but between the two.
pub record Draft : Type 0 where
  pub making : Work
  pub definitions : List Definition
  pub target : ℕ
  pub kept : Name
  pub relation : Relation

abbrev pub draft : Work → List Definition → ℕ → Name → Relation → Draft
draft y ds t n r = record { making = y; definitions = ds; target = t; kept = n; relation = r }

abbrev pub no_target : ℕ
no_target = 0

abbrev pub no_name : Name
no_name = []

abbrev pub no_relation : Relation
no_relation = greater

-- a draft with nothing kept
abbrev pub plain : Work → List Definition → Draft
plain y ds = draft y ds no_target no_name no_relation

abbrev pub blank : Draft
blank = plain (idle []) []

-- Words.

-- the words of a draft
abbrev pub words_of : Draft → List Word
words_of d = d.making.words

-- how many, which is the next word's address
abbrev pub here : Draft → ℕ
here d = length (words_of d)

abbrev pub with_work : Work → Draft → Draft
with_work y d = draft y d.definitions d.target d.kept d.relation

-- words put behind those of the work, in their order
abbrev pub put : List Word → Work → Work
put ws y = work y.marks y.cells y.temporaries (reverse_aux ws y.words)

abbrev pub emit : List Word → Draft → Draft
emit ws d = with_work (put ws d.making) d

-- words with a jump to t in place of the one at the address j
unfoldable pub patch : ℕ → ℕ → List Word → List Word
patch j t [] = []
patch j t (w ∷ ws) = cond (length ws == j) (fixed (Bru t) ∷ ws) (w ∷ patch j t ws)

-- the jump before the address a now leads to the next word
abbrev pub land : ℕ → Draft → Draft
land a d = with_work (work d.making.marks d.making.cells d.making.temporaries (patch (pred a) (here d) (words_of d))) d

-- Expressions by two stacks.

abbrev pub any : Operator → Bool
any o = true

abbrev pub binds : Operator → Bool
binds plus = false
binds minus = false
binds times = true
binds over = true

-- one operation: left and right by their cells, the result to the next temporary
abbrev pub operation : Operator → ℕ → ℕ → ℕ → List Word → List Word
operation o l r n ws = fixed (Sta (first_temporary + n)) ∷ fixed (operating o r) ∷ fixed (Lda l) ∷ ws

-- reduce while an operator that passes the test is on top
abbrev pub reduce : (Operator → Bool) → List Mark → List ℕ → ℕ → List Word → Work
reduce p [] cs n ws = work [] cs n ws
reduce p (parenthesis ∷ ms) cs n ws = work (parenthesis ∷ ms) cs n ws
reduce p (pending o ∷ ms) [] n ws = work (pending o ∷ ms) [] n ws
reduce p (pending o ∷ ms) (r ∷ []) n ws = work (pending o ∷ ms) (r ∷ []) n ws
reduce p (pending o ∷ ms) (r ∷ l ∷ cs) n ws =
    cond (p o) (reduce p ms ((first_temporary + n) ∷ cs) (suc n) (operation o l r n ws)) (work (pending o ∷ ms) (r ∷ l ∷ cs) n ws)

abbrev pub reduced : (Operator → Bool) → Work → Work
reduced p y = reduce p y.marks y.cells y.temporaries y.words

abbrev pub push : Operator → Work → Work
push o y = work (pending o ∷ y.marks) y.cells y.temporaries y.words

abbrev pub operand : ℕ → Work → Work
operand c y = work y.marks (c ∷ y.cells) y.temporaries y.words

abbrev pub opened : Work → Work
opened y = work (parenthesis ∷ y.marks) y.cells y.temporaries y.words

-- without the open parenthesis on top
abbrev pub unmarked : List Mark → List Mark
unmarked [] = []
unmarked (parenthesis ∷ ms) = ms
unmarked (pending o ∷ ms) = pending o ∷ ms

abbrev pub closed : Work → Work
closed y = work (unmarked y.marks) y.cells y.temporaries y.words

-- a lone operand is loaded
abbrev pub loaded : List ℕ → ℕ → List Word → List Word
loaded [] n ws = ws
loaded (c ∷ cs) zero ws = fixed (Lda c) ∷ ws
loaded (c ∷ cs) (suc n) ws = ws

-- at the end of an expression whose operators are reduced: inside parentheses nothing more; a whole one leaves its value
-- in the accumulator
abbrev pub left_off : List Mark → List ℕ → ℕ → List Word → Work
left_off [] cs n ws = idle (loaded cs n ws)
left_off (parenthesis ∷ ms) cs n ws = work (parenthesis ∷ ms) cs n ws
left_off (pending o ∷ ms) cs n ws = work (pending o ∷ ms) cs n ws

abbrev pub ended : Work → Work
ended y = left_off y.marks y.cells y.temporaries y.words

-- Labels.

-- the address of a label by the definitions, of which the oldest counts; else `elsewhere`
abbrev pub address_in : List Definition → Name → ℕ → ℕ
address_in [] l elsewhere = elsewhere
address_in (d ∷ ds) l elsewhere = address_in ds l (cond (same l d.label) d.address elsewhere)

-- in a whole draft: that of the last word, which is END's, if the label stands nowhere
abbrev pub label_address : Draft → Name → ℕ
label_address d l = address_in d.definitions l (pred (here d))

abbrev pub resolved : (Name → ℕ) → Word → Instruction
resolved to (fixed i) = i
resolved to (jump l) = Bru (to l)
resolved to (jump_zero l) = Brz (to l)

-- the instructions of a whole draft, in their order, and its words
abbrev pub settled : Draft → List Instruction
settled d = map (resolved (label_address d)) (reverse (words_of d))

abbrev pub settled_words : Draft → List ℕ
settled_words d = map encode (settled d)
