-- A plan: the code of a text in the making, as numbers in memory, and what each action does to it.
use Rattle.std.specs.Prelude.{ℕ, zero, suc, ◌+◌, ◌-◌, min, Bool, true, false, cond, List, [], ◌∷◌, length, nat_lt, slice_set}
use Rattle.trees.specs.declared.operator.Operator.{Operator}
use Rattle.trees.specs.declared.operator.Operator.TheVariants.{Plus, Minus, Times, Over}
use Rattle.trees.specs.declared.relation.Relation.{Relation}
use Rattle.trees.specs.declared.relation.Relation.TheVariants.{Greater}
use Rattle.runs.specs.declared.instruction.Instruction.{Instruction}
use Rattle.runs.specs.declared.instruction.Instruction.TheVariants.{Bru, Sub, Lda, Sta, Read, Convert, Newline, Stop}
use Rattle.emission.specs.declared.action.Action.{Action}
use Rattle.emission.specs.declared.action.Action.TheVariants as action
use Rattle.assembly.specs.declared.mark.Mark.{Mark}
use Rattle.assembly.specs.declared.mark.Mark.TheVariants.{Blank, Open, Pending}
use Rattle.runs.specs.Code.{operating, branching}
use Rattle.assembly.specs.Words.{packed, instruction_word, jump_operation, jump_zero_operation}

-- the words so far: the code, and their number, which stays at 65,535
pub record Words : Type 0 where
  pub code : List ℕ
  pub count : ℕ

abbrev pub words : List ℕ → ℕ → Words
words k n = record { code = k; count = n }

-- an expression in the making: the operators and open parentheses, and the cells of operands, both newest first; and the
-- number of temporaries that it has used
pub record Work : Type 0 where
  pub marks : List Mark
  pub cells : List ℕ
  pub temporaries : ℕ

abbrev pub work : List Mark → List ℕ → ℕ → Work
work ms cs n = record { marks = ms; cells = cs; temporaries = n }

pub record Plan : Type 0 where
  pub made : Words
  pub making : Work
  pub target : ℕ
  pub kept : ℕ
  pub relation : Relation

abbrev pub planned : Words → Work → ℕ → ℕ → Relation → Plan
planned k y t n r = record { made = k; making = y; target = t; kept = n; relation = r }

-- how many entries the two stacks have room for
pub record Rooms : Type 0 where
  pub marks : ℕ
  pub cells : ℕ

abbrev pub with_made : Words → Plan → Plan
with_made k p = planned k p.making p.target p.kept p.relation

abbrev pub with_making : Work → Plan → Plan
with_making y p = planned p.made y p.target p.kept p.relation

abbrev pub with_target : ℕ → Plan → Plan
with_target t p = planned p.made p.making t p.kept p.relation

abbrev pub with_kept : ℕ → Plan → Plan
with_kept n p = planned p.made p.making p.target n p.relation

abbrev pub with_relation : Relation → Plan → Plan
with_relation r p = planned p.made p.making p.target p.kept r

-- Words.

abbrev pub plus : ℕ → ℕ → ℕ
plus m n = min (m + n) 65535

-- one word more; past the end of the code it is only counted
abbrev pub put_word : ℕ → Words → Words
put_word v k = words (slice_set k.code k.count v) (plus k.count 1)

abbrev pub put : Instruction → Words → Words
put i k = put_word (instruction_word i) k

-- the jump before the address a, if there is a word, leads to the next word
abbrev pub land : ℕ → Words → Words
land a k = words (cond (nat_lt (a - 1) k.count) (slice_set k.code (a - 1) (instruction_word (Bru k.count))) k.code) k.count

-- a word more in a plan, and a jump to a label
abbrev pub emit : Instruction → Plan → Plan
emit i p = with_made (put i p.made) p

abbrev pub emit_jump : ℕ → ℕ → Plan → Plan
emit_jump o n p = with_made (put_word (packed o n) p.made) p

-- Expressions.

-- the operator is reduced before any other, or only before one that binds as close
abbrev pub reduces : Bool → Operator → Bool
reduces all Plus = all
reduces all Minus = all
reduces all Times = true
reduces all Over = true

-- the next temporary, when so many are used; #TEMP1 is cell 2
abbrev pub temporary : ℕ → ℕ
temporary n = plus n 2

abbrev pub operation : Operator → ℕ → ℕ → ℕ → Words → Words
operation o l r n k = put (Sta (temporary n)) (put (operating o r) (put (Lda l) k))

abbrev pub reduce : Bool → List Mark → List ℕ → ℕ → Words → Work × Words
reduce all [] cs n k = (work [] cs n, k)
reduce all (Blank ∷ ms) cs n k = (work (Blank ∷ ms) cs n, k)
reduce all (Open ∷ ms) cs n k = (work (Open ∷ ms) cs n, k)
reduce all (Pending o ∷ ms) [] n k = (work (Pending o ∷ ms) [] n, k)
reduce all (Pending o ∷ ms) (r ∷ []) n k = (work (Pending o ∷ ms) (r ∷ []) n, k)
reduce all (Pending o ∷ ms) (r ∷ l ∷ cs) n k =
    cond (reduces all o) (reduce all ms (temporary n ∷ cs) (plus n 1) (operation o l r n k)) (work (Pending o ∷ ms) (r ∷ l ∷ cs) n, k)

abbrev pub reduced_by : Work × Words → Plan → Plan
reduced_by y p = planned y.1 y.0 p.target p.kept p.relation

abbrev pub reduced : Bool → Plan → Plan
reduced all p = reduced_by (reduce all p.making.marks p.making.cells p.making.temporaries p.made) p

-- a stack of which so many entries fit takes one more
abbrev pub pushed : {A : Type 0} → ℕ → A → List A → List A
pushed n x xs = cond (nat_lt (length xs) n) (x ∷ xs) xs

abbrev pub push_mark : ℕ → Mark → Plan → Plan
push_mark n m p = with_making (work (pushed n m p.making.marks) p.making.cells p.making.temporaries) p

abbrev pub push_cell : ℕ → ℕ → Plan → Plan
push_cell n c p = with_making (work p.making.marks (pushed n c p.making.cells) p.making.temporaries) p

abbrev pub binding : Operator → Bool
binding Plus = true
binding Minus = true
binding Times = false
binding Over = false

-- + and - come after all operators before them, * and / after those that bind as close
abbrev pub operate : ℕ → Operator → Plan → Plan
operate n o p = push_mark n (Pending o) (reduced (binding o) p)

-- without the open parenthesis on top
abbrev pub unmarked : List Mark → List Mark
unmarked [] = []
unmarked (Blank ∷ ms) = Blank ∷ ms
unmarked (Open ∷ ms) = ms
unmarked (Pending o ∷ ms) = Pending o ∷ ms

abbrev pub closed : Plan → Plan
closed p = with_making (work (unmarked p.making.marks) p.making.cells p.making.temporaries) p

-- a lone operand is loaded
abbrev pub loaded : List ℕ → ℕ → Words → Words
loaded [] n k = k
loaded (c ∷ cs) zero k = put (Lda c) k
loaded (c ∷ cs) (suc n) k = k

-- a whole expression leaves its value in the accumulator and nothing on the stacks; one in parentheses stays
abbrev pub ended : List Mark → Plan → Plan
ended [] p = planned (loaded p.making.cells p.making.temporaries p.made) (work [] [] 0) p.target p.kept p.relation
ended (m ∷ ms) p = p

abbrev pub end_expression : Plan → Plan
end_expression p = ended p.making.marks p

-- IF.

abbrev pub aside : Relation → Plan → Plan
aside r p = with_relation r (emit (Sta 0) p)

-- the comparison, the jump to the THEN part, which begins two words on, and the jump over it, which has no address yet
abbrev pub begin_then : Plan → Plan
begin_then p = with_relation Greater (emit (Bru 0) (emit (branching p.relation (plus p.made.count 3)) (emit (Sub 0) p)))

abbrev pub land_at : ℕ → Plan → Plan
land_at a p = with_made (land a p.made) p

-- What an action does, by a state that was entered at the address a, at a name or a number that refers to n: a variable or a
-- number by its cell, a label by its symbol.
abbrev pub acted : Rooms → Action → ℕ → ℕ → Plan → Plan
acted q action.Nothing a n p = p
acted q action.DefineLabel a n p = p
acted q action.SetTarget a n p = with_target n p
acted q action.StoreTarget a n p = with_target 0 (emit (Sta p.target) p)
acted q action.KeepName a n p = with_kept n p
acted q action.JumpToName a n p = with_kept 0 (emit_jump jump_operation p.kept p)
acted q action.LoadName a n p = with_kept 0 (emit (Lda p.kept) p)
acted q action.FirstLabel a n p = emit_jump jump_zero_operation n p
acted q action.FurtherLabel a n p = emit_jump jump_zero_operation n (emit (Sub 1) p)
acted q action.ReadName a n p = emit (Sta n) (emit Read p)
acted q action.SkipLine a n p = emit Read p
acted q action.PrintValue a n p = emit Newline (emit Convert p)
acted q action.EndLine a n p = emit Newline p
acted q action.PushVariable a n p = push_cell q.cells n p
acted q action.PushNumber a n p = push_cell q.cells n p
acted q action.OpenGroup a n p = push_mark q.marks Open p
acted q action.CloseGroup a n p = closed p
acted q (action.Operate o) a n p = operate q.marks o p
acted q action.EndExpression a n p = end_expression (reduced true p)
acted q (action.Compare r) a n p = aside r p
acted q action.BeginThen a n p = begin_then p
acted q action.BeginElse a n p = land_at a (emit (Bru 0) p)
acted q action.EndElse a n p = land_at a p
acted q action.EndProgram a n p = emit Stop p
