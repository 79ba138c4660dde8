-- What an assembler holds, as a plan, and what calls keep of the memory that it is lent.
use Rattle.std.specs.Prelude.{◌≡◌, ℕ, Bool, cond, List, [], ◌∷◌, length, Some, None, Option}
use Rattle.stack.specs.Entries.{entries, room}
use Rattle.trees.specs.declared.operator.Operator.{Operator}
use Rattle.assembly.specs.declared.mark.Mark.{Mark}
use Rattle.assembly.specs.declared.mark.Mark.TheVariants.{Blank, Open, Pending}
use Rattle.assembly.specs.Plans.{Plan, Rooms, words, work, planned, plus, reduces, temporary, operation}
use Rattle.assembler.specs.declared.assembler.Assembler.{Assembler}

abbrev pub plan : Assembler → Plan
plan a = planned (words a.code.now a.count) (work (entries a.operators) (entries a.operands) a.temporaries) a.target a.kept a.relation

abbrev pub rooms : Assembler → Rooms
rooms a = record { marks = room a.operators; cells = room a.operands }

-- it is the same memory, as long as it was
pub record Keeps (a b : Assembler) : Type 0 where
  pub lent_code : b.code.ghost_name ≡ a.code.ghost_name
  pub lent_operands : b.operands.items.ghost_name ≡ a.operands.items.ghost_name
  pub lent_operators : b.operators.items.ghost_name ≡ a.operators.items.ghost_name
  pub code_size : length b.code.now ≡ length a.code.now
  pub operands_room : room b.operands ≡ room a.operands
  pub operators_room : room b.operators ≡ room a.operators

-- the operator that is reduced next, if one is: it waits on top, and has its two operands
abbrev pub waiting_operator : Bool → List Mark → List ℕ → Option Operator
waiting_operator all [] cs = None
waiting_operator all (Blank ∷ ms) cs = None
waiting_operator all (Open ∷ ms) cs = None
waiting_operator all (Pending o ∷ ms) [] = None
waiting_operator all (Pending o ∷ ms) (r ∷ []) = None
waiting_operator all (Pending o ∷ ms) (r ∷ l ∷ cs) = cond (reduces all o) (Some o) None

-- an operator that waits on top of two operands leaves the words of the operation, and the next temporary as an operand
abbrev pub Applies : Operator → Plan → Plan → Type 0
Applies o p q =
    (ms : List Mark) (r l : ℕ) (cs : List ℕ) → p.making.marks ≡ Pending o ∷ ms → p.making.cells ≡ r ∷ l ∷ cs →
    q ≡ planned (operation o l r p.making.temporaries p.made) (work ms (temporary p.making.temporaries ∷ cs) (plus p.making.temporaries 1)) p.target p.kept p.relation
