-- Programs as trees: what a text means once it is read. Names and numbers are kept as their bytes.
use Rattle.std.specs.Prelude.{ℕ, List, ◌∷◌}
pub use Rattle.trees.specs.declared.operator.Operator.{Operator}
pub use Rattle.trees.specs.declared.operator.Operator.TheVariants.{Plus as plus, Minus as minus, Times as times, Over as over}
pub use Rattle.trees.specs.declared.relation.Relation.{Relation}
pub use Rattle.trees.specs.declared.relation.Relation.TheVariants.{Greater as greater, Equal as equal, Less as less}

abbrev pub Name : Type 0
Name = List ℕ

-- parentheses leave no trace: they only group
pub data Expr : Type 0 where
  variable : Name → Expr
  literal : List ℕ → Expr
  binary : Operator → Expr → Expr → Expr

pub data Command : Type 0 where
  labelled : Name → Command → Command
  empty : Command
  assign : Name → Expr → Command
  go_to : Name → Command
  -- GO TO variable OF first label, further labels
  go_to_of : Name → Name → List Name → Command
  -- with no names it drops one line
  read : List Name → Command
  -- with no expressions it makes a line end
  print : List Expr → Command
  branch : Relation → Expr → Expr → Command → Command → Command

-- the commands of a program, in order, of which there is at least one; END follows the last
pub record Program : Type 0 where
  pub first : Command
  pub more : List Command

abbrev pub commands : Program → List Command
commands p = p.first ∷ p.more
