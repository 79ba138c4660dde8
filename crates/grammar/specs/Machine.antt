-- The machine that builds a concrete tree while it takes token after token: a configuration is a position together
-- with the parts read so far.
use Rattle.token.specs.declared.kinds.Keyword.TheVariants.{End, Let, Go, To, Of, Read, Print, If, Then, Else}
use Rattle.token.specs.declared.kinds.Sign.TheVariants.{Semicolon, Colon, Becomes, Plus, Minus, Times, Over, Open, Close, Comma, Greater, Equal, Less}
use Rattle.std.specs.Prelude.{cond, List, [], ◌∷◌}
use Rattle.std.proofs.Math.Option.{Option, none, some}
use Rattle.token.specs.Tokens.{Token, keyword, sign}
use Rattle.trees.specs.Trees.{Name, Program}
use Rattle.trees.specs.declared.relation.Relation.{Relation}
use Rattle.trees.specs.declared.relation.Relation.TheVariants.{Greater as greater, Equal as equal, Less as less}
use Rattle.grammar.specs.Tests.{is, is_name, is_number, spelling}
use Rattle.grammar.specs.Concrete.{AddSign, adds, takes, MulSign, multiplies, divides, Factor, var, lit, group, Term, factor, multiply, Sum, term, add, sole, then, Names, Sums, Statement, label, nil, set, jump, pick, read_none, read_some, print_none, print_some, test, Statements, program_tree}

-- where a command stands
pub data InCommands : Type 0 where
  first_command : InCommands
  after_commands : Statements → InCommands
  under_label : Name → InCommands → InCommands
  then_part : Sum → Relation → Sum → InCommands → InCommands
  else_part : Sum → Relation → Sum → Statement → InCommands → InCommands

-- what stands before a term of an expression; before a factor of it
pub data BeforeTerm : Type 0 where
  no_sum : BeforeTerm
  sum : Sum → AddSign → BeforeTerm

pub data BeforeFactor : Type 0 where
  no_product : BeforeTerm → BeforeFactor
  product : BeforeTerm → Term → MulSign → BeforeFactor

-- where an expression stands
pub data InCommand : Type 0 where
  of_assign : Name → InCommands → InCommand
  of_left : InCommands → InCommand
  of_right : Sum → Relation → InCommands → InCommand
  of_print : InCommands → InCommand
  of_prints : Sums → InCommands → InCommand
  of_group : BeforeFactor → InCommand → InCommand

pub data Config : Type 0 where
  start : InCommands → Config
  labelling : Name → InCommands → Config
  let_word : InCommands → Config
  let_name : Name → InCommands → Config
  go_word : InCommands → Config
  to_word : InCommands → Config
  to_name : Name → InCommands → Config
  of_word : Name → InCommands → Config
  of_names : Name → Names → InCommands → Config
  of_comma : Name → Names → InCommands → Config
  read_word : InCommands → Config
  read_names : Names → InCommands → Config
  read_comma : Names → InCommands → Config
  print_word : InCommands → Config
  operand : BeforeFactor → InCommand → Config
  after : BeforeFactor → Factor → InCommand → Config
  done : Statements → Config

-- The rows of a configuration: what to do at which token, and else to stop.
pub data Rows (C : Type 0) : Type 0 where
  stop : Rows C
  on : Token → C → Rows C → Rows C
  at_name : (Name → C) → Rows C → Rows C
  at_number : (Name → C) → Rows C → Rows C

-- the first row that fits a token
abbrev pub choose : {C : Type 0} → Rows C → Token → Option C
choose stop t = none
choose (on w c z) t = cond (is w t) (some c) (choose z t)
choose (at_name f z) t = cond (is_name t) (some (f (spelling t))) (choose z t)
choose (at_number f z) t = cond (is_number t) (some (f (spelling t))) (choose z t)

-- the term and the expression that end with a factor
abbrev pub term_of : BeforeFactor → Factor → Term
term_of (no_product s) f = factor f
term_of (product s t o) f = multiply t o f

abbrev pub sum_before : BeforeFactor → BeforeTerm
sum_before (no_product s) = s
sum_before (product s t o) = s

abbrev pub add_to : BeforeTerm → Term → Sum
add_to no_sum t = term t
add_to (sum e o) t = add e o t

abbrev pub whole_of : BeforeFactor → Factor → Sum
whole_of b f = add_to (sum_before b) (term_of b f)

abbrev pub fresh : BeforeFactor
fresh = no_product no_sum

-- after the commands cs
abbrev pub next : Statements → Rows Config
next cs = on (sign Semicolon) (start (after_commands cs)) (on (keyword End) (done cs) stop)

-- after the whole command c
abbrev pub finish : Statement → InCommands → Rows Config
finish c first_command = next (sole c)
finish c (after_commands cs) = next (then cs c)
finish c (under_label n k) = finish (label n c) k
finish c (then_part a o b k) = on (keyword Else) (start (else_part a o b c k)) stop
finish c (else_part a o b d k) = finish (test a o b d c) k

abbrev pub more_print : Sums → InCommands → Rows Config
more_print es k = on (sign Comma) (operand fresh (of_prints es k)) (finish (print_some es) k)

-- after the whole expression e
abbrev pub leave : Sum → InCommand → Rows Config
leave e (of_assign n k) = finish (set n e) k
leave e (of_left k) =
    on (sign Greater) (operand fresh (of_right e greater k))
    (on (sign Equal) (operand fresh (of_right e equal k)) (on (sign Less) (operand fresh (of_right e less k)) stop))
leave e (of_right a o k) = on (keyword Then) (start (then_part a o e k)) stop
leave e (of_print k) = more_print (sole e) k
leave e (of_prints es k) = more_print (then es e) k
leave e (of_group b k) = on (sign Close) (after b (group e) k) stop

abbrev pub begin : BeforeFactor → InCommand → Rows Config → Rows Config
begin b k z =
    at_name (λ n. after b (var n) k) (at_number (λ n. after b (lit n) k) (on (sign Open) (operand fresh (of_group b k)) z))

abbrev pub rows : Config → Rows Config
rows (start k) =
    at_name (λ n. labelling n k)
    (on (keyword Let) (let_word k) (on (keyword Go) (go_word k) (on (keyword Read) (read_word k) (on (keyword Print) (print_word k)
    (on (keyword If) (operand fresh (of_left k)) (finish nil k))))))
rows (labelling n k) = on (sign Colon) (start (under_label n k)) stop
rows (let_word k) = at_name (λ n. let_name n k) stop
rows (let_name n k) = on (sign Becomes) (operand fresh (of_assign n k)) stop
rows (go_word k) = on (keyword To) (to_word k) stop
rows (to_word k) = at_name (λ n. to_name n k) stop
rows (to_name n k) = on (keyword Of) (of_word n k) (finish (jump n) k)
rows (of_word n k) = at_name (λ m. of_names n (sole m) k) stop
rows (of_names n ns k) = on (sign Comma) (of_comma n ns k) (finish (pick n ns) k)
rows (of_comma n ns k) = at_name (λ m. of_names n (then ns m) k) stop
rows (read_word k) = at_name (λ n. read_names (sole n) k) (finish read_none k)
rows (read_names ns k) = on (sign Comma) (read_comma ns k) (finish (read_some ns) k)
rows (read_comma ns k) = at_name (λ n. read_names (then ns n) k) stop
rows (print_word k) = begin fresh (of_print k) (finish print_none k)
rows (operand b k) = begin b k stop
rows (after b f k) =
    on (sign Times) (operand (product (sum_before b) (term_of b f) multiplies) k)
    (on (sign Over) (operand (product (sum_before b) (term_of b f) divides) k)
    (on (sign Plus) (operand (no_product (sum (whole_of b f) adds)) k)
    (on (sign Minus) (operand (no_product (sum (whole_of b f) takes)) k) (leave (whole_of b f) k))))
rows (done cs) = stop

abbrev pub step : Config → Token → Option Config
step c t = choose (rows c) t

-- The machine over any configurations and rows.
abbrev pub go_on : {C : Type 0} → (C → Rows C) → Option C → List Token → Option C
go_on R none ts = none
go_on R (some c) [] = some c
go_on R (some c) (t ∷ ts) = go_on R (choose (R c) t) ts

abbrev pub run : Config → List Token → Option Config
run c ts = go_on rows (some c) ts

abbrev pub begun : Config
begun = start first_command

-- the whole tree, if the machine is done
abbrev pub built : Option Config → Option Program
built none = none
built (some (start k)) = none
built (some (labelling n k)) = none
built (some (let_word k)) = none
built (some (let_name n k)) = none
built (some (go_word k)) = none
built (some (to_word k)) = none
built (some (to_name n k)) = none
built (some (of_word n k)) = none
built (some (of_names n ns k)) = none
built (some (of_comma n ns k)) = none
built (some (read_word k)) = none
built (some (read_names ns k)) = none
built (some (read_comma ns k)) = none
built (some (print_word k)) = none
built (some (operand b k)) = none
built (some (after b f k)) = none
built (some (done cs)) = some (program_tree cs)

-- the tree of a list of tokens, if it is a program
abbrev pub parse : List Token → Option Program
parse ts = built (run begun ts)
