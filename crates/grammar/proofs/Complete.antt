-- The machine reads the tokens of each tree, and ends with that tree.
use Rattle.token.specs.declared.kinds.Keyword.TheVariants.{End, Then, Else}
use Rattle.token.specs.declared.kinds.Sign.TheVariants.{Semicolon, Plus, Minus, Times, Over, Close, Comma}
use Rattle.std.proofs.Common.{◌≡◌, false, cond, List, [], ◌∷◌, refl, ap, ◌∙◌, arith}
use mathlib.Core.Option.{Option, some}
use Rattle.token.specs.Tokens.{Token, name, keyword, sign}
use Rattle.trees.specs.Trees.{Name}
use Rattle.trees.specs.declared.relation.Relation.{Relation}
use Rattle.grammar.specs.Tests.{is}
use Rattle.grammar.specs.Grammar.{relation_sign}
use Rattle.grammar.specs.Concrete.{AddSign, MulSign, Factor, var, lit, group, Term, factor, multiply, Sum, term, add, sole, then, Names, Sums, Statement, label, nil, set, jump, pick, read_none, read_some, print_none, print_some, test, Statements, add_sign, mul_sign, factor_t, term_t, sum_t, names_t, sums_t, statement_t, statements_t, program_t}
use Rattle.grammar.specs.Machine.{InCommands, first_command, after_commands, under_label, then_part, else_part, BeforeTerm, no_sum, sum, BeforeFactor, no_product, product, InCommand, of_assign, of_left, of_right, of_print, of_prints, of_group, Config, start, to_name, of_word, of_names, read_word, read_names, print_word, operand, after, done, choose, fresh, next, finish, more_print, leave, rows, step, go_on, run, begun}

abbrev after_term : BeforeTerm → Term → InCommand → Config
after_term s (factor f) k = after (no_product s) f k
after_term s (multiply t o f) k = after (product s t o) f k

abbrev after_expr : Sum → InCommand → Config
after_expr (term t) k = after_term no_sum t k
after_expr (add e o t) k = after_term (sum e o) t k

times_next : (s : BeforeTerm) (t : Term) (o : MulSign) (k : InCommand) → step (after_term s t k) (mul_sign o) ≡ some (operand (product s t o) k)
times_next s t o k = grind arith

plus_next : (e : Sum) (o : AddSign) (k : InCommand) → step (after_expr e k) (add_sign o) ≡ some (operand (no_product (sum e o)) k)
plus_next e o k = grind arith

-- a token that is no operator
record Quiet (t : Token) : Type 0 where
  times_no : is (sign Times) t ≡ false
  over_no : is (sign Over) t ≡ false
  plus_no : is (sign Plus) t ≡ false
  minus_no : is (sign Minus) t ≡ false

leave_next : (e : Sum) (k : InCommand) {t : Token} → Quiet t → step (after_expr e k) t ≡ choose (leave e k) t
leave_next e k q = grind arith

quiet_close : Quiet (sign Close)
quiet_close = record { times_no = refl; over_no = refl; plus_no = refl; minus_no = refl }

then_on : {a b : Option Config} (r : List Token) → a ≡ b → go_on rows a r ≡ go_on rows b r
then_on r e = ap (λ x. go_on rows x r) e

mutual
  factor_run : (f : Factor) (b : BeforeFactor) (k : InCommand) (r : List Token) → run (operand b k) (factor_t f r) ≡ run (after b f k) r
  factor_run (var n) b k r = refl
  factor_run (lit n) b k r = refl
  factor_run (group e) b k r = expr_run e (of_group b k) (sign Close ∷ r) ∙ then_on r (leave_next e (of_group b k) quiet_close)

  term_run : (t : Term) (s : BeforeTerm) (k : InCommand) (r : List Token) → run (operand (no_product s) k) (term_t t r) ≡ run (after_term s t k) r
  term_run (factor f) s k r = factor_run f (no_product s) k r
  term_run (multiply t o f) s k r =
      term_run t s k (mul_sign o ∷ factor_t f r) ∙ then_on (factor_t f r) (times_next s t o k) ∙ factor_run f (product s t o) k r

  expr_run : (e : Sum) (k : InCommand) (r : List Token) → run (operand fresh k) (sum_t e r) ≡ run (after_expr e k) r
  expr_run (term t) k r = term_run t no_sum k r
  expr_run (add e o t) k r =
      expr_run e k (add_sign o ∷ term_t t r) ∙ then_on (term_t t r) (plus_next e o k) ∙ term_run t (sum e o) k r

expr_end : (e : Sum) (k : InCommand) {t : Token} → Quiet t → (r : List Token) → run (operand fresh k) (sum_t e (t ∷ r)) ≡ go_on rows (choose (leave e k) t) r
expr_end e k {t} q r = expr_run e k (t ∷ r) ∙ then_on r (leave_next e k q)

-- the tokens that may stand after a command
data Ends : Token → Type 0 where
  at_semi : Ends (sign Semicolon)
  at_end : Ends (keyword End)
  at_else : Ends (keyword Else)

ends_quiet : {t : Token} → Ends t → Quiet t
ends_quiet h = grind arith

ends_no_comma : {t : Token} → Ends t → is (sign Comma) t ≡ false
ends_no_comma h = grind arith

of_run : (n : Name) (ns : Names) (k : InCommands) (r : List Token) → run (of_word n k) (names_t ns r) ≡ run (of_names n ns k) r
of_run n (sole m) k r = refl
of_run n (then ns m) k r = of_run n ns k (sign Comma ∷ name m ∷ r)

read_run : (ns : Names) (k : InCommands) (r : List Token) → run (read_word k) (names_t ns r) ≡ run (read_names ns k) r
read_run (sole m) k r = refl
read_run (then ns m) k r = read_run ns k (sign Comma ∷ name m ∷ r)

-- PRINT before an expression is as the start of an expression
factor_starts : (f : Factor) (k : InCommands) (r : List Token) → run (print_word k) (factor_t f r) ≡ run (operand fresh (of_print k)) (factor_t f r)
factor_starts (var n) k r = refl
factor_starts (lit n) k r = refl
factor_starts (group e) k r = refl

term_starts : (t : Term) (k : InCommands) (r : List Token) → run (print_word k) (term_t t r) ≡ run (operand fresh (of_print k)) (term_t t r)
term_starts (factor f) k r = factor_starts f k r
term_starts (multiply t o f) k r = term_starts t k (mul_sign o ∷ factor_t f r)

expr_starts : (e : Sum) (k : InCommands) (r : List Token) → run (print_word k) (sum_t e r) ≡ run (operand fresh (of_print k)) (sum_t e r)
expr_starts (term t) k r = term_starts t k r
expr_starts (add e o t) k r = expr_starts e k (add_sign o ∷ term_t t r)

quiet_comma : Quiet (sign Comma)
quiet_comma = record { times_no = refl; over_no = refl; plus_no = refl; minus_no = refl }

quiet_then : Quiet (keyword Then)
quiet_then = record { times_no = refl; over_no = refl; plus_no = refl; minus_no = refl }

quiet_relation : (o : Relation) → Quiet (relation_sign o)
quiet_relation o = grind arith

relation_next : (a : Sum) (o : Relation) (k : InCommands) → choose (leave a (of_left k)) (relation_sign o) ≡ some (operand fresh (of_right a o k))
relation_next a o k = grind arith

exprs_run : (es : Sums) (k : InCommands) {t : Token} → Quiet t → (r : List Token) → run (print_word k) (sums_t es (t ∷ r)) ≡ go_on rows (choose (more_print es k) t) r
exprs_run (sole e) k {t} q r = expr_starts e k (t ∷ r) ∙ expr_end e (of_print k) q r
exprs_run (then es e) k {t} q r = exprs_run es k quiet_comma (sum_t e (t ∷ r)) ∙ expr_end e (of_prints es k) q r

-- no command goes on with a token of Ends
nothing_next : (k : InCommands) {t : Token} → Ends t → step (start k) t ≡ choose (finish nil k) t
nothing_next k h = grind arith

to_next : (n : Name) (k : InCommands) {t : Token} → Ends t → step (to_name n k) t ≡ choose (finish (jump n) k) t
to_next n k h = grind arith

read_next : (k : InCommands) {t : Token} → Ends t → step (read_word k) t ≡ choose (finish read_none k) t
read_next k h = grind arith

print_next : (k : InCommands) {t : Token} → Ends t → step (print_word k) t ≡ choose (finish print_none k) t
print_next k h = grind arith

comma_next : {t : Token} → Ends t → (a b : Option Config) → cond (is (sign Comma) t) a b ≡ b
comma_next e a b = rw (ends_no_comma e)

command_run : (c : Statement) (k : InCommands) {t : Token} → Ends t → (r : List Token) → run (start k) (statement_t c (t ∷ r)) ≡ go_on rows (choose (finish c k) t) r
command_run (label n c) k e r = command_run c (under_label n k) e r
command_run nil k e r = then_on r (nothing_next k e)
command_run (set n x) k e r = expr_end x (of_assign n k) (ends_quiet e) r
command_run (jump n) k e r = then_on r (to_next n k e)
command_run (pick n ns) k {t} e r = of_run n ns k (t ∷ r) ∙ then_on r (comma_next e _ _)
command_run read_none k e r = then_on r (read_next k e)
command_run (read_some ns) k {t} e r = read_run ns k (t ∷ r) ∙ then_on r (comma_next e _ _)
command_run print_none k e r = then_on r (print_next k e)
command_run (print_some es) k e r = exprs_run es k (ends_quiet e) r ∙ then_on r (comma_next e _ _)
command_run (test a o b c d) k {t} e r =
    expr_end a (of_left k) (quiet_relation o) (sum_t b (keyword Then ∷ statement_t c (keyword Else ∷ statement_t d (t ∷ r))))
    ∙ then_on (sum_t b (keyword Then ∷ statement_t c (keyword Else ∷ statement_t d (t ∷ r)))) (relation_next a o k)
    ∙ expr_end b (of_right a o k) quiet_then (statement_t c (keyword Else ∷ statement_t d (t ∷ r)))
    ∙ command_run c (then_part a o b k) at_else (statement_t d (t ∷ r))
    ∙ command_run d (else_part a o b c k) e r

commands_run : (cs : Statements) {t : Token} → Ends t → (r : List Token) → run begun (statements_t cs (t ∷ r)) ≡ go_on rows (choose (next cs) t) r
commands_run (sole c) e r = command_run c first_command e r
commands_run (then cs c) {t} e r = commands_run cs at_semi (statement_t c (t ∷ r)) ∙ command_run c (after_commands cs) e r

pub program_run : (cs : Statements) → run begun (program_t cs) ≡ some (done cs)
program_run cs = commands_run cs at_end []
