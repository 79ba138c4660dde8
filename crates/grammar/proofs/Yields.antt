-- The rules of the grammar and the tokens of concrete trees say the same.
use Rattle.token.specs.declared.kinds.Keyword.TheVariants.{End, Let, Go, To, Of, Read, Print, If, Then, Else}
use Rattle.token.specs.declared.kinds.Sign.TheVariants.{Semicolon, Colon, Becomes, Open, Close, Comma}
use Rattle.std.proofs.Common.{◌≡◌, List, [], ◌∷◌, ◌++◌, sym, refl, ap, ◌∙◌, subst, append_assoc}
use Rattle.token.specs.Tokens.{Token, name, number, keyword, sign}
use Rattle.trees.specs.Trees.{Name, Expr, binary, Command, labelled, assign, go_to_of, read, print, branch, Program}
use Rattle.trees.specs.declared.relation.Relation.{Relation}
use Rattle.grammar.specs.Grammar.{Parted, one, more, IsOperand, a_variable, a_literal, in_parentheses, IsTerm, an_operand, a_product, a_quotient, IsExpression, a_term, a_sum, a_difference, relation_sign, IsName, a_name, AreNames, AreExpressions, IsCommand, a_label, nothing, a_let, a_go_to, a_go_to_of, a_read_alone, a_read, a_print_alone, a_print, an_if, Parses, program}
use Rattle.grammar.specs.Concrete.{AddSign, adds, takes, MulSign, multiplies, divides, Factor, var, lit, group, Term, factor, multiply, Sum, term, add, Left, sole, then, Names, Sums, Statement, label, nil, set, jump, pick, read_none, read_some, print_none, print_some, test, Statements, add_sign, mul_sign, factor_t, term_t, sum_t, left_t, name_t, statement_t, program_t, add_operator, mul_operator, factor_tree, term_tree, sum_tree, head, tail, same_name, command_tree, program_tree}

-- a concrete tree of the tokens ts with the tree a
record From {C A : Type 0} (tree : C → A) (tokens : C → List Token → List Token) (ts : List Token) (a : A) : Type 0 where
  it : C
  is_tree : tree it ≡ a
  has_tokens : (r : List Token) → tokens it r ≡ ts ++ r

-- in front of a list that grew to the left
abbrev cons : {C : Type 0} → C → Left C → Left C
cons c (sole d) = then (sole c) d
cons c (then l d) = then (cons c l) d

module _ {C : Type 0} (tokens : C → List Token → List Token) (by : Token) where
  cons_tokens : (c : C) (l : Left C) (r : List Token) → left_t tokens by (cons c l) r ≡ tokens c (by ∷ left_t tokens by l r)
  cons_tokens c (sole d) r = refl
  cons_tokens c (then l d) r = cons_tokens c l (by ∷ tokens d r)

module _ {C A : Type 0} (tree : C → A) where
  cons_head : (c : C) (l : Left C) → head tree (cons c l) ≡ tree c
  cons_head c (sole d) = refl
  cons_head c (then l d) = cons_head c l

  cons_tail : (c : C) (l : Left C) → tail tree (cons c l) ≡ head tree l ∷ tail tree l
  cons_tail c (sole d) = refl
  cons_tail c (then l d) = ap (λ x. x ++ tree d ∷ []) (cons_tail c l)

record FromMany {C A : Type 0} (tree : C → A) (tokens : C → List Token → List Token) (by : Token) (ts : List Token) (a : A) (bs : List A) : Type 0 where
  it : Left C
  first_is : head tree it ≡ a
  more_is : tail tree it ≡ bs
  has_tokens : (r : List Token) → left_t tokens by it r ≡ ts ++ r

-- x, the token by, y, and then r
joined : {X Y : Type 0} (f : X → List Token → List Token) (g : Y → List Token → List Token) (x : X) (w : Token) (y : Y) (ts us r : List Token) →
    ((q : List Token) → f x q ≡ ts ++ q) → g y r ≡ us ++ r → f x (w ∷ g y r) ≡ (ts ++ w ∷ us) ++ r
joined f g x w y ts us r p q = p (w ∷ g y r) ∙ ap (λ z. ts ++ w ∷ z) q ∙ sym (append_assoc ts (w ∷ us) r)

module _ {C A : Type 0} (Part : List Token → A → Type 0) (tree : C → A) (tokens : C → List Token → List Token) (by : Token) where
  many_more : {ts us : List Token} {a b : A} {bs : List A} →
      From tree tokens ts a → FromMany tree tokens by us b bs → FromMany tree tokens by (ts ++ by ∷ us) a (b ∷ bs)
  many_more {ts} {us} {a} {b} {bs} x l = record {
    it = cons x.it l.it;
    first_is = cons_head tree x.it l.it ∙ x.is_tree;
    more_is = cons_tail tree x.it l.it ∙ (λ i. l.first_is i ∷ l.more_is i);
    has_tokens = λ r. cons_tokens tokens by x.it l.it r ∙ joined tokens (left_t tokens by) x.it by l.it ts us r x.has_tokens (l.has_tokens r);
  }

  many_to : ((ts : List Token) (a : A) → Part ts a → From tree tokens ts a) →
      {ts : List Token} {a : A} {bs : List A} → Parted Part by ts a bs → FromMany tree tokens by ts a bs
  many_to f (one {ts = ts} {a = a} d) =
      let x = f ts a d in
      record { it = sole x.it; first_is = x.is_tree; more_is = refl; has_tokens = x.has_tokens }
  many_to f (more {ts = ts} {a = a} d ds) = many_more (f ts a d) (many_to f ds)

grouped : {ts : List Token} {e : Expr} → From sum_tree sum_t ts e → From factor_tree factor_t (sign Open ∷ ts ++ sign Close ∷ []) e
grouped {ts} x = record {
  it = group x.it;
  is_tree = x.is_tree;
  has_tokens = λ r. ap (λ y. sign Open ∷ y) (x.has_tokens (sign Close ∷ r) ∙ sym (append_assoc ts (sign Close ∷ []) r));
}

scaled : (o : MulSign) {ts us : List Token} {a b : Expr} → From term_tree term_t ts a → From factor_tree factor_t us b →
    From term_tree term_t (ts ++ mul_sign o ∷ us) (binary (mul_operator o) a b)
scaled o {ts} {us} x y = record {
  it = multiply x.it o y.it;
  is_tree = (λ i. binary (mul_operator o) (x.is_tree i) (y.is_tree i));
  has_tokens = λ r. joined term_t factor_t x.it (mul_sign o) y.it ts us r x.has_tokens (y.has_tokens r);
}

added : (o : AddSign) {ts us : List Token} {a b : Expr} → From sum_tree sum_t ts a → From term_tree term_t us b →
    From sum_tree sum_t (ts ++ add_sign o ∷ us) (binary (add_operator o) a b)
added o {ts} {us} x y = record {
  it = add x.it o y.it;
  is_tree = (λ i. binary (add_operator o) (x.is_tree i) (y.is_tree i));
  has_tokens = λ r. joined sum_t term_t x.it (add_sign o) y.it ts us r x.has_tokens (y.has_tokens r);
}

as_term : {ts : List Token} {e : Expr} → From factor_tree factor_t ts e → From term_tree term_t ts e
as_term x = record { it = factor x.it; is_tree = x.is_tree; has_tokens = x.has_tokens }

as_sum : {ts : List Token} {e : Expr} → From term_tree term_t ts e → From sum_tree sum_t ts e
as_sum x = record { it = term x.it; is_tree = x.is_tree; has_tokens = x.has_tokens }

mutual
  operand_to : {ts : List Token} {e : Expr} → IsOperand ts e → From factor_tree factor_t ts e
  operand_to (a_variable {n = n}) = record { it = var n; is_tree = refl; has_tokens = λ r. refl }
  operand_to (a_literal {n = n}) = record { it = lit n; is_tree = refl; has_tokens = λ r. refl }
  operand_to (in_parentheses d) = grouped (expression_to d)

  term_to : {ts : List Token} {e : Expr} → IsTerm ts e → From term_tree term_t ts e
  term_to (an_operand d) = as_term (operand_to d)
  term_to (a_product d g) = scaled multiplies (term_to d) (operand_to g)
  term_to (a_quotient d g) = scaled divides (term_to d) (operand_to g)

  expression_to : {ts : List Token} {e : Expr} → IsExpression ts e → From sum_tree sum_t ts e
  expression_to (a_term d) = as_sum (term_to d)
  expression_to (a_sum d g) = added adds (expression_to d) (term_to g)
  expression_to (a_difference d g) = added takes (expression_to d) (term_to g)

name_to : (ts : List Token) (n : Name) → IsName ts n → From same_name name_t ts n
name_to ts n (a_name) = record { it = n; is_tree = refl; has_tokens = λ r. refl }

names_to : {ts : List Token} {n : Name} {ns : List Name} → AreNames ts n ns → FromMany same_name name_t (sign Comma) ts n ns
names_to d = many_to IsName same_name name_t (sign Comma) name_to d

expressions_to : {ts : List Token} {e : Expr} {es : List Expr} → AreExpressions ts e es → FromMany sum_tree sum_t (sign Comma) ts e es
expressions_to d = many_to IsExpression sum_tree sum_t (sign Comma) (λ ts e x. expression_to x) d

abbrev FromCommand : List Token → Command → Type 0
FromCommand = From command_tree statement_t

labelled_to : {ts : List Token} {n : Name} {c : Command} → FromCommand ts c → FromCommand (name n ∷ sign Colon ∷ ts) (labelled n c)
labelled_to {n = n} x = record {
  it = label n x.it;
  is_tree = ap (labelled n) x.is_tree;
  has_tokens = λ r. ap (λ y. name n ∷ sign Colon ∷ y) (x.has_tokens r);
}

let_to : {ts : List Token} {n : Name} {e : Expr} → From sum_tree sum_t ts e → FromCommand (keyword Let ∷ name n ∷ sign Becomes ∷ ts) (assign n e)
let_to {n = n} x = record {
  it = set n x.it;
  is_tree = ap (assign n) x.is_tree;
  has_tokens = λ r. ap (λ y. keyword Let ∷ name n ∷ sign Becomes ∷ y) (x.has_tokens r);
}

pick_to : {ts : List Token} {n m : Name} {ms : List Name} → FromMany same_name name_t (sign Comma) ts m ms →
    FromCommand (keyword Go ∷ keyword To ∷ name n ∷ keyword Of ∷ ts) (go_to_of n m ms)
pick_to {n = n} x = record {
  it = pick n x.it;
  is_tree = (λ i. go_to_of n (x.first_is i) (x.more_is i));
  has_tokens = λ r. ap (λ y. keyword Go ∷ keyword To ∷ name n ∷ keyword Of ∷ y) (x.has_tokens r);
}

read_to : {ts : List Token} {n : Name} {ns : List Name} → FromMany same_name name_t (sign Comma) ts n ns →
    FromCommand (keyword Read ∷ ts) (read (n ∷ ns))
read_to x = record {
  it = read_some x.it;
  is_tree = (λ i. read (x.first_is i ∷ x.more_is i));
  has_tokens = λ r. ap (λ y. keyword Read ∷ y) (x.has_tokens r);
}

print_to : {ts : List Token} {e : Expr} {es : List Expr} → FromMany sum_tree sum_t (sign Comma) ts e es →
    FromCommand (keyword Print ∷ ts) (print (e ∷ es))
print_to x = record {
  it = print_some x.it;
  is_tree = (λ i. print (x.first_is i ∷ x.more_is i));
  has_tokens = λ r. ap (λ y. keyword Print ∷ y) (x.has_tokens r);
}

if_to : {ts us vs ws : List Token} {a b : Expr} {c d : Command} (o : Relation) →
    From sum_tree sum_t ts a → From sum_tree sum_t us b → FromCommand vs c → FromCommand ws d →
    FromCommand (keyword If ∷ ts ++ relation_sign o ∷ us ++ keyword Then ∷ vs ++ keyword Else ∷ ws) (branch o a b c d)
if_to {ts} {us} {vs} {ws} o x y c d = record {
  it = test x.it o y.it c.it d.it;
  is_tree = (λ i. branch o (x.is_tree i) (y.is_tree i) (c.is_tree i) (d.is_tree i));
  has_tokens = λ r. simp (x.has_tokens, y.has_tokens, c.has_tokens, d.has_tokens, append_assoc);
}

command_to : {ts : List Token} {c : Command} → IsCommand ts c → FromCommand ts c
command_to (a_label d) = labelled_to (command_to d)
command_to nothing = record { it = nil; is_tree = refl; has_tokens = λ r. refl }
command_to (a_let d) = let_to (expression_to d)
command_to (a_go_to {n = n}) = record { it = jump n; is_tree = refl; has_tokens = λ r. refl }
command_to (a_go_to_of d) = pick_to (names_to d)
command_to a_read_alone = record { it = read_none; is_tree = refl; has_tokens = λ r. refl }
command_to (a_read d) = read_to (names_to d)
command_to a_print_alone = record { it = print_none; is_tree = refl; has_tokens = λ r. refl }
command_to (a_print d) = print_to (expressions_to d)
command_to (an_if {o = o} x y c d) = if_to o (expression_to x) (expression_to y) (command_to c) (command_to d)

commands_to : {ts : List Token} {c : Command} {cs : List Command} → Parted IsCommand (sign Semicolon) ts c cs → FromMany command_tree statement_t (sign Semicolon) ts c cs
commands_to d = many_to IsCommand command_tree statement_t (sign Semicolon) (λ ts c x. command_to x) d

-- what is parsed is the tree of a concrete tree with these tokens
pub parsed_to : {ts : List Token} {p : Program} → Parses ts p → (cs : Statements) × (program_tree cs ≡ p) × (program_t cs ≡ ts)
parsed_to (program d) = whole (commands_to d)
  where
    whole : {ts : List Token} {c : Command} {cs : List Command} → FromMany command_tree statement_t (sign Semicolon) ts c cs →
        (ds : Statements) × (program_tree ds ≡ record { first = c; more = cs }) × (program_t ds ≡ ts ++ keyword End ∷ [])
    whole x = (x.it, (λ i. record { first = x.first_is i; more = x.more_is i }), x.has_tokens (keyword End ∷ []))

-- and each concrete tree reads so
record Into {C A : Type 0} (Part : List Token → A → Type 0) (tree : C → A) (tokens : C → List Token → List Token) (c : C) : Type 0 where
  its : List Token
  derives : Part its (tree c)
  has_tokens : (r : List Token) → tokens c r ≡ its ++ r

from_group : (e : Sum) → Into IsExpression sum_tree sum_t e → Into IsOperand factor_tree factor_t (group e)
from_group e x = record {
  its = sign Open ∷ x.its ++ sign Close ∷ [];
  derives = in_parentheses x.derives;
  has_tokens = λ r. ap (λ y. sign Open ∷ y) (x.has_tokens (sign Close ∷ r) ∙ sym (append_assoc x.its (sign Close ∷ []) r));
}

from_factor : (f : Factor) → Into IsOperand factor_tree factor_t f → Into IsTerm term_tree term_t (factor f)
from_factor f x = record { its = x.its; derives = an_operand x.derives; has_tokens = x.has_tokens }

from_multiply : (t : Term) (o : MulSign) (f : Factor) → Into IsTerm term_tree term_t t → Into IsOperand factor_tree factor_t f → Into IsTerm term_tree term_t (multiply t o f)
from_multiply t o f x y = record {
  its = x.its ++ mul_sign o ∷ y.its;
  derives = derived o;
  has_tokens = λ r. joined term_t factor_t t (mul_sign o) f x.its y.its r x.has_tokens (y.has_tokens r);
}
  where
    derived : (q : MulSign) → IsTerm (x.its ++ mul_sign q ∷ y.its) (binary (mul_operator q) (term_tree t) (factor_tree f))
    derived multiplies = a_product x.derives y.derives
    derived divides = a_quotient x.derives y.derives

from_term : (t : Term) → Into IsTerm term_tree term_t t → Into IsExpression sum_tree sum_t (term t)
from_term t x = record { its = x.its; derives = a_term x.derives; has_tokens = x.has_tokens }

from_add : (e : Sum) (o : AddSign) (t : Term) → Into IsExpression sum_tree sum_t e → Into IsTerm term_tree term_t t → Into IsExpression sum_tree sum_t (add e o t)
from_add e o t x y = record {
  its = x.its ++ add_sign o ∷ y.its;
  derives = derived o;
  has_tokens = λ r. joined sum_t term_t e (add_sign o) t x.its y.its r x.has_tokens (y.has_tokens r);
}
  where
    derived : (q : AddSign) → IsExpression (x.its ++ add_sign q ∷ y.its) (binary (add_operator q) (sum_tree e) (term_tree t))
    derived adds = a_sum x.derives y.derives
    derived takes = a_difference x.derives y.derives

mutual
  factor_from : (f : Factor) → Into IsOperand factor_tree factor_t f
  factor_from (var n) = record { its = name n ∷ []; derives = a_variable; has_tokens = λ r. refl }
  factor_from (lit n) = record { its = number n ∷ []; derives = a_literal; has_tokens = λ r. refl }
  factor_from (group e) = from_group e (sum_from e)

  term_from : (t : Term) → Into IsTerm term_tree term_t t
  term_from (factor f) = from_factor f (factor_from f)
  term_from (multiply t o f) = from_multiply t o f (term_from t) (factor_from f)

  sum_from : (e : Sum) → Into IsExpression sum_tree sum_t e
  sum_from (term t) = from_term t (term_from t)
  sum_from (add e o t) = from_add e o t (sum_from e) (term_from t)

module _ {C A : Type 0} (Part : List Token → A → Type 0) (tree : C → A) (tokens : C → List Token → List Token) (by : Token) where
  record IntoMany (l : Left C) : Type 0 where
    its : List Token
    derives : Parted Part by its (head tree l) (tail tree l)
    has_tokens : (r : List Token) → left_t tokens by l r ≡ its ++ r

  snoc : {ts us : List Token} {a c : A} {bs : List A} → Parted Part by ts a bs → Part us c → Parted Part by (ts ++ by ∷ us) a (bs ++ c ∷ [])
  snoc (one d) e = more d (one e)
  snoc {us = us} {c = c} (more {ts = ts} {us = vs} {a = a} {b = b} {bs = bs} d ds) e =
      subst (λ (x : List Token). Parted Part by x a (b ∷ (bs ++ c ∷ []))) (sym (append_assoc ts (by ∷ vs) (by ∷ us))) (more d (snoc ds e))

  from_then : (l : Left C) (c : C) → IntoMany l → Into Part tree tokens c → IntoMany (then l c)
  from_then l c x y = record {
    its = x.its ++ by ∷ y.its;
    derives = snoc x.derives y.derives;
    has_tokens = λ r. joined (left_t tokens by) tokens l by c x.its y.its r x.has_tokens (y.has_tokens r);
  }

  from_sole : (c : C) → Into Part tree tokens c → IntoMany (sole c)
  from_sole c x = record { its = x.its; derives = one x.derives; has_tokens = x.has_tokens }

  many_from : ((c : C) → Into Part tree tokens c) → (l : Left C) → IntoMany l
  many_from f (sole c) = from_sole c (f c)
  many_from f (then l c) = from_then l c (many_from f l) (f c)

name_from : (n : Name) → Into IsName same_name name_t n
name_from n = record { its = name n ∷ []; derives = a_name; has_tokens = λ r. refl }

abbrev IntoNames : Names → Type 0
IntoNames = IntoMany IsName same_name name_t (sign Comma)

abbrev IntoSums : Sums → Type 0
IntoSums = IntoMany IsExpression sum_tree sum_t (sign Comma)

names_from : (ns : Names) → IntoNames ns
names_from ns = many_from IsName same_name name_t (sign Comma) name_from ns

sums_from : (es : Sums) → IntoSums es
sums_from es = many_from IsExpression sum_tree sum_t (sign Comma) sum_from es

abbrev IntoCommand : Statement → Type 0
IntoCommand = Into IsCommand command_tree statement_t

from_label : (n : Name) (c : Statement) → IntoCommand c → IntoCommand (label n c)
from_label n c x = record {
  its = name n ∷ sign Colon ∷ x.its;
  derives = a_label x.derives;
  has_tokens = λ r. ap (λ y. name n ∷ sign Colon ∷ y) (x.has_tokens r);
}

from_set : (n : Name) (e : Sum) → Into IsExpression sum_tree sum_t e → IntoCommand (set n e)
from_set n e x = record {
  its = keyword Let ∷ name n ∷ sign Becomes ∷ x.its;
  derives = a_let x.derives;
  has_tokens = λ r. ap (λ y. keyword Let ∷ name n ∷ sign Becomes ∷ y) (x.has_tokens r);
}

from_pick : (n : Name) (ns : Names) → IntoNames ns → IntoCommand (pick n ns)
from_pick n ns x = record {
  its = keyword Go ∷ keyword To ∷ name n ∷ keyword Of ∷ x.its;
  derives = a_go_to_of x.derives;
  has_tokens = λ r. ap (λ y. keyword Go ∷ keyword To ∷ name n ∷ keyword Of ∷ y) (x.has_tokens r);
}

from_read : (ns : Names) → IntoNames ns → IntoCommand (read_some ns)
from_read ns x = record {
  its = keyword Read ∷ x.its;
  derives = a_read x.derives;
  has_tokens = λ r. ap (λ y. keyword Read ∷ y) (x.has_tokens r);
}

from_print : (es : Sums) → IntoSums es → IntoCommand (print_some es)
from_print es x = record {
  its = keyword Print ∷ x.its;
  derives = a_print x.derives;
  has_tokens = λ r. ap (λ y. keyword Print ∷ y) (x.has_tokens r);
}

from_test : (a : Sum) (o : Relation) (b : Sum) (c d : Statement) →
    Into IsExpression sum_tree sum_t a → Into IsExpression sum_tree sum_t b → IntoCommand c → IntoCommand d → IntoCommand (test a o b c d)
from_test a o b c d x y v w = record {
  its = keyword If ∷ x.its ++ relation_sign o ∷ y.its ++ keyword Then ∷ v.its ++ keyword Else ∷ w.its;
  derives = an_if x.derives y.derives v.derives w.derives;
  has_tokens = λ r. simp (x.has_tokens, y.has_tokens, v.has_tokens, w.has_tokens, append_assoc);
}

statement_from : (c : Statement) → IntoCommand c
statement_from (label n c) = from_label n c (statement_from c)
statement_from nil = record { its = []; derives = nothing; has_tokens = λ r. refl }
statement_from (set n e) = from_set n e (sum_from e)
statement_from (jump n) = record { its = keyword Go ∷ keyword To ∷ name n ∷ []; derives = a_go_to; has_tokens = λ r. refl }
statement_from (pick n ns) = from_pick n ns (names_from ns)
statement_from read_none = record { its = keyword Read ∷ []; derives = a_read_alone; has_tokens = λ r. refl }
statement_from (read_some ns) = from_read ns (names_from ns)
statement_from print_none = record { its = keyword Print ∷ []; derives = a_print_alone; has_tokens = λ r. refl }
statement_from (print_some es) = from_print es (sums_from es)
statement_from (test a o b c d) = from_test a o b c d (sum_from a) (sum_from b) (statement_from c) (statement_from d)

pub parsed_from : (cs : Statements) → Parses (program_t cs) (program_tree cs)
parsed_from cs =
    let x : IntoMany IsCommand command_tree statement_t (sign Semicolon) cs = many_from IsCommand command_tree statement_t (sign Semicolon) statement_from cs in
    subst (λ (ts : List Token). Parses ts (program_tree cs)) (sym (x.has_tokens (keyword End ∷ []))) (program x.derives)
