-- Concrete trees: as the grammar's trees, with the parentheses kept and with lists that grow to the left, as they do
-- while tokens are read. They are a device of the proofs and of the parser; each has its tokens and its tree.
use Rattle.token.specs.declared.kinds.Keyword.TheVariants.{End, Let, Go, To, Of, Read, Print, If, Then, Else}
use Rattle.token.specs.declared.kinds.Sign.TheVariants.{Semicolon, Colon, Becomes, Plus, Minus, Times, Over, Open, Close, Comma}
use Rattle.std.specs.Prelude.{ℕ, List, [], ◌∷◌, ◌++◌}
use Rattle.token.specs.Tokens.{Token, name, number, keyword, sign}
use Rattle.trees.specs.Trees.{Name, Expr, variable, literal, binary, Command, labelled, empty, assign, go_to, go_to_of, read, print, branch, Program}
use Rattle.trees.specs.declared.operator.Operator.{Operator}
use Rattle.trees.specs.declared.operator.Operator.TheVariants.{Plus as plus, Minus as minus, Times as times, Over as over}
use Rattle.trees.specs.declared.relation.Relation.{Relation}
use Rattle.grammar.specs.Grammar.{relation_sign}

pub data AddSign : Type 0 where
  adds : AddSign
  takes : AddSign

pub data MulSign : Type 0 where
  multiplies : MulSign
  divides : MulSign

mutual
  pub data Factor : Type 0 where
    var : Name → Factor
    lit : List ℕ → Factor
    group : Sum → Factor

  pub data Term : Type 0 where
    factor : Factor → Term
    multiply : Term → MulSign → Factor → Term

  pub data Sum : Type 0 where
    term : Term → Sum
    add : Sum → AddSign → Term → Sum

-- one or more, the last outermost
pub data Left (A : Type 0) : Type 0 where
  sole : A → Left A
  then : Left A → A → Left A

abbrev pub Names : Type 0
Names = Left Name

abbrev pub Sums : Type 0
Sums = Left Sum

pub data Statement : Type 0 where
  label : Name → Statement → Statement
  nil : Statement
  set : Name → Sum → Statement
  jump : Name → Statement
  pick : Name → Names → Statement
  read_none : Statement
  read_some : Names → Statement
  print_none : Statement
  print_some : Sums → Statement
  test : Sum → Relation → Sum → Statement → Statement → Statement

abbrev pub Statements : Type 0
Statements = Left Statement

-- the tokens of a tree, in front of the tokens r
abbrev pub add_sign : AddSign → Token
add_sign adds = sign Plus
add_sign takes = sign Minus

abbrev pub mul_sign : MulSign → Token
mul_sign multiplies = sign Times
mul_sign divides = sign Over

abbrev mutual
  pub factor_t : Factor → List Token → List Token
  factor_t (var n) r = name n ∷ r
  factor_t (lit n) r = number n ∷ r
  factor_t (group e) r = sign Open ∷ sum_t e (sign Close ∷ r)

  pub term_t : Term → List Token → List Token
  term_t (factor f) r = factor_t f r
  term_t (multiply t o f) r = term_t t (mul_sign o ∷ factor_t f r)

  pub sum_t : Sum → List Token → List Token
  sum_t (term t) r = term_t t r
  sum_t (add e o t) r = sum_t e (add_sign o ∷ term_t t r)

abbrev pub left_t : {A : Type 0} → (A → List Token → List Token) → Token → Left A → List Token → List Token
left_t f by (sole a) r = f a r
left_t f by (then l a) r = left_t f by l (by ∷ f a r)

abbrev pub name_t : Name → List Token → List Token
name_t n r = name n ∷ r

abbrev pub names_t : Names → List Token → List Token
names_t = left_t name_t (sign Comma)

abbrev pub sums_t : Sums → List Token → List Token
sums_t = left_t sum_t (sign Comma)

abbrev pub statement_t : Statement → List Token → List Token
statement_t (label n c) r = name n ∷ sign Colon ∷ statement_t c r
statement_t nil r = r
statement_t (set n e) r = keyword Let ∷ name n ∷ sign Becomes ∷ sum_t e r
statement_t (jump n) r = keyword Go ∷ keyword To ∷ name n ∷ r
statement_t (pick n ns) r = keyword Go ∷ keyword To ∷ name n ∷ keyword Of ∷ names_t ns r
statement_t read_none r = keyword Read ∷ r
statement_t (read_some ns) r = keyword Read ∷ names_t ns r
statement_t print_none r = keyword Print ∷ r
statement_t (print_some es) r = keyword Print ∷ sums_t es r
statement_t (test a o b c d) r =
    keyword If ∷ sum_t a (relation_sign o ∷ sum_t b (keyword Then ∷ statement_t c (keyword Else ∷ statement_t d r)))

abbrev pub statements_t : Statements → List Token → List Token
statements_t = left_t statement_t (sign Semicolon)

abbrev pub program_t : Statements → List Token
program_t cs = statements_t cs (keyword End ∷ [])

-- the tree of a concrete tree
abbrev pub add_operator : AddSign → Operator
add_operator adds = plus
add_operator takes = minus

abbrev pub mul_operator : MulSign → Operator
mul_operator multiplies = times
mul_operator divides = over

abbrev mutual
  pub factor_tree : Factor → Expr
  factor_tree (var n) = variable n
  factor_tree (lit n) = literal n
  factor_tree (group e) = sum_tree e

  pub term_tree : Term → Expr
  term_tree (factor f) = factor_tree f
  term_tree (multiply t o f) = binary (mul_operator o) (term_tree t) (factor_tree f)

  pub sum_tree : Sum → Expr
  sum_tree (term t) = term_tree t
  sum_tree (add e o t) = binary (add_operator o) (sum_tree e) (term_tree t)

-- the first of a list that grew to the left, and the further ones
abbrev pub head : {A B : Type 0} → (A → B) → Left A → B
head f (sole a) = f a
head f (then l a) = head f l

abbrev pub tail : {A B : Type 0} → (A → B) → Left A → List B
tail f (sole a) = []
tail f (then l a) = tail f l ++ f a ∷ []

abbrev pub same_name : Name → Name
same_name n = n

abbrev pub command_tree : Statement → Command
command_tree (label n c) = labelled n (command_tree c)
command_tree nil = empty
command_tree (set n e) = assign n (sum_tree e)
command_tree (jump n) = go_to n
command_tree (pick n ns) = go_to_of n (head same_name ns) (tail same_name ns)
command_tree read_none = read []
command_tree (read_some ns) = read (head same_name ns ∷ tail same_name ns)
command_tree print_none = print []
command_tree (print_some es) = print (head sum_tree es ∷ tail sum_tree es)
command_tree (test a o b c d) = branch o (sum_tree a) (sum_tree b) (command_tree c) (command_tree d)

abbrev pub program_tree : Statements → Program
program_tree cs = record { first = head command_tree cs; more = tail command_tree cs }
