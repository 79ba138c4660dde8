-- The tokens of a configuration, newest first, and how deep it is nested by them.
use Rattle.token.specs.declared.kinds.Keyword.TheVariants.{End, Let, Go, To, Of, Read, Print, If, Then, Else}
use Rattle.token.specs.declared.kinds.Sign.TheVariants.{Semicolon, Colon, Becomes, Open, Close, Comma}
use Rattle.std.proofs.Common.{◌≡◌, pred, List, [], ◌∷◌, reverse, sym, refl, ap, ◌∙◌, append-nil, arith}
use mathlib.Core.List.{reverse_aux}
use mathlib.Core.Option.{some}
use Rattle.token.specs.Tokens.{Token, name, keyword, sign}
use Rattle.trees.specs.declared.relation.Relation.{Relation}
use Rattle.grammar.specs.Grammar.{relation_sign}
use Rattle.grammar.specs.Concrete.{AddSign, adds, takes, MulSign, multiplies, divides, Factor, var, lit, group, Term, factor, multiply, Sum, term, add, Left, sole, then, Names, Sums, Statement, label, nil, set, jump, pick, read_none, read_some, print_none, print_some, test, Statements, add_sign, mul_sign, factor_t, term_t, sum_t, left_t, name_t, names_t, sums_t, statement_t, statements_t}
use Rattle.grammar.specs.Machine.{InCommands, first_command, after_commands, under_label, then_part, else_part, BeforeTerm, no_sum, sum, BeforeFactor, no_product, product, InCommand, of_assign, of_left, of_right, of_print, of_prints, of_group, Config, start, labelling, let_word, let_name, go_word, to_word, to_name, of_word, of_names, of_comma, read_word, read_names, read_comma, print_word, operand, after, done, run, begun}
use Rattle.grammar.proofs.Sound.{before_c, before_t, before_f, before_e, before, run_reads}
use Rattle.limits.specs.Uses.{depth, in_then, after_else, parts}
use Rattle.limits.proofs.Scans.{factor_b, term_b, sum_b, left_b, statement_b}

-- The tokens read so far, newest first.
abbrev pub past_c : InCommands → List Token
past_c first_command = []
past_c (after_commands cs) = sign Semicolon ∷ left_b statement_b (sign Semicolon) cs []
past_c (under_label n k) = sign Colon ∷ name n ∷ past_c k
past_c (then_part x o y k) = keyword Then ∷ sum_b y (relation_sign o ∷ sum_b x (keyword If ∷ past_c k))
past_c (else_part x o y c k) = keyword Else ∷ statement_b c (keyword Then ∷ sum_b y (relation_sign o ∷ sum_b x (keyword If ∷ past_c k)))

abbrev pub past_t : BeforeTerm → List Token → List Token
past_t no_sum b = b
past_t (sum e o) b = add_sign o ∷ sum_b e b

abbrev pub past_f : BeforeFactor → List Token → List Token
past_f (no_product s) b = past_t s b
past_f (product s t o) b = mul_sign o ∷ term_b t (past_t s b)

abbrev pub past_e : InCommand → List Token
past_e (of_assign n k) = sign Becomes ∷ name n ∷ keyword Let ∷ past_c k
past_e (of_left k) = keyword If ∷ past_c k
past_e (of_right x o k) = relation_sign o ∷ sum_b x (keyword If ∷ past_c k)
past_e (of_print k) = keyword Print ∷ past_c k
past_e (of_prints es k) = sign Comma ∷ left_b sum_b (sign Comma) es (keyword Print ∷ past_c k)
past_e (of_group f k) = sign Open ∷ past_f f (past_e k)

abbrev pub past_of : Config → List Token
past_of (start k) = past_c k
past_of (labelling n k) = name n ∷ past_c k
past_of (let_word k) = keyword Let ∷ past_c k
past_of (let_name n k) = name n ∷ keyword Let ∷ past_c k
past_of (go_word k) = keyword Go ∷ past_c k
past_of (to_word k) = keyword To ∷ keyword Go ∷ past_c k
past_of (to_name n k) = name n ∷ keyword To ∷ keyword Go ∷ past_c k
past_of (of_word n k) = keyword Of ∷ name n ∷ keyword To ∷ keyword Go ∷ past_c k
past_of (of_names n ns k) = left_b name_t (sign Comma) ns (keyword Of ∷ name n ∷ keyword To ∷ keyword Go ∷ past_c k)
past_of (of_comma n ns k) = sign Comma ∷ left_b name_t (sign Comma) ns (keyword Of ∷ name n ∷ keyword To ∷ keyword Go ∷ past_c k)
past_of (read_word k) = keyword Read ∷ past_c k
past_of (read_names ns k) = left_b name_t (sign Comma) ns (keyword Read ∷ past_c k)
past_of (read_comma ns k) = sign Comma ∷ left_b name_t (sign Comma) ns (keyword Read ∷ past_c k)
past_of (print_word k) = keyword Print ∷ past_c k
past_of (operand f k) = past_f f (past_e k)
past_of (after f x k) = factor_b x (past_f f (past_e k))
past_of (done cs) = keyword End ∷ left_b statement_b (sign Semicolon) cs []

mutual
  factor_back : (f : Factor) (r b : List Token) → reverse_aux (factor_t f r) b ≡ reverse_aux r (factor_b f b)
  factor_back (var n) r b = refl
  factor_back (lit n) r b = refl
  factor_back (group e) r b = sum_back e (sign Close ∷ r) (sign Open ∷ b)

  term_back : (t : Term) (r b : List Token) → reverse_aux (term_t t r) b ≡ reverse_aux r (term_b t b)
  term_back (factor f) r b = factor_back f r b
  term_back (multiply t o f) r b = term_back t (mul_sign o ∷ factor_t f r) b ∙ factor_back f r (mul_sign o ∷ term_b t b)

  sum_back : (e : Sum) (r b : List Token) → reverse_aux (sum_t e r) b ≡ reverse_aux r (sum_b e b)
  sum_back (term t) r b = term_back t r b
  sum_back (add e o t) r b = sum_back e (add_sign o ∷ term_t t r) b ∙ term_back t r (add_sign o ∷ sum_b e b)

left_back : {A : Type 0} (f g : A → List Token → List Token) (by : Token) → ((a : A) (r b : List Token) → reverse_aux (f a r) b ≡ reverse_aux r (g a b)) →
    (l : Left A) (r b : List Token) → reverse_aux (left_t f by l r) b ≡ reverse_aux r (left_b g by l b)
left_back f g by h (sole a) r b = h a r b
left_back f g by h (then l a) r b = left_back f g by h l (by ∷ f a r) b ∙ h a r (by ∷ left_b g by l b)

names_back : (ns : Names) (r b : List Token) → reverse_aux (names_t ns r) b ≡ reverse_aux r (left_b name_t (sign Comma) ns b)
names_back ns r b = left_back name_t name_t (sign Comma) (λ n q c. refl) ns r b

sums_back : (es : Sums) (r b : List Token) → reverse_aux (sums_t es r) b ≡ reverse_aux r (left_b sum_b (sign Comma) es b)
sums_back es r b = left_back sum_t sum_b (sign Comma) sum_back es r b

statement_back : (c : Statement) (r b : List Token) → reverse_aux (statement_t c r) b ≡ reverse_aux r (statement_b c b)
statement_back (label n c) r b = statement_back c r (sign Colon ∷ name n ∷ b)
statement_back nil r b = refl
statement_back (set n e) r b = sum_back e r (sign Becomes ∷ name n ∷ keyword Let ∷ b)
statement_back (jump n) r b = refl
statement_back (pick n ns) r b = names_back ns r (keyword Of ∷ name n ∷ keyword To ∷ keyword Go ∷ b)
statement_back read_none r b = refl
statement_back (read_some ns) r b = names_back ns r (keyword Read ∷ b)
statement_back print_none r b = refl
statement_back (print_some es) r b = sums_back es r (keyword Print ∷ b)
statement_back (test x o y c d) r b =
    sum_back x (relation_sign o ∷ sum_t y (keyword Then ∷ statement_t c (keyword Else ∷ statement_t d r))) (keyword If ∷ b)
    ∙ sum_back y (keyword Then ∷ statement_t c (keyword Else ∷ statement_t d r)) (relation_sign o ∷ sum_b x (keyword If ∷ b))
    ∙ statement_back c (keyword Else ∷ statement_t d r) (keyword Then ∷ sum_b y (relation_sign o ∷ sum_b x (keyword If ∷ b)))
    ∙ statement_back d r (keyword Else ∷ statement_b c (keyword Then ∷ sum_b y (relation_sign o ∷ sum_b x (keyword If ∷ b))))

statements_back : (cs : Statements) (r b : List Token) → reverse_aux (statements_t cs r) b ≡ reverse_aux r (left_b statement_b (sign Semicolon) cs b)
statements_back cs r b = left_back statement_t statement_b (sign Semicolon) statement_back cs r b

back_c : (k : InCommands) (r : List Token) → reverse_aux (before_c k r) [] ≡ reverse_aux r (past_c k)
back_c first_command r = refl
back_c (after_commands cs) r = statements_back cs (sign Semicolon ∷ r) []
back_c (under_label n k) r = back_c k (name n ∷ sign Colon ∷ r)
back_c (then_part x o y k) r =
    back_c k (keyword If ∷ sum_t x (relation_sign o ∷ sum_t y (keyword Then ∷ r)))
    ∙ sum_back x (relation_sign o ∷ sum_t y (keyword Then ∷ r)) (keyword If ∷ past_c k)
    ∙ sum_back y (keyword Then ∷ r) (relation_sign o ∷ sum_b x (keyword If ∷ past_c k))
back_c (else_part x o y c k) r =
    back_c k (keyword If ∷ sum_t x (relation_sign o ∷ sum_t y (keyword Then ∷ statement_t c (keyword Else ∷ r))))
    ∙ sum_back x (relation_sign o ∷ sum_t y (keyword Then ∷ statement_t c (keyword Else ∷ r))) (keyword If ∷ past_c k)
    ∙ sum_back y (keyword Then ∷ statement_t c (keyword Else ∷ r)) (relation_sign o ∷ sum_b x (keyword If ∷ past_c k))
    ∙ statement_back c (keyword Else ∷ r) (keyword Then ∷ sum_b y (relation_sign o ∷ sum_b x (keyword If ∷ past_c k)))

back_t : (s : BeforeTerm) (r b : List Token) → reverse_aux (before_t s r) b ≡ reverse_aux r (past_t s b)
back_t no_sum r b = refl
back_t (sum e o) r b = sum_back e (add_sign o ∷ r) b

back_f : (f : BeforeFactor) (r b : List Token) → reverse_aux (before_f f r) b ≡ reverse_aux r (past_f f b)
back_f (no_product s) r b = back_t s r b
back_f (product s t o) r b = back_t s (term_t t (mul_sign o ∷ r)) b ∙ term_back t (mul_sign o ∷ r) (past_t s b)

back_e : (k : InCommand) (r : List Token) → reverse_aux (before_e k r) [] ≡ reverse_aux r (past_e k)
back_e (of_assign n k) r = back_c k (keyword Let ∷ name n ∷ sign Becomes ∷ r)
back_e (of_left k) r = back_c k (keyword If ∷ r)
back_e (of_right x o k) r = back_c k (keyword If ∷ sum_t x (relation_sign o ∷ r)) ∙ sum_back x (relation_sign o ∷ r) (keyword If ∷ past_c k)
back_e (of_print k) r = back_c k (keyword Print ∷ r)
back_e (of_prints es k) r = back_c k (keyword Print ∷ sums_t es (sign Comma ∷ r)) ∙ sums_back es (sign Comma ∷ r) (keyword Print ∷ past_c k)
back_e (of_group f k) r = back_e k (before_f f (sign Open ∷ r)) ∙ back_f f (sign Open ∷ r) (past_e k)

back : (c : Config) → reverse (before c []) ≡ past_of c
back (start k) = back_c k []
back (labelling n k) = back_c k (name n ∷ [])
back (let_word k) = back_c k (keyword Let ∷ [])
back (let_name n k) = back_c k (keyword Let ∷ name n ∷ [])
back (go_word k) = back_c k (keyword Go ∷ [])
back (to_word k) = back_c k (keyword Go ∷ keyword To ∷ [])
back (to_name n k) = back_c k (keyword Go ∷ keyword To ∷ name n ∷ [])
back (of_word n k) = back_c k (keyword Go ∷ keyword To ∷ name n ∷ keyword Of ∷ [])
back (of_names n ns k) = back_c k (keyword Go ∷ keyword To ∷ name n ∷ keyword Of ∷ names_t ns []) ∙ names_back ns [] (keyword Of ∷ name n ∷ keyword To ∷ keyword Go ∷ past_c k)
back (of_comma n ns k) = back_c k (keyword Go ∷ keyword To ∷ name n ∷ keyword Of ∷ names_t ns (sign Comma ∷ [])) ∙ names_back ns (sign Comma ∷ []) (keyword Of ∷ name n ∷ keyword To ∷ keyword Go ∷ past_c k)
back (read_word k) = back_c k (keyword Read ∷ [])
back (read_names ns k) = back_c k (keyword Read ∷ names_t ns []) ∙ names_back ns [] (keyword Read ∷ past_c k)
back (read_comma ns k) = back_c k (keyword Read ∷ names_t ns (sign Comma ∷ [])) ∙ names_back ns (sign Comma ∷ []) (keyword Read ∷ past_c k)
back (print_word k) = back_c k (keyword Print ∷ [])
back (operand f k) = back_e k (before_f f []) ∙ back_f f [] (past_e k)
back (after f x k) = back_e k (before_f f (factor_t x [])) ∙ back_f f (factor_t x []) (past_e k) ∙ factor_back x [] (past_f f (past_e k))
back (done cs) = statements_back cs (keyword End ∷ []) []

-- the tokens that the machine has read
pub past_is : (ts : List Token) (c : Config) → run begun ts ≡ some c → reverse ts ≡ past_of c
past_is ts c e =
    let r : before c [] ≡ ts = run_reads begun ts c e [] ∙ append-nil ts in
    ap reverse (sym r) ∙ back c

-- Nesting: an expression leaves it as it was.
pub mul_parts : (o : MulSign) (b : List Token) → (parts (mul_sign o ∷ b) ≡ parts b) × (depth (mul_sign o ∷ b) ≡ depth b)
mul_parts multiplies b = (refl, refl)
mul_parts divides b = (refl, refl)

pub add_parts : (o : AddSign) (b : List Token) → (parts (add_sign o ∷ b) ≡ parts b) × (depth (add_sign o ∷ b) ≡ depth b)
add_parts adds b = (refl, refl)
add_parts takes b = (refl, refl)

pub relation_parts : (o : Relation) (b : List Token) → parts (relation_sign o ∷ b) ≡ parts b
relation_parts o b = grind arith

mutual
  pub factor_parts : (f : Factor) (b : List Token) → (parts (factor_b f b) ≡ parts b) × (depth (factor_b f b) ≡ depth b)
  factor_parts (var n) b = (refl, refl)
  factor_parts (lit n) b = (refl, refl)
  factor_parts (group e) b = let x = sum_parts e (sign Open ∷ b) in (x.0, ap pred x.1)

  pub term_parts : (t : Term) (b : List Token) → (parts (term_b t b) ≡ parts b) × (depth (term_b t b) ≡ depth b)
  term_parts (factor f) b = factor_parts f b
  term_parts (multiply t o f) b =
      let x = factor_parts f (mul_sign o ∷ term_b t b) in
      let y = mul_parts o (term_b t b) in
      let z = term_parts t b in
      (x.0 ∙ y.0 ∙ z.0, x.1 ∙ y.1 ∙ z.1)

  pub sum_parts : (e : Sum) (b : List Token) → (parts (sum_b e b) ≡ parts b) × (depth (sum_b e b) ≡ depth b)
  sum_parts (term t) b = term_parts t b
  sum_parts (add e o t) b =
      let x = term_parts t (add_sign o ∷ sum_b e b) in
      let y = add_parts o (sum_b e b) in
      let z = sum_parts e b in
      (x.0 ∙ y.0 ∙ z.0, x.1 ∙ y.1 ∙ z.1)

pub names_parts : (ns : Names) (b : List Token) → parts (left_b name_t (sign Comma) ns b) ≡ parts b
names_parts (sole n) b = refl
names_parts (then l n) b = names_parts l b

pub sums_parts : (es : Sums) (b : List Token) → parts (left_b sum_b (sign Comma) es b) ≡ parts b
sums_parts (sole e) b = (sum_parts e b).0
sums_parts (then l e) b = (sum_parts e (sign Comma ∷ left_b sum_b (sign Comma) l b)).0 ∙ sums_parts l b

-- from IF to THEN
pub if_parts : (x : Sum) (o : Relation) (y : Sum) (b : List Token) → parts (keyword Then ∷ sum_b y (relation_sign o ∷ sum_b x (keyword If ∷ b))) ≡ in_then ∷ parts b
if_parts x o y b = (sum_parts y (relation_sign o ∷ sum_b x (keyword If ∷ b))).0 ∙ relation_parts o (sum_b x (keyword If ∷ b)) ∙ (sum_parts x (keyword If ∷ b)).0

-- a command may leave ELSE parts open, which the next ELSE ends
pub statement_parts : (c : Statement) (b : List Token) → after_else (parts (statement_b c b)) ≡ after_else (parts b)
statement_parts (label n c) b = statement_parts c (sign Colon ∷ name n ∷ b)
statement_parts nil b = refl
statement_parts (set n e) b = ap after_else (sum_parts e (sign Becomes ∷ name n ∷ keyword Let ∷ b)).0
statement_parts (jump n) b = refl
statement_parts (pick n ns) b = ap after_else (names_parts ns (keyword Of ∷ name n ∷ keyword To ∷ keyword Go ∷ b))
statement_parts read_none b = refl
statement_parts (read_some ns) b = ap after_else (names_parts ns (keyword Read ∷ b))
statement_parts print_none b = refl
statement_parts (print_some es) b = ap after_else (sums_parts es (keyword Print ∷ b))
statement_parts (test x o y c d) b =
    statement_parts d (keyword Else ∷ statement_b c (keyword Then ∷ sum_b y (relation_sign o ∷ sum_b x (keyword If ∷ b))))
    ∙ ap after_else (statement_parts c (keyword Then ∷ sum_b y (relation_sign o ∷ sum_b x (keyword If ∷ b))) ∙ ap after_else (if_parts x o y b))

pub past_t_parts : (s : BeforeTerm) (b : List Token) → (parts (past_t s b) ≡ parts b) × (depth (past_t s b) ≡ depth b)
past_t_parts no_sum b = (refl, refl)
past_t_parts (sum e o) b =
    let x = add_parts o (sum_b e b) in
    let y = sum_parts e b in
    (x.0 ∙ y.0, x.1 ∙ y.1)

pub past_f_parts : (f : BeforeFactor) (b : List Token) → (parts (past_f f b) ≡ parts b) × (depth (past_f f b) ≡ depth b)
past_f_parts (no_product s) b = past_t_parts s b
past_f_parts (product s t o) b =
    let x = mul_parts o (term_b t (past_t s b)) in
    let y = term_parts t (past_t s b) in
    let z = past_t_parts s b in
    (x.0 ∙ y.0 ∙ z.0, x.1 ∙ y.1 ∙ z.1)
