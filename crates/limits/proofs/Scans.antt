-- The uses of a program's tokens are those of its tree.
use Rattle.token.specs.declared.kinds.Keyword.TheVariants.{End, Let, Go, To, Of, Read, Print, If, Then, Else}
use Rattle.token.specs.declared.kinds.Sign.{Sign}
use Rattle.token.specs.declared.kinds.Sign.TheVariants.{Semicolon, Colon, Becomes, Open, Close, Comma}
use Rattle.std.proofs.Common.{◌≡◌, true, false, List, [], ◌∷◌, ◌++◌, reverse, sym, refl, ap, ◌∙◌, append_assoc, append-nil, arith}
use mathlib.Core.List.{reverse_aux}
use mathlib.Core.Option.{Option, none, some}
use Rattle.token.specs.Tokens.{Token, name, number, keyword, sign}
use Rattle.trees.specs.Trees.{Program}
use Rattle.trees.specs.declared.relation.Relation.{Relation}
use Rattle.grammar.specs.Grammar.{relation_sign, Parses}
use Rattle.grammar.specs.Concrete.{AddSign, adds, takes, MulSign, multiplies, divides, Factor, var, lit, group, Term, factor, multiply, Sum, term, add, Left, sole, then, Names, Sums, Statement, label, nil, set, jump, pick, read_none, read_some, print_none, print_some, test, Statements, add_sign, mul_sign, factor_t, term_t, sum_t, left_t, name_t, names_t, sums_t, statement_t, statements_t, program_t, factor_tree, term_tree, sum_tree, head, tail, same_name, command_tree, program_tree}
use Rattle.grammar.proofs.Yields.{parsed_to}
use Rattle.limits.specs.Uses.{Role, definition, target, listed, variable_use, Use, made, command_starts, after_to, after_of, before_of, name_role, use_of, with_use, uses_before, uses}
use Rattle.limits.specs.Programs.{expression_uses, name_uses, each, command_uses, program_uses}

-- the uses from a place on, in order
abbrev scan : List Token → List Token → List Use
scan b [] = []
scan b (t ∷ r) = with_use (use_of b t r) (scan (t ∷ b) r)

moved : (o : Option Use) (us vs : List Use) → reverse_aux (with_use o us) vs ≡ reverse_aux us (with_use o vs)
moved none us vs = refl
moved (some u) us vs = refl

scanned : (r b : List Token) → reverse_aux (uses_before b r) (scan b r) ≡ reverse (uses_before (reverse_aux r b) [])
scanned [] b = refl
scanned (t ∷ r) b = sym (moved (use_of b t r) (uses_before b (t ∷ r)) (scan (t ∷ b) r)) ∙ scanned r (t ∷ b)

-- the uses of all tokens, in order
pub in_order : (ts : List Token) → scan [] ts ≡ reverse (uses ts)
in_order ts = scanned ts []

-- The tokens before a place, newest first, once a concrete tree has been read behind b.
abbrev mutual
  pub factor_b : Factor → List Token → List Token
  factor_b (var n) b = name n ∷ b
  factor_b (lit n) b = number n ∷ b
  factor_b (group e) b = sign Close ∷ sum_b e (sign Open ∷ b)

  pub term_b : Term → List Token → List Token
  term_b (factor f) b = factor_b f b
  term_b (multiply t o f) b = factor_b f (mul_sign o ∷ term_b t b)

  pub sum_b : Sum → List Token → List Token
  sum_b (term t) b = term_b t b
  sum_b (add e o t) b = term_b t (add_sign o ∷ sum_b e b)

abbrev pub left_b : {A : Type 0} → (A → List Token → List Token) → Token → Left A → List Token → List Token
left_b f by (sole a) b = f a b
left_b f by (then l a) b = f a (by ∷ left_b f by l b)

abbrev pub statement_b : Statement → List Token → List Token
statement_b (label n c) b = statement_b c (sign Colon ∷ name n ∷ b)
statement_b nil b = b
statement_b (set n e) b = sum_b e (sign Becomes ∷ name n ∷ keyword Let ∷ b)
statement_b (jump n) b = name n ∷ keyword To ∷ keyword Go ∷ b
statement_b (pick n ns) b = left_b name_t (sign Comma) ns (keyword Of ∷ name n ∷ keyword To ∷ keyword Go ∷ b)
statement_b read_none b = keyword Read ∷ b
statement_b (read_some ns) b = left_b name_t (sign Comma) ns (keyword Read ∷ b)
statement_b print_none b = keyword Print ∷ b
statement_b (print_some es) b = left_b sum_b (sign Comma) es (keyword Print ∷ b)
statement_b (test x o y c d) b =
    statement_b d (keyword Else ∷ statement_b c (keyword Then ∷ sum_b y (relation_sign o ∷ sum_b x (keyword If ∷ b))))

-- Expressions: the last keyword stays as it is.
mul_of : (o : MulSign) (b : List Token) → after_of (mul_sign o ∷ b) ≡ after_of b
mul_of multiplies b = refl
mul_of divides b = refl

add_of : (o : AddSign) (b : List Token) → after_of (add_sign o ∷ b) ≡ after_of b
add_of adds b = refl
add_of takes b = refl

mutual
  pub factor_after_of : (f : Factor) (b : List Token) → after_of (factor_b f b) ≡ after_of b
  factor_after_of (var n) b = refl
  factor_after_of (lit n) b = refl
  factor_after_of (group e) b = sum_after_of e (sign Open ∷ b)

  pub term_after_of : (t : Term) (b : List Token) → after_of (term_b t b) ≡ after_of b
  term_after_of (factor f) b = factor_after_of f b
  term_after_of (multiply t o f) b = factor_after_of f (mul_sign o ∷ term_b t b) ∙ mul_of o (term_b t b) ∙ term_after_of t b

  pub sum_after_of : (e : Sum) (b : List Token) → after_of (sum_b e b) ≡ after_of b
  sum_after_of (term t) b = term_after_of t b
  sum_after_of (add e o t) b = term_after_of t (add_sign o ∷ sum_b e b) ∙ add_of o (sum_b e b) ∙ sum_after_of e b

-- where a name is a variable
pub record Plain (b : List Token) : Type 0 where
  pub no_start : command_starts b ≡ false
  pub no_to : after_to b ≡ false
  pub no_of : after_of b ≡ false

pub plain_role : (b r : List Token) → Plain b → name_role b r ≡ variable_use
plain_role b r p = rw (p.no_start, p.no_to, p.no_of)

pub mul_plain : (o : MulSign) (b : List Token) → after_of b ≡ false → Plain (mul_sign o ∷ b)
mul_plain multiplies b e = record { no_start = refl; no_to = refl; no_of = e }
mul_plain divides b e = record { no_start = refl; no_to = refl; no_of = e }

pub add_plain : (o : AddSign) (b : List Token) → after_of b ≡ false → Plain (add_sign o ∷ b)
add_plain adds b e = record { no_start = refl; no_to = refl; no_of = e }
add_plain takes b e = record { no_start = refl; no_to = refl; no_of = e }

pub relation_plain : (o : Relation) (b : List Token) → after_of b ≡ false → Plain (relation_sign o ∷ b)
relation_plain o b e = grind arith

sign_plain : (s : Sign) (b : List Token) → command_starts (sign s ∷ b) ≡ false → after_of b ≡ false → Plain (sign s ∷ b)
sign_plain s b h e = record { no_start = h; no_to = refl; no_of = e }

mul_scan : (o : MulSign) (b r : List Token) → scan b (mul_sign o ∷ r) ≡ scan (mul_sign o ∷ b) r
mul_scan multiplies b r = refl
mul_scan divides b r = refl

add_scan : (o : AddSign) (b r : List Token) → scan b (add_sign o ∷ r) ≡ scan (add_sign o ∷ b) r
add_scan adds b r = refl
add_scan takes b r = refl

relation_scan : (o : Relation) (b r : List Token) → scan b (relation_sign o ∷ r) ≡ scan (relation_sign o ∷ b) r
relation_scan o b r = grind arith

-- the uses us, then vs, then the rest
chained : (us vs ws xs ys : List Use) → xs ≡ us ++ ys → ys ≡ vs ++ ws → xs ≡ (us ++ vs) ++ ws
chained us vs ws xs ys p q = p ∙ ap (λ (z : List Use). us ++ z) q ∙ sym (append_assoc us vs ws)

mutual
  factor_scan : (f : Factor) (b r : List Token) → Plain b → scan b (factor_t f r) ≡ expression_uses (factor_tree f) ++ scan (factor_b f b) r
  factor_scan (var n) b r p = ap (λ (x : Role). made x n ∷ scan (name n ∷ b) r) (plain_role b r p)
  factor_scan (lit n) b r p = refl
  factor_scan (group e) b r p = sum_scan e (sign Open ∷ b) (sign Close ∷ r) (sign_plain Open b refl p.no_of)

  term_scan : (t : Term) (b r : List Token) → Plain b → scan b (term_t t r) ≡ expression_uses (term_tree t) ++ scan (term_b t b) r
  term_scan (factor f) b r p = factor_scan f b r p
  term_scan (multiply t o f) b r p =
      chained (expression_uses (term_tree t)) (expression_uses (factor_tree f)) (scan (factor_b f (mul_sign o ∷ term_b t b)) r)
      (scan b (term_t t (mul_sign o ∷ factor_t f r))) (scan (term_b t b) (mul_sign o ∷ factor_t f r))
      (term_scan t b (mul_sign o ∷ factor_t f r) p)
      (mul_scan o (term_b t b) (factor_t f r) ∙ factor_scan f (mul_sign o ∷ term_b t b) r (mul_plain o (term_b t b) (term_after_of t b ∙ p.no_of)))

  sum_scan : (e : Sum) (b r : List Token) → Plain b → scan b (sum_t e r) ≡ expression_uses (sum_tree e) ++ scan (sum_b e b) r
  sum_scan (term t) b r p = term_scan t b r p
  sum_scan (add e o t) b r p =
      chained (expression_uses (sum_tree e)) (expression_uses (term_tree t)) (scan (term_b t (add_sign o ∷ sum_b e b)) r)
      (scan b (sum_t e (add_sign o ∷ term_t t r))) (scan (sum_b e b) (add_sign o ∷ term_t t r))
      (sum_scan e b (add_sign o ∷ term_t t r) p)
      (add_scan o (sum_b e b) (term_t t r) ∙ term_scan t (add_sign o ∷ sum_b e b) r (add_plain o (sum_b e b) (sum_after_of e b ∙ p.no_of)))

-- Lists that grew to the left.
each_snoc : {A : Type 0} (f : A → List Use) (xs : List A) (y : A) → each f (xs ++ y ∷ []) ≡ each f xs ++ f y
each_snoc f [] y = append-nil (f y)
each_snoc f (x ∷ xs) y = ap (λ (z : List Use). f x ++ z) (each_snoc f xs y) ∙ sym (append_assoc (f x) (each f xs) (f y))

-- parts that are read behind b where Ready b, if Follows what comes next
module _ {C A : Type 0} (tree : C → A) (tokens back : C → List Token → List Token) (f : A → List Use) (by : Token)
    (Ready Follows : List Token → Type 0)
    (part : (c : C) (b r : List Token) → Ready b → Follows r → scan b (tokens c r) ≡ f (tree c) ++ scan (back c b) r)
    (passes : (b r : List Token) → scan b (by ∷ r) ≡ scan (by ∷ b) r)
    (ready : (c : C) (b : List Token) → Ready b → Ready (by ∷ back c b))
    (follows : (r : List Token) → Follows (by ∷ r)) where
  left_ready : (l : Left C) (b : List Token) → Ready b → Ready (by ∷ left_b back by l b)
  left_ready (sole c) b h = ready c b h
  left_ready (then l c) b h = ready c (by ∷ left_b back by l b) (left_ready l b h)

  left_scan : (l : Left C) (b r : List Token) → Ready b → Follows r →
      scan b (left_t tokens by l r) ≡ each f (head tree l ∷ tail tree l) ++ scan (left_b back by l b) r
  left_scan (sole c) b r h g = part c b r h g ∙ ap (λ (z : List Use). z ++ scan (back c b) r) (sym (append-nil (f (tree c))))
  left_scan (then l c) b r h g =
      chained (each f (head tree l ∷ tail tree l)) (f (tree c)) (scan (back c (by ∷ left_b back by l b)) r)
      (scan b (left_t tokens by l (by ∷ tokens c r))) (scan (left_b back by l b) (by ∷ tokens c r))
      (left_scan l b (by ∷ tokens c r) h (follows (tokens c r)))
      (passes (left_b back by l b) (tokens c r) ∙ part c (by ∷ left_b back by l b) r (left_ready l b h) g)
      ∙ ap (λ (z : List Use). z ++ scan (back c (by ∷ left_b back by l b)) r)
      (append_assoc (f (head tree l)) (each f (tail tree l)) (f (tree c)) ∙ ap (λ (z : List Use). f (head tree l) ++ z) (sym (each_snoc f (tail tree l) (tree c))))

-- whatever follows
abbrev Any : List Token → Type 0
Any r = Unit {0}

variables_scan : (ns : Names) (b r : List Token) → Plain b →
    scan b (names_t ns r) ≡ each (name_uses variable_use) (head same_name ns ∷ tail same_name ns) ++ scan (left_b name_t (sign Comma) ns b) r
variables_scan ns b r p =
    left_scan same_name name_t name_t (name_uses variable_use) (sign Comma) Plain Any
    (λ n c q h g. ap (λ (x : Role). made x n ∷ scan (name n ∷ c) q) (plain_role c q h)) (λ c q. refl)
    (λ n c h. sign_plain Comma (name n ∷ c) refl h.no_of) (λ q. tt) ns b r p tt

-- where a name is a label after OF
pub record Listing (b : List Token) : Type 0 where
  pub no_start : command_starts b ≡ false
  pub no_to : after_to b ≡ false
  pub is_of : after_of b ≡ true

pub listing_role : (b r : List Token) → Listing b → name_role b r ≡ listed
listing_role b r p = rw (p.no_start, p.no_to, p.is_of)

labels_scan : (ns : Names) (b r : List Token) → Listing b →
    scan b (names_t ns r) ≡ each (name_uses listed) (head same_name ns ∷ tail same_name ns) ++ scan (left_b name_t (sign Comma) ns b) r
labels_scan ns b r p =
    left_scan same_name name_t name_t (name_uses listed) (sign Comma) Listing Any
    (λ n c q h g. ap (λ (x : Role). made x n ∷ scan (name n ∷ c) q) (listing_role c q h)) (λ c q. refl)
    (λ n c h. record { no_start = refl; no_to = refl; is_of = h.is_of }) (λ q. tt) ns b r p tt

sums_scan : (es : Sums) (b r : List Token) → Plain b →
    scan b (sums_t es r) ≡ each expression_uses (head sum_tree es ∷ tail sum_tree es) ++ scan (left_b sum_b (sign Comma) es b) r
sums_scan es b r p =
    left_scan sum_tree sum_t sum_b expression_uses (sign Comma) Plain Any
    (λ e c q h g. sum_scan e c q h) (λ c q. refl) (λ e c h. sign_plain Comma (sum_b e c) refl (sum_after_of e c ∙ h.no_of)) (λ q. tt) es b r p tt

-- Commands.
abbrev Starts : List Token → Type 0
Starts b = command_starts b ≡ true

abbrev NotOf : List Token → Type 0
NotOf r = before_of r ≡ false

start_role : (b r : List Token) → Starts b → name_role b r ≡ definition
start_role b r h = rw h

jump_role : (b r : List Token) → NotOf r → name_role (keyword To ∷ b) r ≡ target
jump_role b r h = rw h

statement_scan : (c : Statement) (b r : List Token) → Starts b → NotOf r → scan b (statement_t c r) ≡ command_uses (command_tree c) ++ scan (statement_b c b) r
statement_scan (label n c) b r h g =
    ap (λ (x : Role). made x n ∷ scan (sign Colon ∷ name n ∷ b) (statement_t c r)) (start_role b (sign Colon ∷ statement_t c r) h)
    ∙ ap (λ (z : List Use). made definition n ∷ z) (statement_scan c (sign Colon ∷ name n ∷ b) r refl g)
statement_scan nil b r h g = refl
statement_scan (set n e) b r h g =
    ap (λ (z : List Use). made variable_use n ∷ z) (sum_scan e (sign Becomes ∷ name n ∷ keyword Let ∷ b) r (sign_plain Becomes (name n ∷ keyword Let ∷ b) refl refl))
statement_scan (jump n) b r h g = ap (λ (x : Role). made x n ∷ scan (name n ∷ keyword To ∷ keyword Go ∷ b) r) (jump_role (keyword Go ∷ b) r g)
statement_scan (pick n ns) b r h g =
    ap (λ (z : List Use). made variable_use n ∷ z)
    (labels_scan ns (keyword Of ∷ name n ∷ keyword To ∷ keyword Go ∷ b) r (record { no_start = refl; no_to = refl; is_of = refl }))
statement_scan read_none b r h g = refl
statement_scan (read_some ns) b r h g = variables_scan ns (keyword Read ∷ b) r (record { no_start = refl; no_to = refl; no_of = refl })
statement_scan print_none b r h g = refl
statement_scan (print_some es) b r h g = sums_scan es (keyword Print ∷ b) r (record { no_start = refl; no_to = refl; no_of = refl })
statement_scan (test x o y c d) b r h g =
    join (expression_uses (sum_tree x)) (expression_uses (sum_tree y)) (command_uses (command_tree c)) (command_uses (command_tree d)) (scan (statement_b (test x o y c d) b) r)
    (sum_scan x (keyword If ∷ b) (relation_sign o ∷ sum_t y (keyword Then ∷ statement_t c (keyword Else ∷ statement_t d r))) (record { no_start = refl; no_to = refl; no_of = refl }))
    (relation_scan o (sum_b x (keyword If ∷ b)) (sum_t y (keyword Then ∷ statement_t c (keyword Else ∷ statement_t d r))))
    (sum_scan y (relation_sign o ∷ sum_b x (keyword If ∷ b)) (keyword Then ∷ statement_t c (keyword Else ∷ statement_t d r)) (relation_plain o (sum_b x (keyword If ∷ b)) (sum_after_of x (keyword If ∷ b))))
    (statement_scan c (keyword Then ∷ sum_b y (relation_sign o ∷ sum_b x (keyword If ∷ b))) (keyword Else ∷ statement_t d r) refl refl)
    (statement_scan d (keyword Else ∷ statement_b c (keyword Then ∷ sum_b y (relation_sign o ∷ sum_b x (keyword If ∷ b)))) r refl g)
  where
    join : (us vs ws xs s₅ : List Use) {s₀ s₁ s₂ s₃ s₄ : List Use} → s₀ ≡ us ++ s₁ → s₁ ≡ s₂ → s₂ ≡ vs ++ s₃ → s₃ ≡ ws ++ s₄ → s₄ ≡ xs ++ s₅ →
        s₀ ≡ (us ++ (vs ++ (ws ++ xs))) ++ s₅
    join us vs ws xs s₅ {s₀} p q i j k =
        let a : s₀ ≡ us ++ (vs ++ (ws ++ (xs ++ s₅))) = p ∙ ap (λ (z : List Use). us ++ z) (q ∙ i ∙ ap (λ (z : List Use). vs ++ z) (j ∙ ap (λ (z : List Use). ws ++ z) k)) in
        a ∙ simp append_assoc

statements_scan : (cs : Statements) (b r : List Token) → Starts b → NotOf r →
    scan b (statements_t cs r) ≡ each command_uses (head command_tree cs ∷ tail command_tree cs) ++ scan (left_b statement_b (sign Semicolon) cs b) r
statements_scan cs b r h g =
    left_scan command_tree statement_t statement_b command_uses (sign Semicolon) Starts NotOf
    statement_scan (λ c q. refl) (λ c d i. refl) (λ q. refl) cs b r h g

program_scan : (cs : Statements) → scan [] (program_t cs) ≡ program_uses (program_tree cs)
program_scan cs = statements_scan cs [] (keyword End ∷ []) refl refl ∙ append-nil (program_uses (program_tree cs))

pub same_uses : (ts : List Token) (p : Program) → Parses ts p → reverse (uses ts) ≡ program_uses p
same_uses ts p d =
    let x = parsed_to d in
    sym (in_order ts) ∙ ap (scan []) (sym x.2) ∙ program_scan x.0 ∙ ap program_uses x.1
