-- Without refusal whole expressions have few operators, and lists after OF are short.
use Rattle.token.specs.declared.kinds.Keyword.TheVariants.{End, Let, Go, To, Of, Read, Print, If, Then, Else}
use Rattle.token.specs.declared.kinds.Sign.TheVariants.{Semicolon, Colon, Becomes, Open, Close, Comma}
use Rattle.std.proofs.Common.{◌≡◌, ℕ, suc, ◌+◌, ◌<◌, ◌≤◌, true, List, [], ◌∷◌, ◌++◌, length, sym, refl, ap, ◌∙◌, subst, inl, inr, arith, length-append}
use mathlib.Core.Option.{some}
use Rattle.std.proofs.lemmas.Bool.{cases_lt}
use Rattle.token.specs.Tokens.{Token, name, number, keyword, sign}
use Rattle.trees.specs.Trees.{Name, Program, commands}
use Rattle.trees.specs.declared.relation.Relation.{Relation}
use Rattle.arithmetic.specs.Words.{Words}
use Rattle.grammar.specs.Grammar.{relation_sign, Parses}
use Rattle.grammar.specs.Concrete.{AddSign, adds, takes, MulSign, multiplies, divides, Factor, var, lit, group, Term, factor, multiply, Sum, term, add, sole, then, Names, Sums, Statement, label, nil, set, jump, pick, read_none, read_some, print_none, print_some, test, Statements, add_sign, mul_sign, factor_t, term_t, sum_t, name_t, names_t, sums_t, statement_t, statements_t, program_t, factor_tree, term_tree, sum_tree, head, tail, same_name, command_tree}
use Rattle.grammar.proofs.Yields.{parsed_to}
use Rattle.limits.specs.Uses.{Role, listed, made, after_of, use_of, is_operator, operators, names}
use Rattle.limits.specs.Rules.{operator_limit, list_limit, past, rest, many_operators, long_list, Clear}
use Rattle.limits.specs.Programs.{operator_count, Small, All, Fits}
use Rattle.grammar.proofs.Lists.{drop_next}
use Rattle.limits.proofs.Lists.{past_next}
use Rattle.limits.proofs.Scans.{factor_b, term_b, sum_b, left_b, statement_b, Listing, listing_role}

-- neither refusal 9 nor 11 stands at the token t between b and r
record Okay (b : List Token) (t : Token) (r : List Token) : Type 0 where
  few : is_operator t ≡ true → operators b < operator_limit
  short : (s : List ℕ) → use_of b t r ≡ some (made listed s) → names b < list_limit

-- nor at any from here on
abbrev Calm : List Token → List Token → Type 0
Calm b [] = Unit {0}
Calm b (t ∷ r) = Okay b t r × Calm (t ∷ b) r

module _ (w : Words) (ts : List Token) (clear : Clear w ts) where
  okay_at : (k : ℕ) (t : Token) (r : List Token) → rest ts k ≡ t ∷ r → Okay (past ts k) t r
  okay_at k t r e = record {
    few = λ h. elim (cases_lt (operators (past ts k)) operator_limit) [ inl l ↦ l | inr g ↦ absurd (clear k 9 (many_operators (rw e h) g)) ];
    short = λ s h. elim (cases_lt (names (past ts k)) list_limit) [ inl l ↦ l | inr g ↦ absurd (clear k 11 (long_list s (record { is_used = rw e h }) g)) ];
  }

  calm_from : (r : List Token) (k : ℕ) → rest ts k ≡ r → Calm (past ts k) r
  calm_from [] k e = tt
  calm_from (t ∷ r) k e =
      (okay_at k t r e, subst (λ (b : List Token). Calm b r) (past_next ts k t r e) (calm_from r (suc k) (drop_next k ts t r e)))

  all_calm : Calm [] ts
  all_calm = calm_from ts 0 refl

-- n operators were read between b and c
record Counted (b c r : List Token) (n : ℕ) : Type 0 where
  calm : Calm c r
  count : operators c ≡ operators b + n
  bound : operators b ≤ operator_limit → operators b + n ≤ operator_limit

none_counted : (b c r : List Token) → Calm c r → operators c ≡ operators b → Counted b c r 0
none_counted b c r h e = record { calm = h; count = e ∙ omega arith; bound = λ l. omega arith }

-- a part, an operator, and another part
operator_counted : (b c r : List Token) (t : Token) (d s : List Token) (m n : ℕ) → is_operator t ≡ true → operators (t ∷ c) ≡ suc (operators c) →
    Counted b c (t ∷ r) m → Counted (t ∷ c) d s n → Counted b d s (suc (m + n))
operator_counted b c r t d s m n o q x y =
    let a : operators c ≡ operators b + m = x.count in
    let e : operators d ≡ operators (t ∷ c) + n = y.count in
    record {
      calm = y.calm;
      count = e ∙ ap (λ (z : ℕ). z + n) (q ∙ ap suc a) ∙ omega arith;
      bound = λ l.
          let f : operators c < operator_limit = x.calm.0.few o in
          let g : operators (t ∷ c) ≤ operator_limit = subst (λ (z : ℕ). z ≤ operator_limit) (sym q) f in
          let h : operators (t ∷ c) + n ≤ operator_limit = y.bound g in
          let i : suc (operators c) + n ≤ operator_limit = subst (λ (z : ℕ). z + n ≤ operator_limit) q h in
          let j : suc (operators b + m) + n ≤ operator_limit = subst (λ (z : ℕ). suc z + n ≤ operator_limit) a i in
          omega arith;
    }

mul_operator_is : (o : MulSign) → is_operator (mul_sign o) ≡ true
mul_operator_is multiplies = refl
mul_operator_is divides = refl

mul_count : (o : MulSign) (b : List Token) → operators (mul_sign o ∷ b) ≡ suc (operators b)
mul_count multiplies b = refl
mul_count divides b = refl

add_operator_is : (o : AddSign) → is_operator (add_sign o) ≡ true
add_operator_is adds = refl
add_operator_is takes = refl

add_count : (o : AddSign) (b : List Token) → operators (add_sign o ∷ b) ≡ suc (operators b)
add_count adds b = refl
add_count takes b = refl

grouped : (b c r : List Token) (n : ℕ) → Counted (sign Open ∷ b) c (sign Close ∷ r) n → Counted b (sign Close ∷ c) r n
grouped b c r n x = record { calm = x.calm.1; count = x.count; bound = x.bound }

product_calm : (t : Term) (o : MulSign) (f : Factor) (b r : List Token) → Counted b (term_b t b) (mul_sign o ∷ factor_t f r) (operator_count (term_tree t)) →
    (Calm (mul_sign o ∷ term_b t b) (factor_t f r) → Counted (mul_sign o ∷ term_b t b) (factor_b f (mul_sign o ∷ term_b t b)) r (operator_count (factor_tree f))) →
    Counted b (term_b (multiply t o f) b) r (operator_count (term_tree (multiply t o f)))
product_calm t o f b r x y =
    operator_counted b (term_b t b) (factor_t f r) (mul_sign o) (factor_b f (mul_sign o ∷ term_b t b)) r (operator_count (term_tree t)) (operator_count (factor_tree f))
    (mul_operator_is o) (mul_count o (term_b t b)) x (y x.calm.1)

addition_calm : (e : Sum) (o : AddSign) (t : Term) (b r : List Token) → Counted b (sum_b e b) (add_sign o ∷ term_t t r) (operator_count (sum_tree e)) →
    (Calm (add_sign o ∷ sum_b e b) (term_t t r) → Counted (add_sign o ∷ sum_b e b) (term_b t (add_sign o ∷ sum_b e b)) r (operator_count (term_tree t))) →
    Counted b (sum_b (add e o t) b) r (operator_count (sum_tree (add e o t)))
addition_calm e o t b r x y =
    operator_counted b (sum_b e b) (term_t t r) (add_sign o) (term_b t (add_sign o ∷ sum_b e b)) r (operator_count (sum_tree e)) (operator_count (term_tree t))
    (add_operator_is o) (add_count o (sum_b e b)) x (y x.calm.1)

mutual
  factor_calm : (f : Factor) (b r : List Token) → Calm b (factor_t f r) → Counted b (factor_b f b) r (operator_count (factor_tree f))
  factor_calm (var n) b r c = none_counted b (name n ∷ b) r c.1 refl
  factor_calm (lit n) b r c = none_counted b (number n ∷ b) r c.1 refl
  factor_calm (group e) b r c = grouped b (sum_b e (sign Open ∷ b)) r (operator_count (sum_tree e)) (sum_calm e (sign Open ∷ b) (sign Close ∷ r) c.1)

  term_calm : (t : Term) (b r : List Token) → Calm b (term_t t r) → Counted b (term_b t b) r (operator_count (term_tree t))
  term_calm (factor f) b r c = factor_calm f b r c
  term_calm (multiply t o f) b r c =
      product_calm t o f b r (term_calm t b (mul_sign o ∷ factor_t f r) c) (λ h. factor_calm f (mul_sign o ∷ term_b t b) r h)

  sum_calm : (e : Sum) (b r : List Token) → Calm b (sum_t e r) → Counted b (sum_b e b) r (operator_count (sum_tree e))
  sum_calm (term t) b r c = term_calm t b r c
  sum_calm (add e o t) b r c =
      addition_calm e o t b r (sum_calm e b (add_sign o ∷ term_t t r) c) (λ h. term_calm t (add_sign o ∷ sum_b e b) r h)

-- a whole expression
whole : (e : Sum) (b r : List Token) → operators b ≡ 0 → Calm b (sum_t e r) → Calm (sum_b e b) r × Small (sum_tree e)
whole e b r h c = go (sum_calm e b r c)
  where
    go : Counted b (sum_b e b) r (operator_count (sum_tree e)) → Calm (sum_b e b) r × Small (sum_tree e)
    go x =
        let y : operators b + operator_count (sum_tree e) ≤ operator_limit = x.bound (omega arith) in
        (x.calm, omega arith)

relation_none : (o : Relation) (b : List Token) → operators (relation_sign o ∷ b) ≡ 0
relation_none o b = grind arith

all_snoc : {A : Type 0} (P : A → Type 0) (xs : List A) (y : A) → All P xs → P y → All P (xs ++ y ∷ [])
all_snoc P [] y h p = (p, tt)
all_snoc P (x ∷ xs) y h p = (h.0, all_snoc P xs y h.1 p)

sums_calm : (es : Sums) (b r : List Token) → operators b ≡ 0 → Calm b (sums_t es r) →
    Calm (left_b sum_b (sign Comma) es b) r × All Small (head sum_tree es ∷ tail sum_tree es)
sums_calm (sole e) b r h c = let x = whole e b r h c in (x.0, (x.1, tt))
sums_calm (then l e) b r h c = go (sums_calm l b (sign Comma ∷ sum_t e r) h c)
  where
    go : Calm (left_b sum_b (sign Comma) l b) (sign Comma ∷ sum_t e r) × All Small (head sum_tree l ∷ tail sum_tree l) →
        Calm (sum_b e (sign Comma ∷ left_b sum_b (sign Comma) l b)) r × All Small (head sum_tree l ∷ (tail sum_tree l ++ sum_tree e ∷ []))
    go x =
        let y = whole e (sign Comma ∷ left_b sum_b (sign Comma) l b) r refl x.0.1 in
        (y.0, all_snoc Small (head sum_tree l ∷ tail sum_tree l) (sum_tree e) x.1 y.1)

-- names that are read
names_calm : (ns : Names) (b r : List Token) → Calm b (names_t ns r) → Calm (left_b name_t (sign Comma) ns b) r
names_calm (sole n) b r c = c.1
names_calm (then l n) b r c = (names_calm l b (sign Comma ∷ name n ∷ r) c).1.1

-- labels after OF
pub labels_of : (ns : Names) (b : List Token) → after_of (left_b name_t (sign Comma) ns b) ≡ after_of b
labels_of (sole n) b = refl
labels_of (then l n) b = labels_of l b

short_at : (b r : List Token) (n : Name) → Listing b → Okay b (name n) r → names b < list_limit
short_at b r n p o = o.short n (ap (λ (x : Role). some (made x n)) (listing_role b r p))

record Listed (ns : Names) (b r : List Token) : Type 0 where
  calm : Calm (left_b name_t (sign Comma) ns b) r
  count : names (left_b name_t (sign Comma) ns b) ≡ names b + suc (length (tail same_name ns))
  bound : names b + suc (length (tail same_name ns)) ≤ list_limit

labels_calm : (ns : Names) (b r : List Token) → Listing b → Calm b (names_t ns r) → Listed ns b r
labels_calm (sole n) b r p c =
    let h : names b < list_limit = short_at b r n p c.0 in
    record { calm = c.1; count = omega arith; bound = omega arith }
labels_calm (then l n) b r p c = go (labels_calm l b (sign Comma ∷ name n ∷ r) p c)
  where
    ready : Listing (sign Comma ∷ left_b name_t (sign Comma) l b)
    ready = record { no_start = refl; no_to = refl; is_of = labels_of l b ∙ p.is_of }

    go : Listed l b (sign Comma ∷ name n ∷ r) → Listed (then l n) b r
    go x =
        let h : names (left_b name_t (sign Comma) l b) < list_limit = short_at (sign Comma ∷ left_b name_t (sign Comma) l b) r n ready x.calm.1.0 in
        let e : names (left_b name_t (sign Comma) l b) ≡ names b + suc (length (tail same_name l)) = x.count in
        let q : length (tail same_name l ++ n ∷ []) ≡ length (tail same_name l) + 1 = length-append (tail same_name l) (n ∷ []) in
        record { calm = x.calm.1.1; count = omega arith; bound = omega arith }

statement_calm : (c : Statement) (b r : List Token) → Calm b (statement_t c r) → Calm (statement_b c b) r × Fits (command_tree c)
statement_calm (label n c) b r h = statement_calm c (sign Colon ∷ name n ∷ b) r h.1.1
statement_calm nil b r h = (h, tt)
statement_calm (set n e) b r h = whole e (sign Becomes ∷ name n ∷ keyword Let ∷ b) r refl h.1.1.1
statement_calm (jump n) b r h = (h.1.1.1, tt)
statement_calm (pick n ns) b r h =
    picked (labels_calm ns (keyword Of ∷ name n ∷ keyword To ∷ keyword Go ∷ b) r (record { no_start = refl; no_to = refl; is_of = refl }) h.1.1.1.1)
  where
    picked : Listed ns (keyword Of ∷ name n ∷ keyword To ∷ keyword Go ∷ b) r →
        Calm (left_b name_t (sign Comma) ns (keyword Of ∷ name n ∷ keyword To ∷ keyword Go ∷ b)) r × (suc (length (tail same_name ns)) ≤ list_limit)
    picked x = let y : 0 + suc (length (tail same_name ns)) ≤ list_limit = x.bound in (x.calm, omega arith)
statement_calm read_none b r h = (h.1, tt)
statement_calm (read_some ns) b r h = (names_calm ns (keyword Read ∷ b) r h.1, tt)
statement_calm print_none b r h = (h.1, tt)
statement_calm (print_some es) b r h = sums_calm es (keyword Print ∷ b) r refl h.1
statement_calm (test x o y c d) b r h =
    branched (whole x (keyword If ∷ b) (relation_sign o ∷ sum_t y (keyword Then ∷ statement_t c (keyword Else ∷ statement_t d r))) refl h.1)
    (λ z. statement_calm c (keyword Then ∷ sum_b y (relation_sign o ∷ sum_b x (keyword If ∷ b))) (keyword Else ∷ statement_t d r) z)
    (λ z. statement_calm d (keyword Else ∷ statement_b c (keyword Then ∷ sum_b y (relation_sign o ∷ sum_b x (keyword If ∷ b)))) r z)
  where
    branched : Calm (sum_b x (keyword If ∷ b)) (relation_sign o ∷ sum_t y (keyword Then ∷ statement_t c (keyword Else ∷ statement_t d r))) × Small (sum_tree x) →
        (Calm (keyword Then ∷ sum_b y (relation_sign o ∷ sum_b x (keyword If ∷ b))) (statement_t c (keyword Else ∷ statement_t d r)) →
        Calm (statement_b c (keyword Then ∷ sum_b y (relation_sign o ∷ sum_b x (keyword If ∷ b)))) (keyword Else ∷ statement_t d r) × Fits (command_tree c)) →
        (Calm (keyword Else ∷ statement_b c (keyword Then ∷ sum_b y (relation_sign o ∷ sum_b x (keyword If ∷ b)))) (statement_t d r) →
        Calm (statement_b (test x o y c d) b) r × Fits (command_tree d)) →
        Calm (statement_b (test x o y c d) b) r × (Small (sum_tree x) × Small (sum_tree y) × Fits (command_tree c) × Fits (command_tree d))
    branched p f g =
        let q = whole y (relation_sign o ∷ sum_b x (keyword If ∷ b)) (keyword Then ∷ statement_t c (keyword Else ∷ statement_t d r)) (relation_none o (sum_b x (keyword If ∷ b))) p.0.1 in
        let i = f q.0.1 in
        let j = g i.0.1 in
        (j.0, (p.1, q.1, i.1, j.1))

statements_calm : (cs : Statements) (b r : List Token) → Calm b (statements_t cs r) →
    Calm (left_b statement_b (sign Semicolon) cs b) r × All Fits (head command_tree cs ∷ tail command_tree cs)
statements_calm (sole c) b r h = let x = statement_calm c b r h in (x.0, (x.1, tt))
statements_calm (then l c) b r h = go (statements_calm l b (sign Semicolon ∷ statement_t c r) h)
  where
    go : Calm (left_b statement_b (sign Semicolon) l b) (sign Semicolon ∷ statement_t c r) × All Fits (head command_tree l ∷ tail command_tree l) →
        Calm (statement_b c (sign Semicolon ∷ left_b statement_b (sign Semicolon) l b)) r × All Fits (head command_tree l ∷ (tail command_tree l ++ command_tree c ∷ []))
    go x =
        let y = statement_calm c (sign Semicolon ∷ left_b statement_b (sign Semicolon) l b) r x.0.1 in
        (y.0, all_snoc Fits (head command_tree l ∷ tail command_tree l) (command_tree c) x.1 y.1)

pub fits : (w : Words) (ts : List Token) (p : Program) → Clear w ts → Parses ts p → All Fits (commands p)
fits w ts p clear d =
    let x = parsed_to d in
    let c : Calm [] (program_t x.0) = subst (Calm []) (sym x.2) (all_calm w ts clear) in
    subst (λ (q : Program). All Fits (commands q)) x.1 (statements_calm x.0 [] (keyword End ∷ []) c).1
