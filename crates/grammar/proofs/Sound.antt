-- What a configuration has read is what its trees and its place say.
use Rattle.token.specs.declared.kinds.Keyword.TheVariants.{End, Let, Go, To, Of, Read, Print, If, Then, Else}
use Rattle.token.specs.declared.kinds.Sign.TheVariants.{Semicolon, Colon, Becomes, Open, Comma}
use Rattle.std.proofs.Common.{◌≡◌, Bool, true, false, cond, T, List, [], ◌∷◌, ◌++◌, sym, refl, ap, ◌∙◌}
use mathlib.Core.Option.{Option, none, some, some-injective, none-ne-some}
use Rattle.token.specs.Tokens.{Token, name, number, keyword, sign}
use Rattle.trees.specs.Trees.{Name}
use Rattle.grammar.specs.Tests.{is, is_name, is_number, spelling}
use Rattle.grammar.specs.Grammar.{relation_sign}
use Rattle.grammar.specs.Concrete.{factor, multiply, Sum, term, add, sole, then, Sums, Statement, label, nil, set, jump, pick, read_none, read_some, print_none, print_some, test, Statements, add_sign, mul_sign, factor_t, term_t, sum_t, names_t, sums_t, statement_t, statements_t}
use Rattle.grammar.specs.Machine.{InCommands, first_command, after_commands, under_label, then_part, else_part, BeforeTerm, no_sum, sum, BeforeFactor, no_product, product, InCommand, of_assign, of_left, of_right, of_print, of_prints, of_group, Config, start, labelling, let_word, let_name, go_word, to_word, to_name, of_word, of_names, of_comma, read_word, read_names, read_comma, print_word, operand, after, done, Rows, stop, on, at_name, at_number, choose, next, finish, more_print, leave, rows, step, go_on, run}
use Rattle.grammar.proofs.Words.{is_same, is_name_of, is_number_of}

-- the tokens read so far, in front of r
abbrev pub before_c : InCommands → List Token → List Token
before_c first_command r = r
before_c (after_commands cs) r = statements_t cs (sign Semicolon ∷ r)
before_c (under_label n k) r = before_c k (name n ∷ sign Colon ∷ r)
before_c (then_part a o b k) r = before_c k (keyword If ∷ sum_t a (relation_sign o ∷ sum_t b (keyword Then ∷ r)))
before_c (else_part a o b c k) r =
    before_c k (keyword If ∷ sum_t a (relation_sign o ∷ sum_t b (keyword Then ∷ statement_t c (keyword Else ∷ r))))

abbrev pub before_t : BeforeTerm → List Token → List Token
before_t no_sum r = r
before_t (sum e o) r = sum_t e (add_sign o ∷ r)

abbrev pub before_f : BeforeFactor → List Token → List Token
before_f (no_product s) r = before_t s r
before_f (product s t o) r = before_t s (term_t t (mul_sign o ∷ r))

abbrev pub before_e : InCommand → List Token → List Token
before_e (of_assign n k) r = before_c k (keyword Let ∷ name n ∷ sign Becomes ∷ r)
before_e (of_left k) r = before_c k (keyword If ∷ r)
before_e (of_right a o k) r = before_c k (keyword If ∷ sum_t a (relation_sign o ∷ r))
before_e (of_print k) r = before_c k (keyword Print ∷ r)
before_e (of_prints es k) r = before_c k (keyword Print ∷ sums_t es (sign Comma ∷ r))
before_e (of_group b k) r = before_e k (before_f b (sign Open ∷ r))

abbrev pub before : Config → List Token → List Token
before (start k) r = before_c k r
before (labelling n k) r = before_c k (name n ∷ r)
before (let_word k) r = before_c k (keyword Let ∷ r)
before (let_name n k) r = before_c k (keyword Let ∷ name n ∷ r)
before (go_word k) r = before_c k (keyword Go ∷ r)
before (to_word k) r = before_c k (keyword Go ∷ keyword To ∷ r)
before (to_name n k) r = before_c k (keyword Go ∷ keyword To ∷ name n ∷ r)
before (of_word n k) r = before_c k (keyword Go ∷ keyword To ∷ name n ∷ keyword Of ∷ r)
before (of_names n ns k) r = before_c k (keyword Go ∷ keyword To ∷ name n ∷ keyword Of ∷ names_t ns r)
before (of_comma n ns k) r = before_c k (keyword Go ∷ keyword To ∷ name n ∷ keyword Of ∷ names_t ns (sign Comma ∷ r))
before (read_word k) r = before_c k (keyword Read ∷ r)
before (read_names ns k) r = before_c k (keyword Read ∷ names_t ns r)
before (read_comma ns k) r = before_c k (keyword Read ∷ names_t ns (sign Comma ∷ r))
before (print_word k) r = before_c k (keyword Print ∷ r)
before (operand b k) r = before_e k (before_f b r)
before (after b f k) r = before_e k (before_f b (factor_t f r))
before (done cs) r = statements_t cs (keyword End ∷ r)

-- rows are good where p was read, if each says what is then read
abbrev Good : (List Token → List Token) → Rows Config → Type 0
Good p stop = Unit {0}
Good p (on w c z) = ((r : List Token) → before c r ≡ p (w ∷ r)) × Good p z
Good p (at_name f z) = ((n : Name) (r : List Token) → before (f n) r ≡ p (name n ∷ r)) × Good p z
Good p (at_number f z) = ((n : Name) (r : List Token) → before (f n) r ≡ p (number n ∷ r)) × Good p z

next_good : (cs : Statements) → Good (statements_t cs) (next cs)
next_good cs = (λ r. refl, (λ r. refl, tt))

finish_good : (c : Statement) (k : InCommands) → Good (λ r. before_c k (statement_t c r)) (finish c k)
finish_good c first_command = next_good (sole c)
finish_good c (after_commands cs) = next_good (then cs c)
finish_good c (under_label n k) = finish_good (label n c) k
finish_good c (then_part a o b k) = (λ r. refl, tt)
finish_good c (else_part a o b d k) = finish_good (test a o b d c) k

more_good : (es : Sums) (k : InCommands) → Good (λ r. before_c k (keyword Print ∷ sums_t es r)) (more_print es k)
more_good es k = (λ r. refl, finish_good (print_some es) k)

leave_good : (e : Sum) (k : InCommand) → Good (λ r. before_e k (sum_t e r)) (leave e k)
leave_good e (of_assign n k) = finish_good (set n e) k
leave_good e (of_left k) = (λ r. refl, (λ r. refl, (λ r. refl, tt)))
leave_good e (of_right a o k) = (λ r. refl, tt)
leave_good e (of_print k) = more_good (sole e) k
leave_good e (of_prints es k) = more_good (then es e) k
leave_good e (of_group b k) = (λ r. refl, tt)

rows_good : (c : Config) → Good (before c) (rows c)
rows_good (start k) = (λ n r. refl, (λ r. refl, (λ r. refl, (λ r. refl, (λ r. refl, (λ r. refl, finish_good nil k))))))
rows_good (labelling n k) = (λ r. refl, tt)
rows_good (let_word k) = (λ n r. refl, tt)
rows_good (let_name n k) = (λ r. refl, tt)
rows_good (go_word k) = (λ r. refl, tt)
rows_good (to_word k) = (λ n r. refl, tt)
rows_good (to_name n k) = (λ r. refl, finish_good (jump n) k)
rows_good (of_word n k) = (λ n r. refl, tt)
rows_good (of_names n ns k) = (λ r. refl, finish_good (pick n ns) k)
rows_good (of_comma n ns k) = (λ n r. refl, tt)
rows_good (read_word k) = (λ n r. refl, finish_good read_none k)
rows_good (read_names ns k) = (λ r. refl, finish_good (read_some ns) k)
rows_good (read_comma ns k) = (λ n r. refl, tt)
rows_good (print_word k) = (λ n r. refl, (λ n r. refl, (λ r. refl, finish_good print_none k)))
rows_good (operand b k) = (λ n r. refl, (λ n r. refl, (λ r. refl, tt)))
rows_good (after (no_product no_sum) f k) = (λ r. refl, (λ r. refl, (λ r. refl, (λ r. refl, leave_good (term (factor f)) k))))
rows_good (after (no_product (sum e o)) f k) = (λ r. refl, (λ r. refl, (λ r. refl, (λ r. refl, leave_good (add e o (factor f)) k))))
rows_good (after (product no_sum u q) f k) = (λ r. refl, (λ r. refl, (λ r. refl, (λ r. refl, leave_good (term (multiply u q f)) k))))
rows_good (after (product (sum e o) u q) f k) = (λ r. refl, (λ r. refl, (λ r. refl, (λ r. refl, leave_good (add e o (multiply u q f)) k))))
rows_good (done cs) = tt

-- what is read by the row that a token chooses
tested : (p : List Token → List Token) (t : Token) (b : Bool) (c d : Config) (z : Option Config) →
    (T b → (r : List Token) → before c r ≡ p (t ∷ r)) → (z ≡ some d → (r : List Token) → before d r ≡ p (t ∷ r)) →
    cond b (some c) z ≡ some d → (r : List Token) → before d r ≡ p (t ∷ r)
tested p t true c d z h k e r = ap (λ x. before x r) (sym (some-injective c d e)) ∙ h tt r
tested p t false c d z h k e r = k e r

chosen : (p : List Token → List Token) (R : Rows Config) → Good p R → (t : Token) (d : Config) → choose R t ≡ some d → (r : List Token) → before d r ≡ p (t ∷ r)
chosen p stop g t d e = absurd (none-ne-some d e)
chosen p (on w c z) g t d e =
    tested p t (is w t) c d (choose z t) (λ i r. g.0 r ∙ ap (λ x. p (x ∷ r)) (sym (is_same w t i))) (chosen p z g.1 t d) e
chosen p (at_name f z) g t d e =
    tested p t (is_name t) (f (spelling t)) d (choose z t) (λ i r. g.0 (spelling t) r ∙ ap (λ x. p (x ∷ r)) (sym (is_name_of t i))) (chosen p z g.1 t d) e
chosen p (at_number f z) g t d e =
    tested p t (is_number t) (f (spelling t)) d (choose z t) (λ i r. g.0 (spelling t) r ∙ ap (λ x. p (x ∷ r)) (sym (is_number_of t i))) (chosen p z g.1 t d) e

pub step_reads : (c : Config) (t : Token) (d : Config) → step c t ≡ some d → (r : List Token) → before d r ≡ before c (t ∷ r)
step_reads c t d e r = chosen (before c) (rows c) (rows_good c) t d e r

-- over a whole run
pub run_reads : (c : Config) (ts : List Token) (d : Config) → run c ts ≡ some d → (r : List Token) → before d r ≡ before c (ts ++ r)
run_reads c [] d e r = ap (λ x. before x r) (sym (some-injective c d e))
run_reads c (t ∷ ts) d e r = go (λ a h. run_reads a ts d h r) (step c t) refl e
  where
    go : ((a : Config) → run a ts ≡ some d → before d r ≡ before a (ts ++ r)) →
        (s : Option Config) → step c t ≡ s → go_on rows s ts ≡ some d → before d r ≡ before c (t ∷ (ts ++ r))
    go ih none q h = absurd (none-ne-some d h)
    go ih (some a) q h = ih a h ∙ step_reads c t a q (ts ++ r)
