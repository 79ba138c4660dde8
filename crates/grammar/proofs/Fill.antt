-- Each configuration can be completed.
use Rattle.token.specs.declared.kinds.Keyword.TheVariants.{End, To, Then, Else}
use Rattle.token.specs.declared.kinds.Sign.TheVariants.{Colon, Becomes, Close, Equal}
use Rattle.std.proofs.Common.{◌≡◌, List, [], ◌∷◌, refl}
use Rattle.token.specs.Tokens.{Token, name, keyword, sign}
use Rattle.trees.specs.Trees.{Name}
use Rattle.trees.specs.declared.relation.Relation.TheVariants.{Equal as equal}
use Rattle.grammar.specs.Concrete.{Factor, var, group, factor, multiply, Sum, term, add, sole, then, Statement, label, nil, set, jump, pick, read_none, read_some, print_none, print_some, test, Statements, factor_t, sum_t, statement_t, program_t}
use Rattle.grammar.specs.Machine.{InCommands, first_command, after_commands, under_label, then_part, else_part, no_sum, sum, BeforeFactor, no_product, product, InCommand, of_assign, of_left, of_right, of_print, of_prints, of_group, Config, start, labelling, let_word, let_name, go_word, to_word, to_name, of_word, of_names, of_comma, read_word, read_names, read_comma, print_word, operand, after, done}
use Rattle.grammar.proofs.Sound.{before_c, before_f, before_e, before}

-- a name to fill with: A
abbrev letter : Name
letter = 65 ∷ []

abbrev Filled : (List Token → List Token) → Type 0
Filled p = (rest : List Token) × (cs : Statements) × (program_t cs ≡ p rest)

fill_c : (c : Statement) (k : InCommands) → Filled (λ r. before_c k (statement_t c r))
fill_c c first_command = (keyword End ∷ [], sole c, refl)
fill_c c (after_commands cs) = (keyword End ∷ [], then cs c, refl)
fill_c c (under_label n k) = fill_c (label n c) k
fill_c c (then_part a o b k) = let f = fill_c (test a o b c nil) k in (keyword Else ∷ f.0, f.1, f.2)
fill_c c (else_part a o b d k) = fill_c (test a o b d c) k

fill_e : (e : Sum) (k : InCommand) → Filled (λ r. before_e k (sum_t e r))
fill_e e (of_assign n k) = fill_c (set n e) k
fill_e e (of_left k) =
    let f = fill_c (test e equal (term (factor (var letter))) nil nil) k in
    (sign Equal ∷ name letter ∷ keyword Then ∷ keyword Else ∷ f.0, f.1, f.2)
fill_e e (of_right a o k) = let f = fill_c (test a o e nil nil) k in (keyword Then ∷ keyword Else ∷ f.0, f.1, f.2)
fill_e e (of_print k) = fill_c (print_some (sole e)) k
fill_e e (of_prints es k) = fill_c (print_some (then es e)) k
fill_e e (of_group (no_product no_sum) k) = let f = fill_e (term (factor (group e))) k in (sign Close ∷ f.0, f.1, f.2)
fill_e e (of_group (no_product (sum a o)) k) = let f = fill_e (add a o (factor (group e))) k in (sign Close ∷ f.0, f.1, f.2)
fill_e e (of_group (product no_sum u q) k) = let f = fill_e (term (multiply u q (group e))) k in (sign Close ∷ f.0, f.1, f.2)
fill_e e (of_group (product (sum a o) u q) k) = let f = fill_e (add a o (multiply u q (group e))) k in (sign Close ∷ f.0, f.1, f.2)

fill_f : (b : BeforeFactor) (f : Factor) (k : InCommand) → Filled (λ r. before_e k (before_f b (factor_t f r)))
fill_f (no_product no_sum) f k = fill_e (term (factor f)) k
fill_f (no_product (sum a o)) f k = fill_e (add a o (factor f)) k
fill_f (product no_sum u q) f k = fill_e (term (multiply u q f)) k
fill_f (product (sum a o) u q) f k = fill_e (add a o (multiply u q f)) k

pub fill : (c : Config) → Filled (before c)
fill (start k) = fill_c nil k
fill (labelling n k) = let f = fill_c (label n nil) k in (sign Colon ∷ f.0, f.1, f.2)
fill (let_word k) = let f = fill_c (set letter (term (factor (var letter)))) k in (name letter ∷ sign Becomes ∷ name letter ∷ f.0, f.1, f.2)
fill (let_name n k) = let f = fill_c (set n (term (factor (var letter)))) k in (sign Becomes ∷ name letter ∷ f.0, f.1, f.2)
fill (go_word k) = let f = fill_c (jump letter) k in (keyword To ∷ name letter ∷ f.0, f.1, f.2)
fill (to_word k) = let f = fill_c (jump letter) k in (name letter ∷ f.0, f.1, f.2)
fill (to_name n k) = fill_c (jump n) k
fill (of_word n k) = let f = fill_c (pick n (sole letter)) k in (name letter ∷ f.0, f.1, f.2)
fill (of_names n ns k) = fill_c (pick n ns) k
fill (of_comma n ns k) = let f = fill_c (pick n (then ns letter)) k in (name letter ∷ f.0, f.1, f.2)
fill (read_word k) = fill_c read_none k
fill (read_names ns k) = fill_c (read_some ns) k
fill (read_comma ns k) = let f = fill_c (read_some (then ns letter)) k in (name letter ∷ f.0, f.1, f.2)
fill (print_word k) = fill_c print_none k
fill (operand b k) = let f = fill_f b (var letter) k in (name letter ∷ f.0, f.1, f.2)
fill (after b f k) = fill_f b f k
fill (done cs) = ([], cs, refl)
