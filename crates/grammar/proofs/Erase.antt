-- The recogniser is the machine with its trees left out.
use Rattle.std.proofs.Common.{◌≡◌, Bool, true, false, cond, T, List, [], ◌∷◌, sym, refl, ap, ◌∙◌, arith}
use mathlib.Core.Option.{Option, none, some, map}
use Rattle.token.specs.Tokens.{Token}
use Rattle.grammar.specs.Tests.{is, is_name, is_number, spelling}
use Rattle.grammar.specs.Concrete.{Sum, sole, then, Statement, label, nil, set, jump, pick, read_none, read_some, print_none, print_some, test, Statements}
use Rattle.grammar.specs.Machine.{InCommands, first_command, after_commands, under_label, then_part, else_part, InCommand, of_assign, of_left, of_right, of_print, of_prints, of_group, Config, start, labelling, let_word, let_name, go_word, to_word, to_name, of_word, of_names, of_comma, read_word, read_names, read_comma, print_word, operand, after, done, Rows, stop, on, at_name, at_number, choose, whole_of, finish, leave, rows, step, go_on, run, begun}
use Rattle.grammar.specs.Recogniser.{State, Next, Start, Label, LetWord, LetName, GoWord, ToWord, ToName, OfWord, OfNames, OfComma, ReadWord, ReadNames, ReadComma, PrintWord, PrintList, LeftSide, RightSide, ThenPart, Operand, AfterOperand, Group, stack_rows, reach, accepting}

module _ {C D : Type 0} (f : C → D) where
  abbrev pub map_rows : Rows C → Rows D
  map_rows stop = stop
  map_rows (on w c z) = on w (f c) (map_rows z)
  map_rows (at_name g z) = at_name (λ n. f (g n)) (map_rows z)
  map_rows (at_number g z) = at_number (λ n. f (g n)) (map_rows z)

pub map_cond : {C D : Type 0} (f : C → D) (b : Bool) (c : C) (z : Option C) → cond b (some (f c)) (map f z) ≡ map f (cond b (some c) z)
map_cond f true c z = refl
map_cond f false c z = refl

pub choose_map : {C D : Type 0} (f : C → D) (R : Rows C) (t : Token) → choose (map_rows f R) t ≡ map f (choose R t)
choose_map f stop t = refl
choose_map f (on w c z) t = rw (choose_map f z t) (map_cond f (is w t) c (choose z t))
choose_map f (at_name g z) t = rw (choose_map f z t) (map_cond f (is_name t) (g (spelling t)) (choose z t))
choose_map f (at_number g z) t = rw (choose_map f z t) (map_cond f (is_number t) (g (spelling t)) (choose z t))

pub run_map : {C D : Type 0} (f : C → D) (R : C → Rows C) (S : D → Rows D) → ((c : C) → map_rows f (R c) ≡ S (f c)) →
    (s : Option C) (ts : List Token) → go_on S (map f s) ts ≡ map f (go_on R s ts)
run_map f R S h none ts = refl
run_map f R S h (some c) [] = refl
run_map f R S h (some c) (t ∷ ts) =
    ap (λ x. go_on S x ts) (ap (λ x. choose x t) (sym (h c)) ∙ choose_map f (R c) t) ∙ run_map f R S h (choose (R c) t) ts

abbrev pub erase_c : InCommands → List State
erase_c first_command = Next ∷ []
erase_c (after_commands cs) = Next ∷ []
erase_c (under_label n k) = erase_c k
erase_c (then_part a o b k) = ThenPart ∷ erase_c k
erase_c (else_part a o b c k) = erase_c k

abbrev pub erase_e : InCommand → List State
erase_e (of_assign n k) = erase_c k
erase_e (of_left k) = LeftSide ∷ erase_c k
erase_e (of_right a o k) = RightSide ∷ erase_c k
erase_e (of_print k) = PrintList ∷ erase_c k
erase_e (of_prints es k) = PrintList ∷ erase_c k
erase_e (of_group b k) = Group ∷ erase_e k

abbrev pub erase : Config → List State
erase (start k) = Start ∷ erase_c k
erase (labelling n k) = Label ∷ erase_c k
erase (let_word k) = LetWord ∷ erase_c k
erase (let_name n k) = LetName ∷ erase_c k
erase (go_word k) = GoWord ∷ erase_c k
erase (to_word k) = ToWord ∷ erase_c k
erase (to_name n k) = ToName ∷ erase_c k
erase (of_word n k) = OfWord ∷ erase_c k
erase (of_names n ns k) = OfNames ∷ erase_c k
erase (of_comma n ns k) = OfComma ∷ erase_c k
erase (read_word k) = ReadWord ∷ erase_c k
erase (read_names ns k) = ReadNames ∷ erase_c k
erase (read_comma ns k) = ReadComma ∷ erase_c k
erase (print_word k) = PrintWord ∷ erase_c k
erase (operand b k) = Operand ∷ erase_e k
erase (after b f k) = AfterOperand ∷ erase_e k
erase (done cs) = []

finish_erase : (c : Statement) (k : InCommands) → map_rows erase (finish c k) ≡ stack_rows (erase_c k)
finish_erase c first_command = refl
finish_erase c (after_commands cs) = refl
finish_erase c (under_label n k) = finish_erase (label n c) k
finish_erase c (then_part a o b k) = refl
finish_erase c (else_part a o b d k) = finish_erase (test a o b d c) k

leave_erase : (e : Sum) (k : InCommand) → map_rows erase (leave e k) ≡ stack_rows (erase_e k)
leave_erase e (of_assign n k) = finish_erase (set n e) k
leave_erase e (of_left k) = refl
leave_erase e (of_right a o k) = refl
leave_erase e (of_print k) = rw (finish_erase (print_some (sole e)) k)
leave_erase e (of_prints es k) = rw (finish_erase (print_some (then es e)) k)
leave_erase e (of_group b k) = refl

rows_erase : (c : Config) → map_rows erase (rows c) ≡ stack_rows (erase c)
rows_erase (start k) = rw (finish_erase nil k)
rows_erase (labelling n k) = refl
rows_erase (let_word k) = refl
rows_erase (let_name n k) = refl
rows_erase (go_word k) = refl
rows_erase (to_word k) = refl
rows_erase (to_name n k) = rw (finish_erase (jump n) k)
rows_erase (of_word n k) = refl
rows_erase (of_names n ns k) = rw (finish_erase (pick n ns) k)
rows_erase (of_comma n ns k) = refl
rows_erase (read_word k) = rw (finish_erase read_none k)
rows_erase (read_names ns k) = rw (finish_erase (read_some ns) k)
rows_erase (read_comma ns k) = refl
rows_erase (print_word k) = rw (finish_erase print_none k)
rows_erase (operand b k) = refl
rows_erase (after b f k) = rw (leave_erase (whole_of b f) k)
rows_erase (done cs) = refl

pub reach_is : (ts : List Token) → reach ts ≡ map erase (run begun ts)
reach_is ts = run_map erase rows stack_rows rows_erase (some begun) ts

pub step_is : (c : Config) (t : Token) → choose (stack_rows (erase c)) t ≡ map erase (step c t)
step_is c t = ap (λ x. choose x t) (sym (rows_erase c)) ∙ choose_map erase (rows c) t

pub accepting_is : (c : Config) → T (accepting (some (erase c))) → (cs : Statements) × (c ≡ done cs)
accepting_is c h = grind arith
