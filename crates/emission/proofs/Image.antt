-- The translator is the machine of the grammar with its trees put into code.
use mathlib.Core.List.{reverse_aux-append}
use Rattle.std.proofs.lemmas.List.{map-append}
use Rattle.token.specs.declared.kinds.Keyword.TheVariants.{Else}
use Rattle.token.specs.declared.kinds.Sign.TheVariants as sign_of
use Rattle.std.proofs.Common.{◌≡◌, ℕ, suc, ◌+◌, List, [], ◌∷◌, ◌++◌, map, length, sym, refl, ap, ◌∙◌, append_assoc, arith}
use mathlib.Core.List.{reverse_aux}
use mathlib.Core.Option
use mathlib.Core.Option.{Option, none, some}
use lib.ListN.{length-reverse_aux}
use Rattle.token.specs.Tokens.{Token, keyword, sign}
use Rattle.trees.specs.Trees.{Name, Expr, Command, branch}
use Rattle.trees.specs.declared.operator.Operator.TheVariants.{Plus as plus, Minus as minus, Times as times, Over as over}
use Rattle.trees.specs.declared.relation.Relation.{Relation}
use Rattle.runs.specs.declared.instruction.Instruction.TheVariants.{Bru, Lda, Sta, Sub, Read, Convert, Newline, Stop}
use Rattle.runs.specs.Source.{cost}
use Rattle.runs.specs.Code.{Layout, expression, temp, one, branching, comparing, reads, values, size, then_at, else_at, past}
use Rattle.grammar.specs.Concrete.{Sum, sole, then, Names, Sums, Statement, label, nil, set, jump, pick, read_none, read_some, print_none, print_some, test, Statements, factor_tree, sum_tree, head, tail, same_name, command_tree}
use Rattle.grammar.specs.Machine.{InCommands, first_command, after_commands, under_label, then_part, else_part, InCommand, of_assign, of_left, of_right, of_print, of_prints, of_group, Config, start, labelling, let_word, let_name, go_word, to_word, to_name, of_word, of_names, of_comma, read_word, read_names, read_comma, print_word, operand, after, done, Rows, stop, on, finish, more_print, leave, fresh, rows, whole_of, run, begun}
use Rattle.grammar.proofs.Erase.{map_rows, run_map}
use Rattle.emission.specs.Draft.{Word, fixed, jump_zero, Work, idle, Definition, Draft, draft, no_target, no_name, no_relation, plain, here, patch, push, opened, closed, ended}
use Rattle.emission.specs.Table.{State, Next, Start, Label, LetWord, LetName, LetEnd, GoWord, ToWord, ToName, OfWord, OfNames, OfComma, ReadWord, ReadNames, ReadComma, PrintWord, PrintList, LeftSide, RightSide, ThenPart, ElsePart, Operand, AfterOperand, Group, Return, entered, Translator, translator, draft_rows, translator_rows, translated}
use Rattle.emission.proofs.Drafted.{definition, definitions_of, testing, whole, drafted}
use Rattle.emission.proofs.Works.{with_expr, before_factor, Low, at_bottom, at_parenthesis, term_reduced, whole_reduced, whole_ended}
use Rattle.emission.proofs.Sizes.{drafted_size, whole_size, patch_onto}

module _ (y : Layout) where
  -- Lists, which grow to the left.
  abbrev pub reading_left : Names → List Word → List Word
  reading_left (sole n) ws = fixed (Sta (y.variable_cell n)) ∷ fixed Read ∷ ws
  reading_left (then ns n) ws = fixed (Sta (y.variable_cell n)) ∷ fixed Read ∷ reading_left ns ws

  abbrev pub picking_left : Names → List Word → List Word
  picking_left (sole n) ws = jump_zero n ∷ ws
  picking_left (then ns n) ws = jump_zero n ∷ fixed (Sub one) ∷ picking_left ns ws

  abbrev pub printing_left : Sums → List Word → List Word
  printing_left (sole e) ws = fixed Newline ∷ fixed Convert ∷ reverse_aux (whole y (sum_tree e)) ws
  printing_left (then es e) ws = fixed Newline ∷ fixed Convert ∷ reverse_aux (whole y (sum_tree e)) (printing_left es ws)

  reads_more : (xs : List Name) (n : Name) → map fixed (reads y (xs ++ n ∷ [])) ≡ map fixed (reads y xs) ++ (fixed Read ∷ fixed (Sta (y.variable_cell n)) ∷ [])
  reads_more [] n = refl
  reads_more (x ∷ xs) n = rw (reads_more xs n)

  reading_is : (ns : Names) (ws : List Word) → reading_left ns ws ≡ reverse_aux (map fixed (reads y (head same_name ns ∷ tail same_name ns))) ws
  reading_is (sole n) ws = refl
  reading_is (then ns n) ws =
      ap (λ z. fixed (Sta (y.variable_cell n)) ∷ fixed Read ∷ z) (reading_is ns ws)
      ∙ sym (reverse_aux-append (map fixed (reads y (head same_name ns ∷ tail same_name ns))) (fixed Read ∷ fixed (Sta (y.variable_cell n)) ∷ []) ws)
      ∙ ap (λ z. reverse_aux z ws) (sym (reads_more (head same_name ns ∷ tail same_name ns) n))

  testing_more : (xs : List Name) (n : Name) → testing (xs ++ n ∷ []) ≡ testing xs ++ (fixed (Sub one) ∷ jump_zero n ∷ [])
  testing_more [] n = refl
  testing_more (x ∷ xs) n = rw (testing_more xs n)

  picking_is : (ns : Names) (ws : List Word) → picking_left ns ws ≡ reverse_aux (jump_zero (head same_name ns) ∷ testing (tail same_name ns)) ws
  picking_is (sole n) ws = refl
  picking_is (then ns n) ws =
      ap (λ z. jump_zero n ∷ fixed (Sub one) ∷ z) (picking_is ns ws)
      ∙ sym (reverse_aux-append (jump_zero (head same_name ns) ∷ testing (tail same_name ns)) (fixed (Sub one) ∷ jump_zero n ∷ []) ws)
      ∙ ap (λ z. reverse_aux (jump_zero (head same_name ns) ∷ z) ws) (sym (testing_more (tail same_name ns) n))

  abbrev shown : Expr → List Word
  shown e = whole y e ++ (fixed Convert ∷ fixed Newline ∷ [])

  values_more : (es : List Expr) (e : Expr) → map fixed (values y (es ++ e ∷ [])) ≡ map fixed (values y es) ++ shown e
  values_more [] e = simp map-append
  values_more (x ∷ es) e = simp (map-append, append_assoc, values_more es e)

  printing_is : (es : Sums) (ws : List Word) → printing_left es ws ≡ reverse_aux (map fixed (values y (head sum_tree es ∷ tail sum_tree es))) ws
  printing_is (sole e) ws =
      sym (reverse_aux-append (whole y (sum_tree e)) (fixed Convert ∷ fixed Newline ∷ []) ws)
      ∙ ap (λ z. reverse_aux z ws) (sym (map-append fixed (expression y (sum_tree e)) (Convert ∷ Newline ∷ [])))
  printing_is (then es e) ws =
      ap (λ z. fixed Newline ∷ fixed Convert ∷ reverse_aux (whole y (sum_tree e)) z) (printing_is es ws)
      ∙ sym (reverse_aux-append (whole y (sum_tree e)) (fixed Convert ∷ fixed Newline ∷ []) (reverse_aux (map fixed (values y (head sum_tree es ∷ tail sum_tree es))) ws))
      ∙ sym (reverse_aux-append (map fixed (values y (head sum_tree es ∷ tail sum_tree es))) (shown (sum_tree e)) ws)
      ∙ ap (λ z. reverse_aux z ws) (sym (values_more (head sum_tree es ∷ tail sum_tree es) (sum_tree e)))

  -- Words and labels before a command, and the returns.
  abbrev pub words_all : Statements → List Word
  words_all (sole c) = reverse_aux (drafted y 0 (command_tree c)) []
  words_all (then cs c) = reverse_aux (drafted y (length (words_all cs)) (command_tree c)) (words_all cs)

  abbrev pub labels_all : Statements → List Definition
  labels_all (sole c) = reverse_aux (definitions_of 0 (command_tree c)) []
  labels_all (then cs c) = reverse_aux (definitions_of (length (words_all cs)) (command_tree c)) (labels_all cs)

  -- the words of a comparison behind ws: to the end of the first value, to the test's end
  abbrev pub left_words : Sum → List Word → List Word
  left_words a ws = fixed (Sta temp) ∷ reverse_aux (whole y (sum_tree a)) ws

  abbrev pub right_words : Sum → Sum → List Word → List Word
  right_words a b ws = reverse_aux (whole y (sum_tree b)) (left_words a ws)

  abbrev pub test_words : Sum → Relation → Sum → List Word → List Word
  test_words a o b ws = fixed (branching o (3 + length (right_words a b ws))) ∷ fixed comparing ∷ right_words a b ws

  -- the jump to j over the THEN part, and that part
  abbrev pub then_words : ℕ → Sum → Relation → Sum → Statement → List Word → List Word
  then_words j a o b c ws = reverse_aux (drafted y (suc (length (test_words a o b ws))) (command_tree c)) (fixed (Bru j) ∷ test_words a o b ws)

  -- with the jump's address known
  abbrev pub else_words : Sum → Relation → Sum → Statement → List Word → List Word
  else_words a o b c ws = then_words (suc (length (then_words 0 a o b c ws))) a o b c ws

  abbrev pub words_in : InCommands → List Word
  words_in first_command = []
  words_in (after_commands cs) = words_all cs
  words_in (under_label n k) = words_in k
  words_in (then_part a o b k) = fixed (Bru 0) ∷ test_words a o b (words_in k)
  words_in (else_part a o b c k) = fixed (Bru 0) ∷ else_words a o b c (words_in k)

  abbrev pub labels_in : InCommands → List Definition
  labels_in first_command = []
  labels_in (after_commands cs) = labels_all cs
  labels_in (under_label n k) = definition n (length (words_in k)) ∷ labels_in k
  labels_in (then_part a o b k) = labels_in k
  labels_in (else_part a o b c k) = reverse_aux (definitions_of (suc (length (test_words a o b (words_in k)))) (command_tree c)) (labels_in k)

  abbrev pub returns_in : InCommands → List Return
  returns_in first_command = entered 0 Next ∷ []
  returns_in (after_commands cs) = entered (length (words_all cs)) Next ∷ []
  returns_in (under_label n k) = returns_in k
  returns_in (then_part a o b k) = entered (suc (length (test_words a o b (words_in k)))) ThenPart ∷ returns_in k
  returns_in (else_part a o b c k) = entered (suc (length (else_words a o b c (words_in k)))) ElsePart ∷ returns_in k

  -- Inside a command.
  abbrev pub place_of : InCommand → InCommands
  place_of (of_assign n k) = k
  place_of (of_left k) = k
  place_of (of_right a o k) = k
  place_of (of_print k) = k
  place_of (of_prints es k) = k
  place_of (of_group b k) = place_of k

  abbrev pub target_of : InCommand → ℕ
  target_of (of_assign n k) = y.variable_cell n
  target_of (of_left k) = no_target
  target_of (of_right a o k) = no_target
  target_of (of_print k) = no_target
  target_of (of_prints es k) = no_target
  target_of (of_group b k) = target_of k

  abbrev pub relation_of : InCommand → Relation
  relation_of (of_assign n k) = no_relation
  relation_of (of_left k) = no_relation
  relation_of (of_right a o k) = o
  relation_of (of_print k) = no_relation
  relation_of (of_prints es k) = no_relation
  relation_of (of_group b k) = relation_of k

  abbrev pub work_of : InCommand → Work
  work_of (of_assign n k) = idle (words_in k)
  work_of (of_left k) = idle (words_in k)
  work_of (of_right a o k) = idle (left_words a (words_in k))
  work_of (of_print k) = idle (words_in k)
  work_of (of_prints es k) = idle (printing_left es (words_in k))
  work_of (of_group b k) = opened (before_factor y b (work_of k))

  abbrev pub returns_of : InCommand → List Return
  returns_of (of_assign n k) = entered (length (words_in k)) LetEnd ∷ returns_in k
  returns_of (of_left k) = entered (length (words_in k)) LeftSide ∷ returns_in k
  returns_of (of_right a o k) = entered (length (left_words a (words_in k))) RightSide ∷ returns_in k
  returns_of (of_print k) = entered (length (words_in k)) PrintList ∷ returns_in k
  returns_of (of_prints es k) = entered (length (printing_left es (words_in k))) PrintList ∷ returns_in k
  returns_of (of_group b k) = entered (length (before_factor y b (work_of k)).words) Group ∷ returns_of k

  abbrev pub draft_of : InCommand → Work → Draft
  draft_of k w = draft w (labels_in (place_of k)) (target_of k) no_name (relation_of k)

  abbrev pub at_state : State → List Return → Draft → Translator
  at_state s k d = translator (entered (here d) s ∷ k) d

  abbrev pub in_command : State → InCommands → List Word → Translator
  in_command s k ws = at_state s (returns_in k) (plain (idle ws) (labels_in k))

  abbrev pub image : Config → Translator
  image (start k) = in_command Start k (words_in k)
  image (labelling n k) = at_state Label (returns_in k) (plain (idle (words_in k)) (definition n (length (words_in k)) ∷ labels_in k))
  image (let_word k) = in_command LetWord k (words_in k)
  image (let_name n k) = at_state LetName (returns_in k) (draft (idle (words_in k)) (labels_in k) (y.variable_cell n) no_name no_relation)
  image (go_word k) = in_command GoWord k (words_in k)
  image (to_word k) = in_command ToWord k (words_in k)
  image (to_name n k) = at_state ToName (returns_in k) (draft (idle (words_in k)) (labels_in k) no_target n no_relation)
  image (of_word n k) = in_command OfWord k (fixed (Lda (y.variable_cell n)) ∷ words_in k)
  image (of_names n ns k) = in_command OfNames k (picking_left ns (fixed (Lda (y.variable_cell n)) ∷ words_in k))
  image (of_comma n ns k) = in_command OfComma k (picking_left ns (fixed (Lda (y.variable_cell n)) ∷ words_in k))
  image (read_word k) = in_command ReadWord k (words_in k)
  image (read_names ns k) = in_command ReadNames k (reading_left ns (words_in k))
  image (read_comma ns k) = in_command ReadComma k (reading_left ns (words_in k))
  image (print_word k) = in_command PrintWord k (words_in k)
  image (operand b k) = at_state Operand (returns_of k) (draft_of k (before_factor y b (work_of k)))
  image (after b f k) = at_state AfterOperand (returns_of k) (draft_of k (with_expr y (factor_tree f) (before_factor y b (work_of k))))
  image (done cs) = translator [] (plain (idle (fixed Stop ∷ words_all cs)) (labels_all cs))

  -- after the whole command c
  abbrev pub finished : Command → InCommands → Draft
  finished c k =
      plain (idle (reverse_aux (drafted y (length (words_in k)) c) (words_in k))) (reverse_aux (definitions_of (length (words_in k)) c) (labels_in k))

  -- Addresses in an IF.
  module _ (a : Sum) (o : Relation) (b : Sum) (ws : List Word) where
    right_length : length (right_words a b ws) ≡ length ws + (cost (sum_tree a) + cost (sum_tree b) + 1)
    right_length =
        let p : length (right_words a b ws) ≡ length (whole y (sum_tree b)) + suc (length (reverse_aux (whole y (sum_tree a)) ws)) = length-reverse_aux (whole y (sum_tree b)) (left_words a ws) in
        let q : length (reverse_aux (whole y (sum_tree a)) ws) ≡ length (whole y (sum_tree a)) + length ws = length-reverse_aux (whole y (sum_tree a)) ws in
        let u : length (whole y (sum_tree a)) ≡ cost (sum_tree a) = whole_size y (sum_tree a) in
        let v : length (whole y (sum_tree b)) ≡ cost (sum_tree b) = whole_size y (sum_tree b) in
        omega arith

    branch_at : 3 + length (right_words a b ws) ≡ then_at (length ws) (sum_tree a) (sum_tree b)
    branch_at = let r = right_length in omega arith

    then_begins : suc (suc (suc (length (right_words a b ws)))) ≡ then_at (length ws) (sum_tree a) (sum_tree b)
    then_begins = let r = right_length in omega arith

    module _ (d : Statement) where
      then_length : (j : ℕ) → suc (length (then_words j a o b d ws)) ≡ else_at (length ws) (sum_tree a) (sum_tree b) (command_tree d)
      then_length j =
          let p : length (then_words j a o b d ws) ≡ length (drafted y (suc (length (test_words a o b ws))) (command_tree d)) + suc (length (test_words a o b ws)) =
          length-reverse_aux (drafted y (suc (length (test_words a o b ws))) (command_tree d)) (fixed (Bru j) ∷ test_words a o b ws) in
          let q : length (drafted y (suc (length (test_words a o b ws))) (command_tree d)) ≡ size (command_tree d) = drafted_size y (command_tree d) (suc (length (test_words a o b ws))) in
          let r = then_begins in
          omega arith

      module _ (c : Statement) where
        -- all of an IF, but for the jump over the ELSE part
        abbrev open_words : ℕ → List Word
        open_words j = reverse_aux (drafted y (suc (length (else_words a o b d ws))) (command_tree c)) (fixed (Bru j) ∷ else_words a o b d ws)

        if_length : (j : ℕ) → length (open_words j) ≡ past (length ws) (sum_tree a) (sum_tree b) (command_tree d) (command_tree c)
        if_length j =
            let p : length (open_words j) ≡ length (drafted y (suc (length (else_words a o b d ws))) (command_tree c)) + suc (length (else_words a o b d ws)) =
            length-reverse_aux (drafted y (suc (length (else_words a o b d ws))) (command_tree c)) (fixed (Bru j) ∷ else_words a o b d ws) in
            let q : length (drafted y (suc (length (else_words a o b d ws))) (command_tree c)) ≡ size (command_tree c) = drafted_size y (command_tree c) (suc (length (else_words a o b d ws))) in
            let r = then_length (suc (length (then_words 0 a o b d ws))) in
            omega arith

        -- when the last jump has its address, these are the words of the IF
        if_words : open_words (length (open_words 0)) ≡ reverse_aux (drafted y (length ws) (branch o (sum_tree a) (sum_tree b) (command_tree d) (command_tree c))) ws
        if_words =
            (λ i. reverse_aux (drafted y (then_length (suc (length (then_words 0 a o b d ws))) i) (command_tree c)) (fixed (Bru (if_length 0 i)) ∷
            reverse_aux (drafted y (then_begins i) (command_tree d)) (fixed (Bru (then_length 0 i)) ∷ fixed (branching o (branch_at i)) ∷ fixed comparing ∷ right_words a b ws)))
            ∙ sym (reverse_aux-append (whole y (sum_tree a)) (fixed (Sta temp) ∷ (whole y (sum_tree b) ++ from_test)) ws
            ∙ reverse_aux-append (whole y (sum_tree b)) from_test (left_words a ws)
            ∙ reverse_aux-append (drafted y A (command_tree d)) (fixed (Bru (past (length ws) (sum_tree a) (sum_tree b) (command_tree d) (command_tree c))) ∷ drafted y B (command_tree c))
            (fixed (Bru B) ∷ fixed (branching o A) ∷ fixed comparing ∷ right_words a b ws))
          where
            A : ℕ
            A = then_at (length ws) (sum_tree a) (sum_tree b)

            B : ℕ
            B = else_at (length ws) (sum_tree a) (sum_tree b) (command_tree d)

            from_test : List Word
            from_test = fixed comparing ∷ fixed (branching o A) ∷ fixed (Bru B) ∷
                (drafted y A (command_tree d) ++ (fixed (Bru (past (length ws) (sum_tree a) (sum_tree b) (command_tree d) (command_tree c))) ∷ drafted y B (command_tree c)))

        if_labels : (ds : List Definition) →
            reverse_aux (definitions_of (suc (length (else_words a o b d ws))) (command_tree c)) (reverse_aux (definitions_of (suc (length (test_words a o b ws))) (command_tree d)) ds)
            ≡ reverse_aux (definitions_of (length ws) (branch o (sum_tree a) (sum_tree b) (command_tree d) (command_tree c))) ds
        if_labels ds =
            (λ i. reverse_aux (definitions_of (then_length (suc (length (then_words 0 a o b d ws))) i) (command_tree c)) (reverse_aux (definitions_of (then_begins i) (command_tree d)) ds))
            ∙ sym (reverse_aux-append (definitions_of (then_at (length ws) (sum_tree a) (sum_tree b)) (command_tree d))
            (definitions_of (else_at (length ws) (sum_tree a) (sum_tree b) (command_tree d)) (command_tree c)) ds)

  patch_under : (v : Word) (vs : List Word) (w : Word) (ws : List Word) (t : ℕ) →
      patch (length ws) t (v ∷ reverse_aux vs (w ∷ ws)) ≡ v ∷ reverse_aux vs (fixed (Bru t) ∷ ws)
  patch_under v vs w ws t =
      ap (patch (length ws) t) (sym (reverse_aux-append vs (v ∷ []) (w ∷ ws))) ∙ patch_onto (vs ++ v ∷ []) w ws t ∙ reverse_aux-append vs (v ∷ []) (fixed (Bru t) ∷ ws)

  finish_image : (c : Statement) (k : InCommands) → map_rows image (finish c k) ≡ draft_rows y (returns_in k) (finished (command_tree c) k)
  finish_image c first_command = refl
  finish_image c (after_commands cs) = refl
  finish_image c (under_label n k) = finish_image (label n c) k
  finish_image c (then_part a o b k) =
      ap (λ (ws : List Word). on (keyword Else) (translator (entered (length ws) Start ∷ entered (length ws) ElsePart ∷ returns_in k) (plain (idle ws) (labels_in (else_part a o b c k)))) stop)
      (sym (patch_under (fixed (Bru 0)) (drafted y (suc (length (test_words a o b (words_in k)))) (command_tree c)) (fixed (Bru 0)) (test_words a o b (words_in k))
      (suc (length (then_words 0 a o b c (words_in k))))))
  finish_image c (else_part a o b d k) =
      finish_image (test a o b d c) k
      ∙ sym (λ i. draft_rows y (returns_in k) (plain (idle (words_is i)) (if_labels a o b (words_in k) d c (labels_in k) i)))
    where
      words_is : patch (length (else_words a o b d (words_in k))) (length (open_words a o b (words_in k) d c 0)) (open_words a o b (words_in k) d c 0) ≡
          reverse_aux (drafted y (length (words_in k)) (branch o (sum_tree a) (sum_tree b) (command_tree d) (command_tree c))) (words_in k)
      words_is =
          patch_onto (drafted y (suc (length (else_words a o b d (words_in k)))) (command_tree c)) (fixed (Bru 0)) (else_words a o b d (words_in k)) (length (open_words a o b (words_in k) d c 0))
          ∙ if_words a o b (words_in k) d c

  -- a command that ends with these words, and defines no label
  finish_with : (c : Statement) (k : InCommands) (ws : List Word) → definitions_of (length (words_in k)) (command_tree c) ≡ [] →
      ws ≡ reverse_aux (drafted y (length (words_in k)) (command_tree c)) (words_in k) →
      map_rows image (finish c k) ≡ draft_rows y (returns_in k) (plain (idle ws) (labels_in k))
  finish_with c k ws h e =
      finish_image c k
      ∙ ap (λ ds. draft_rows y (returns_in k) (plain (idle (reverse_aux (drafted y (length (words_in k)) (command_tree c)) (words_in k))) (reverse_aux ds (labels_in k)))) h
      ∙ sym (λ i. draft_rows y (returns_in k) (plain (idle (e i)) (labels_in k)))

  low_work : (k : InCommand) → Low y (work_of k).marks
  low_work (of_assign n k) = at_bottom
  low_work (of_left k) = at_bottom
  low_work (of_right a o k) = at_bottom
  low_work (of_print k) = at_bottom
  low_work (of_prints es k) = at_bottom
  low_work (of_group b k) = at_parenthesis

  group_closed : (e : Expr) (w : Work) → closed (ended (with_expr y e (opened w))) ≡ with_expr y e w
  group_closed e w = grind arith

  -- after the whole expression e
  abbrev left_rows : InCommand → Work → Rows Translator
  left_rows k w = draft_rows y (returns_of k) (draft_of k w)

  print_image : (es : Sums) (k : InCommands) →
      map_rows image (more_print es k) ≡ on (sign sign_of.Comma) (image (operand fresh (of_prints es k))) (draft_rows y (returns_in k) (plain (idle (printing_left es (words_in k))) (labels_in k)))
  print_image es k =
      ap (λ (z : Rows Translator). on (sign sign_of.Comma) (image (operand fresh (of_prints es k))) z)
      (finish_with (print_some es) k (printing_left es (words_in k)) refl (printing_is es (words_in k)))

  leave_image : (e : Sum) (k : InCommand) → map_rows image (leave e k) ≡ left_rows k (ended (with_expr y (sum_tree e) (work_of k)))
  leave_image e (of_assign n k) =
      finish_with (set n e) k (fixed (Sta (y.variable_cell n)) ∷ reverse_aux (whole y (sum_tree e)) (words_in k)) refl
      (sym (reverse_aux-append (whole y (sum_tree e)) (fixed (Sta (y.variable_cell n)) ∷ []) (words_in k)))
      ∙ ap (left_rows (of_assign n k)) (sym (whole_ended y (sum_tree e) (words_in k)))
  leave_image e (of_left k) = ap (left_rows (of_left k)) (sym (whole_ended y (sum_tree e) (words_in k)))
  leave_image e (of_right a o k) = ap (left_rows (of_right a o k)) (sym (whole_ended y (sum_tree e) (left_words a (words_in k))))
  leave_image e (of_print k) = print_image (sole e) k ∙ ap (left_rows (of_print k)) (sym (whole_ended y (sum_tree e) (words_in k)))
  leave_image e (of_prints es k) = print_image (then es e) k ∙ ap (left_rows (of_prints es k)) (sym (whole_ended y (sum_tree e) (printing_left es (words_in k))))
  leave_image e (of_group b k) =
      ap (λ w. on (sign sign_of.Close) (at_state AfterOperand (returns_of k) (draft_of k w)) stop) (sym (group_closed (sum_tree e) (before_factor y b (work_of k))))

  -- after an operand
  abbrev operand_at : InCommand → Work → Translator
  operand_at k w = at_state Operand (returns_of k) (draft_of k w)

  after_rows : (k : InCommand) {s t u v : Work} {r z : Rows Translator} → s ≡ t → u ≡ v → r ≡ z →
      on (sign sign_of.Times) (operand_at k (push times s)) (on (sign sign_of.Over) (operand_at k (push over s))
      (on (sign sign_of.Plus) (operand_at k (push plus u)) (on (sign sign_of.Minus) (operand_at k (push minus u)) r)))
      ≡ on (sign sign_of.Times) (operand_at k (push times t)) (on (sign sign_of.Over) (operand_at k (push over t))
      (on (sign sign_of.Plus) (operand_at k (push plus v)) (on (sign sign_of.Minus) (operand_at k (push minus v)) z)))
  after_rows k p q r =
      (λ i. on (sign sign_of.Times) (operand_at k (push times (p i))) (on (sign sign_of.Over) (operand_at k (push over (p i)))
      (on (sign sign_of.Plus) (operand_at k (push plus (q i))) (on (sign sign_of.Minus) (operand_at k (push minus (q i))) (r i)))))

  rows_image : (c : Config) → map_rows image (rows c) ≡ translator_rows y (image c)
  rows_image (start k) = rw (finish_image nil k)
  rows_image (labelling n k) = refl
  rows_image (let_word k) = refl
  rows_image (let_name n k) = refl
  rows_image (go_word k) = refl
  rows_image (to_word k) = refl
  rows_image (to_name n k) = rw (finish_image (jump n) k)
  rows_image (of_word n k) = refl
  rows_image (of_names n ns k) =
      rw (finish_with (pick n ns) k (picking_left ns (fixed (Lda (y.variable_cell n)) ∷ words_in k)) refl (picking_is ns (fixed (Lda (y.variable_cell n)) ∷ words_in k)))
  rows_image (of_comma n ns k) = refl
  rows_image (read_word k) = rw (finish_image read_none k)
  rows_image (read_names ns k) = rw (finish_with (read_some ns) k (reading_left ns (words_in k)) refl (reading_is ns (words_in k)))
  rows_image (read_comma ns k) = refl
  rows_image (print_word k) = rw (finish_image print_none k)
  rows_image (operand b k) = refl
  rows_image (after b f k) =
      let s = whole_reduced y b f (work_of k) (low_work k) in
      after_rows k (sym (term_reduced y b f (work_of k) (low_work k))) (sym s)
      (leave_image (whole_of b f) k ∙ ap (λ w. left_rows k (ended w)) (sym s))
  rows_image (done cs) = refl

  pub translated_is : (ts : List Token) → translated y ts ≡ Option.map image (run begun ts)
  translated_is ts = run_map image rows (translator_rows y) rows_image (some begun) ts
