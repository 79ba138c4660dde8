-- What holds of each translator that tokens lead to: a jump that waits leads nowhere yet, and the current state is the recogniser's.
use Rattle.grammar.specs.declared.state.State.{State as Recognised}
use Rattle.grammar.specs.declared.state.State.TheVariants as recognised
use Rattle.std.proofs.Common.{◌≡◌, ℕ, suc, ◌+◌, List, [], ◌∷◌, map, length, refl, ap, ◌∙◌, inl, inr}
use mathlib.Core.Option.{some}
use Rattle.token.specs.Tokens.{Token}
use Rattle.trees.specs.Trees.{Expr, variable, literal, binary}
use Rattle.trees.specs.declared.relation.Relation.{Relation}
use Rattle.runs.specs.declared.instruction.Instruction.TheVariants.{Bru, Lda}
use Rattle.runs.specs.Code.{Layout, first_temporary, operations}
use Rattle.grammar.specs.Concrete.{Sum, sole, then, Names, Sums, Statement, factor_tree, term_tree, sum_tree, command_tree}
use Rattle.grammar.specs.Machine.{InCommands, first_command, after_commands, under_label, then_part, else_part, BeforeTerm, no_sum, sum, BeforeFactor, no_product, product, InCommand, of_assign, of_left, of_right, of_print, of_prints, of_group, Config, start, labelling, let_word, let_name, go_word, to_word, to_name, of_word, of_names, of_comma, read_word, read_names, read_comma, print_word, operand, after, done}
use Rattle.limits.specs.Uses.{In}
use Rattle.emission.specs.Draft.{Word, fixed, Work, Draft, words_of}
use Rattle.emission.specs.Table.{Return, Translator, translator, translated}
use Rattle.emission.specs.Control.{control_of}
use Rattle.emission.specs.Growth.{word_at, waiting, Stays, as_it_was, lands, Onward}
use Rattle.emission.proofs.Drafted.{whole, drafted}
use Rattle.emission.proofs.Works.{with_expr, before_term, before_factor}
use Rattle.emission.proofs.Grows.{at_newest, at_within, in_split, in_none, onward_same, onward_more, onward_word, onward_words}
use Rattle.emission.proofs.Image.{reading_left, picking_left, printing_left, left_words, test_words, then_words, else_words, words_in, returns_in, work_of, returns_of, image}
use Rattle.emission.proofs.Pasts.{reached}

-- words that only have more in front
abbrev Onto : List Word → List Word → Type 0
Onto us vs = Onward [] us vs

onto_keeps : {us vs : List Word} (a : ℕ) (w : Word) → Onto us vs → word_at a us ≡ some w → word_at a vs ≡ some w
onto_keeps {us} {vs} a w o e = go (o.stays a (at_within a us w e))
  where
    go : Stays [] a (word_at a us) (word_at a vs) → word_at a vs ≡ some w
    go (as_it_was p) = p ∙ e
    go (lands i t p) = absurd (in_none a i)

abbrev Waits : List ℕ → List Word → Type 0
Waits js ws = (a : ℕ) → In a js → word_at a ws ≡ some (fixed (Bru 0))

waits_more : (js : List ℕ) (us vs : List Word) → Onto us vs → Waits js us → Waits js vs
waits_more js us vs o h a i = onto_keeps a (fixed (Bru 0)) o (h a i)

waits_new : (js : List ℕ) (ws : List Word) → Waits js ws → Waits (length ws ∷ js) (fixed (Bru 0) ∷ ws)
waits_new js ws h a i =
    elim (in_split a (length ws) js i) [
      | inl e ↦ ap (λ (n : ℕ). word_at n (fixed (Bru 0) ∷ ws)) e ∙ at_newest (fixed (Bru 0)) ws
      | inr j ↦ waits_more js ws (fixed (Bru 0) ∷ ws) (onward_word (fixed (Bru 0)) ws) h a j
    ]

module _ (y : Layout) where
  onto_left : (a : Sum) (ws : List Word) → Onto ws (left_words y a ws)
  onto_left a ws = onward_more (onward_words (whole y (sum_tree a)) ws) (onward_word _ _)

  onto_test : (a : Sum) (o : Relation) (b : Sum) (ws : List Word) → Onto ws (test_words y a o b ws)
  onto_test a o b ws = onward_more (onto_left a ws) (onward_more (onward_words (whole y (sum_tree b)) (left_words y a ws)) (onward_more (onward_word _ _) (onward_word _ _)))

  onto_then : (j : ℕ) (a : Sum) (o : Relation) (b : Sum) (c : Statement) (ws : List Word) → Onto ws (then_words y j a o b c ws)
  onto_then j a o b c ws =
      onward_more (onto_test a o b ws) (onward_more (onward_word (fixed (Bru j)) (test_words y a o b ws))
      (onward_words (drafted y (suc (length (test_words y a o b ws))) (command_tree c)) (fixed (Bru j) ∷ test_words y a o b ws)))

  waits_in : (k : InCommands) → Waits (waiting (returns_in y k)) (words_in y k)
  waits_in first_command = λ a i. absurd (in_none a i)
  waits_in (after_commands cs) = λ a i. absurd (in_none a i)
  waits_in (under_label n k) = waits_in k
  waits_in (then_part x o z k) =
      waits_new (waiting (returns_in y k)) (test_words y x o z (words_in y k))
      (waits_more (waiting (returns_in y k)) (words_in y k) (test_words y x o z (words_in y k)) (onto_test x o z (words_in y k)) (waits_in k))
  waits_in (else_part x o z c k) =
      waits_new (waiting (returns_in y k)) (else_words y x o z c (words_in y k))
      (waits_more (waiting (returns_in y k)) (words_in y k) (else_words y x o z c (words_in y k)) (onto_then _ x o z c (words_in y k)) (waits_in k))

  onto_reading : (ns : Names) (ws : List Word) → Onto ws (reading_left y ns ws)
  onto_reading (sole n) ws = onward_more (onward_word _ _) (onward_word _ _)
  onto_reading (then ns n) ws = onward_more (onto_reading ns ws) (onward_more (onward_word _ _) (onward_word _ _))

  onto_picking : (ns : Names) (ws : List Word) → Onto ws (picking_left y ns ws)
  onto_picking (sole n) ws = onward_word _ _
  onto_picking (then ns n) ws = onward_more (onto_picking ns ws) (onward_more (onward_word _ _) (onward_word _ _))

  onto_printing : (es : Sums) (ws : List Word) → Onto ws (printing_left y es ws)
  onto_printing (sole e) ws = onward_more (onward_words (whole y (sum_tree e)) ws) (onward_more (onward_word _ _) (onward_word _ _))
  onto_printing (then es e) ws =
      onward_more (onto_printing es ws) (onward_more (onward_words (whole y (sum_tree e)) (printing_left y es ws)) (onward_more (onward_word _ _) (onward_word _ _)))

  onto_expr : (e : Expr) (w : Work) → Onto w.words (with_expr y e w).words
  onto_expr (variable x) w = onward_same _
  onto_expr (literal ds) w = onward_same _
  onto_expr (binary o l r) w = onward_words (map fixed (operations y (first_temporary + w.temporaries) (binary o l r))) w.words

  onto_term : (s : BeforeTerm) (w : Work) → Onto w.words (before_term y s w).words
  onto_term no_sum w = onward_same _
  onto_term (sum e o) w = onto_expr (sum_tree e) w

  onto_factor : (s : BeforeFactor) (w : Work) → Onto w.words (before_factor y s w).words
  onto_factor (no_product s) w = onto_term s w
  onto_factor (product s t o) w = onward_more (onto_term s w) (onto_expr (term_tree t) (before_term y s w))

  waits_of : (k : InCommand) → Waits (waiting (returns_of y k)) (work_of y k).words
  waits_of (of_assign n k) = waits_in k
  waits_of (of_left k) = waits_in k
  waits_of (of_right a o k) = waits_more (waiting (returns_in y k)) (words_in y k) (left_words y a (words_in y k)) (onto_left a (words_in y k)) (waits_in k)
  waits_of (of_print k) = waits_in k
  waits_of (of_prints es k) = waits_more (waiting (returns_in y k)) (words_in y k) (printing_left y es (words_in y k)) (onto_printing es (words_in y k)) (waits_in k)
  waits_of (of_group b k) = waits_more (waiting (returns_of y k)) (work_of y k).words (before_factor y b (work_of y k)).words (onto_factor b (work_of y k)) (waits_of k)

  waits_image : (c : Config) → Waits (waiting (image y c).stack) (words_of (image y c).made)
  waits_image (start k) = waits_in k
  waits_image (labelling n k) = waits_in k
  waits_image (let_word k) = waits_in k
  waits_image (let_name n k) = waits_in k
  waits_image (go_word k) = waits_in k
  waits_image (to_word k) = waits_in k
  waits_image (to_name n k) = waits_in k
  waits_image (of_word n k) = waits_more (waiting (returns_in y k)) (words_in y k) (fixed (Lda (y.variable_cell n)) ∷ words_in y k) (onward_word _ _) (waits_in k)
  waits_image (of_names n ns k) =
      waits_more (waiting (returns_in y k)) (words_in y k) (picking_left y ns (fixed (Lda (y.variable_cell n)) ∷ words_in y k)) (onward_more (onward_word _ _) (onto_picking ns _)) (waits_in k)
  waits_image (of_comma n ns k) =
      waits_more (waiting (returns_in y k)) (words_in y k) (picking_left y ns (fixed (Lda (y.variable_cell n)) ∷ words_in y k)) (onward_more (onward_word _ _) (onto_picking ns _)) (waits_in k)
  waits_image (read_word k) = waits_in k
  waits_image (read_names ns k) = waits_more (waiting (returns_in y k)) (words_in y k) (reading_left y ns (words_in y k)) (onto_reading ns (words_in y k)) (waits_in k)
  waits_image (read_comma ns k) = waits_more (waiting (returns_in y k)) (words_in y k) (reading_left y ns (words_in y k)) (onto_reading ns (words_in y k)) (waits_in k)
  waits_image (print_word k) = waits_in k
  waits_image (operand b k) = waits_more (waiting (returns_of y k)) (work_of y k).words (before_factor y b (work_of y k)).words (onto_factor b (work_of y k)) (waits_of k)
  waits_image (after b f k) =
      waits_more (waiting (returns_of y k)) (work_of y k).words (with_expr y (factor_tree f) (before_factor y b (work_of y k))).words
      (onward_more (onto_factor b (work_of y k)) (onto_expr (factor_tree f) (before_factor y b (work_of y k)))) (waits_of k)
  waits_image (done cs) = λ a i. absurd (in_none a i)

  pub text_waits : (ts : List Token) (x : Translator) → translated y ts ≡ some x → (a : ℕ) → In a (waiting x.stack) → word_at a (words_of x.made) ≡ some (fixed (Bru 0))
  text_waits = reached y (λ b x. Waits (waiting x.stack) (words_of x.made)) waits_image

  -- between two tokens a state of the recogniser is on top
  abbrev Shown : List Return → Type 0
  Shown [] = Unit {0}
  Shown (s ∷ k) = (r : Recognised) × (control_of s.state ≡ r ∷ [])

  shown : (c : Config) → Shown (image y c).stack
  shown (start k) = (recognised.Start, refl)
  shown (labelling n k) = (recognised.Label, refl)
  shown (let_word k) = (recognised.LetWord, refl)
  shown (let_name n k) = (recognised.LetName, refl)
  shown (go_word k) = (recognised.GoWord, refl)
  shown (to_word k) = (recognised.ToWord, refl)
  shown (to_name n k) = (recognised.ToName, refl)
  shown (of_word n k) = (recognised.OfWord, refl)
  shown (of_names n ns k) = (recognised.OfNames, refl)
  shown (of_comma n ns k) = (recognised.OfComma, refl)
  shown (read_word k) = (recognised.ReadWord, refl)
  shown (read_names ns k) = (recognised.ReadNames, refl)
  shown (read_comma ns k) = (recognised.ReadComma, refl)
  shown (print_word k) = (recognised.PrintWord, refl)
  shown (operand b k) = (recognised.Operand, refl)
  shown (after b f k) = (recognised.AfterOperand, refl)
  shown (done cs) = tt

  pub text_shown : (ts : List Token) (s : Return) (k : List Return) (d : Draft) → translated y ts ≡ some (translator (s ∷ k) d) →
      (r : Recognised) × (control_of s.state ≡ r ∷ [])
  text_shown ts s k d = reached y (λ b x. Shown x.stack) shown ts (translator (s ∷ k) d)
