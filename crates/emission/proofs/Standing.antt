-- Between two tokens: what stands below the current state, and what it takes.
use Rattle.std.proofs.Common.{◌≡◌, ℕ, suc, cond, eqb, List, [], ◌∷◌, ◌++◌, reverse, length, sym, refl, ap, ◌∙◌, arith}
use mathlib.Core.Option.{Option, none, some}
use Rattle.std.proofs.lemmas.Bool.{cond-true}
use Rattle.token.specs.Tokens.{Token, name, number, other}
use Rattle.trees.specs.Trees.{Name}
use Rattle.runs.specs.Code.{Layout}
use Rattle.grammar.specs.Machine.{InCommands, first_command, after_commands, under_label, then_part, else_part, InCommand, of_assign, of_left, of_right, of_print, of_prints, of_group, Config, start, labelling, let_word, let_name, go_word, to_word, to_name, of_word, of_names, of_comma, read_word, read_names, read_comma, print_word, operand, after, done, choose, go_on}
use Rattle.grammar.proofs.Theorems.{run_append}
use Rattle.limits.specs.Uses.{parts}
use Rattle.emission.specs.Draft.{Draft}
use Rattle.emission.specs.Actions.{Action}
use Rattle.emission.specs.Table.{State, Start, table, returning, Return, Translator, translator, translator_rows, draft_step, outset, translated, decided}
use Rattle.emission.specs.Classes.{state_number}
use Rattle.emission.specs.Returns.{comes_back, AllBelow}
use Rattle.emission.proofs.Stepping.{refused, left}
use Rattle.emission.proofs.Image.{returns_in, returns_of, image}
use Rattle.limits.proofs.Pasts.{past_of}
use Rattle.emission.proofs.Pasts.{reached}
use Rattle.emission.proofs.Rooms.{stack_c}

-- no row of a state to return to is for a name or a number, and none at all for another byte
no_row : (s : State) (n : Name) (b : ℕ) →
    (cond (comes_back s) (choose (table s) (name n)) none ≡ none) × (cond (comes_back s) (choose (table s) (number n)) none ≡ none) × (choose (table s) (other b) ≡ none)
no_row s n b = grind arith

module _ (y : Layout) where
  -- A token for which neither the current state nor those below have a row.
  passed : (t : Token) (s : Return) (k : List Return) (d : Draft) → choose (table s.state) t ≡ none → ((e : Draft) → draft_step y (translator k e) t ≡ none) →
      draft_step y (translator (s ∷ k) d) t ≡ none
  passed t s k d e h = go (returning s.state) refl
    where
      go : (o : Option Action) → returning s.state ≡ o → draft_step y (translator (s ∷ k) d) t ≡ none
      go none q = refused y s k d t (λ i. decided (e i) (q i))
      go (some b) q = left y s k d t b (λ i. decided (e i) (q i)) ∙ h _

  pub no_name : (k : List Return) (d : Draft) (n : Name) → AllBelow k → draft_step y (translator k d) (name n) ≡ none
  no_name [] d n a = refl
  no_name (s ∷ k) d n a = passed (name n) s k d (sym (cond-true _ _ _ a.0) ∙ (no_row s.state n 0).0) (λ e. no_name k e n a.1)

  pub no_number : (k : List Return) (d : Draft) (n : Name) → AllBelow k → draft_step y (translator k d) (number n) ≡ none
  no_number [] d n a = refl
  no_number (s ∷ k) d n a = passed (number n) s k d (sym (cond-true _ _ _ a.0) ∙ (no_row s.state n 0).1) (λ e. no_number k e n a.1)

  never_other : (k : List Return) (d : Draft) (b : ℕ) → draft_step y (translator k d) (other b) ≡ none
  never_other [] d b = refl
  never_other (s ∷ k) d b = passed (other b) s k d (no_row s.state [] b).2 (λ e. never_other k e b)

  pub no_other : (x : Translator) (b : ℕ) → draft_step y x (other b) ≡ none
  no_other x b = never_other x.stack x.made b

  -- One token more.
  one_step : (o : Option Translator) → go_on (translator_rows y) o [] ≡ o
  one_step none = refl
  one_step (some x) = refl

  pub further : (ts : List Token) (x : Translator) (t : Token) → translated y ts ≡ some x → translated y (ts ++ (t ∷ [])) ≡ draft_step y x t
  further ts x t e =
      run_append (translator_rows y) (some (outset y)) ts (t ∷ []) ∙ ap (λ o. go_on (translator_rows y) o (t ∷ [])) e ∙ one_step (draft_step y x t)

  -- What is below the current state.
  below_c : (k : InCommands) → AllBelow (returns_in y k)
  below_c first_command = (refl, tt)
  below_c (after_commands cs) = (refl, tt)
  below_c (under_label n k) = below_c k
  below_c (then_part a o b k) = (refl, below_c k)
  below_c (else_part a o b c k) = (refl, below_c k)

  below_e : (k : InCommand) → AllBelow (returns_of y k)
  below_e (of_assign n k) = (refl, below_c k)
  below_e (of_left k) = (refl, below_c k)
  below_e (of_right a o k) = (refl, below_c k)
  below_e (of_print k) = (refl, below_c k)
  below_e (of_prints es k) = (refl, below_c k)
  below_e (of_group b k) = (refl, below_e k)

  -- n returns are below s, if s is the start of a command
  abbrev Deep : ℕ → State → List Return → Type 0
  Deep n s k = cond (eqb (state_number s) (state_number Start)) (length k) n ≡ n

  abbrev Stands : List Token → List Return → Type 0
  Stands b [] = Unit {0}
  Stands b (s ∷ k) = AllBelow k × Deep (suc (length (parts b))) s.state k

  stands : (c : Config) → Stands (past_of c) (image y c).stack
  stands (start k) = (below_c k, stack_c y k)
  stands (labelling n k) = (below_c k, refl)
  stands (let_word k) = (below_c k, refl)
  stands (let_name n k) = (below_c k, refl)
  stands (go_word k) = (below_c k, refl)
  stands (to_word k) = (below_c k, refl)
  stands (to_name n k) = (below_c k, refl)
  stands (of_word n k) = (below_c k, refl)
  stands (of_names n ns k) = (below_c k, refl)
  stands (of_comma n ns k) = (below_c k, refl)
  stands (read_word k) = (below_c k, refl)
  stands (read_names ns k) = (below_c k, refl)
  stands (read_comma ns k) = (below_c k, refl)
  stands (print_word k) = (below_c k, refl)
  stands (operand b k) = (below_e k, refl)
  stands (after b f k) = (below_e k, refl)
  stands (done cs) = tt

  text_stands : (ts : List Token) (s : Return) (k : List Return) (d : Draft) → translated y ts ≡ some (translator (s ∷ k) d) → Stands (reverse ts) (s ∷ k)
  text_stands ts s k d = reached y (λ b x. Stands b x.stack) stands ts (translator (s ∷ k) d)

  pub text_below : (ts : List Token) (s : Return) (k : List Return) (d : Draft) → translated y ts ≡ some (translator (s ∷ k) d) → AllBelow k
  text_below ts s k d e = (text_stands ts s k d e).0

  pub text_nested : (ts : List Token) (s : Return) (k : List Return) (d : Draft) → translated y ts ≡ some (translator (s ∷ k) d) → s.state ≡ Start →
      length k ≡ suc (length (parts (reverse ts)))
  text_nested ts s k d e h = ap (λ (r : State). cond (eqb (state_number r) (state_number Start)) (length k) (suc (length (parts (reverse ts))))) (sym h) ∙ (text_stands ts s k d e).1
