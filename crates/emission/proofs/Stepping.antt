-- A step, by the entry of the state on top.
use Rattle.std.proofs.Common.{◌≡◌, ℕ, Bool, true, false, cond, List, [], ◌∷◌, refl, ap, ◌∙◌, arith}
use mathlib.Core.Option.{Option, none, some}
use Rattle.token.specs.Tokens.{Token, name, number, keyword, sign, other}
use Rattle.trees.specs.Trees.{Name}
use Rattle.runs.specs.Code.{Layout}
use Rattle.grammar.specs.Tests.{is, is_name, is_number, spelling}
use Rattle.grammar.specs.Machine.{Rows, stop, on, at_name, at_number, choose}
use Rattle.emission.specs.Draft.{Draft}
use Rattle.emission.specs.Actions.{Action, perform}
use Rattle.emission.specs.Table.{Entry, table, returning, Return, Translator, translator, follow, above, if_returning, draft_rows, draft_step, Move, refuse, leave, enter, decided, move}

module _ (y : Layout) where
  abbrev or_else : Option Entry → ℕ → Name → List Return → Draft → Option Translator → Option Translator
  or_else none a n k d z = z
  or_else (some e) a n k d z = some (follow y e a n k d)

  or_cond : (b : Bool) (e : Entry) (o : Option Entry) (a : ℕ) (n : Name) (k : List Return) (d : Draft) (z : Option Translator) →
      cond b (some (follow y e a n k d)) (or_else o a n k d z) ≡ or_else (cond b (some e) o) a n k d z
  or_cond true e o a n k d z = refl
  or_cond false e o a n k d z = refl

  -- a keyword or a sign has no spelling
  or_word : (w t : Token) (e : Entry) (o : Option Entry) (a : ℕ) (k : List Return) (d : Draft) (z : Option Translator) →
      cond (is w t) (some (follow y e a [] k d)) (or_else o a (spelling t) k d z) ≡ or_else (cond (is w t) (some e) o) a (spelling t) k d z
  or_word w (name n) e o a k d z = unlike w
    where
      unlike : (w : Token) → cond (is w (name n)) (some (follow y e a [] k d)) (or_else o a n k d z) ≡ or_else (cond (is w (name n)) (some e) o) a n k d z
      unlike w = grind arith
  or_word w (number n) e o a k d z = unlike w
    where
      unlike : (w : Token) → cond (is w (number n)) (some (follow y e a [] k d)) (or_else o a n k d z) ≡ or_else (cond (is w (number n)) (some e) o) a n k d z
      unlike w = grind arith
  or_word w (keyword j) e o a k d z = or_cond (is w (keyword j)) e o a [] k d z
  or_word w (sign s) e o a k d z = or_cond (is w (sign s)) e o a [] k d z
  or_word w (other b) e o a k d z = or_cond (is w (other b)) e o a [] k d z

  choose_above : (R : Rows Entry) (a : ℕ) (k : List Return) (d : Draft) (z : Rows Translator) (t : Token) →
      choose (above y R a k d z) t ≡ or_else (choose R t) a (spelling t) k d (choose z t)
  choose_above stop a k d z t = refl
  choose_above (on w e r) a k d z t = rw (choose_above r a k d z t) (or_word w t e (choose r t) a k d (choose z t))
  choose_above (at_name f r) a k d z t = rw (choose_above r a k d z t) (or_cond (is_name t) (f (spelling t)) (choose r t) a (spelling t) k d (choose z t))
  choose_above (at_number f r) a k d z t = rw (choose_above r a k d z t) (or_cond (is_number t) (f (spelling t)) (choose r t) a (spelling t) k d (choose z t))

  -- what a move does
  abbrev done_by : Move → Return → List Return → Draft → Token → Option Translator
  done_by refuse s k d t = none
  done_by (leave b) s k d t = draft_step y (translator k (perform y b s.address [] d)) t
  done_by (enter e) s k d t = some (follow y e s.address (spelling t) k d)

  by_move : (s : Return) (k : List Return) (d : Draft) (t : Token) → draft_step y (translator (s ∷ k) d) t ≡ done_by (move s.state t) s k d t
  by_move s k d t =
      choose_above (table s.state) s.address k d (if_returning (returning s.state) (λ b. draft_rows y k (perform y b s.address [] d))) t
      ∙ go (choose (table s.state) t) (returning s.state)
    where
      go : (o : Option Entry) (b : Option Action) →
          or_else o s.address (spelling t) k d (choose (if_returning b (λ c. draft_rows y k (perform y c s.address [] d))) t) ≡ done_by (decided o b) s k d t
      go o b = grind arith

  pub refused : (s : Return) (k : List Return) (d : Draft) (t : Token) → move s.state t ≡ refuse → draft_step y (translator (s ∷ k) d) t ≡ none
  refused s k d t e = by_move s k d t ∙ ap (λ m. done_by m s k d t) e

  pub left : (s : Return) (k : List Return) (d : Draft) (t : Token) (b : Action) → move s.state t ≡ leave b →
      draft_step y (translator (s ∷ k) d) t ≡ draft_step y (translator k (perform y b s.address [] d)) t
  left s k d t b e = by_move s k d t ∙ ap (λ m. done_by m s k d t) e

  pub entered : (s : Return) (k : List Return) (d : Draft) (t : Token) (e : Entry) → move s.state t ≡ enter e →
      draft_step y (translator (s ∷ k) d) t ≡ some (follow y e s.address (spelling t) k d)
  entered s k d t e f = by_move s k d t ∙ ap (λ m. done_by m s k d t) f

  pub ended : (d : Draft) (t : Token) → draft_step y (translator [] d) t ≡ none
  ended d t = refl
