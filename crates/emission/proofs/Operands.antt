-- What every action keeps holds of every translator; so do the bounds of the operands.
use Rattle.std.proofs.Common.{◌≡◌, ℕ, suc, ◌+◌, ◌<◌, Bool, true, false, cond, ◌⊎◌, List, [], ◌∷◌, refl, subst, inl, inr, arith}
use mathlib.Core.Option.{Option, none, some, some-injective, none-ne-some}
use Rattle.token.specs.Tokens.{Token}
use Rattle.trees.specs.Trees.{Name}
use Rattle.trees.specs.declared.operator.Operator.{Operator}
use Rattle.trees.specs.declared.operator.Operator.TheVariants.{Plus as plus, Minus as minus, Times as times, Over as over}
use Rattle.runs.specs.Code.{Layout, first_temporary}
use Rattle.grammar.specs.Machine.{Rows, stop, on, at_name, at_number, go_on}
use Rattle.limits.specs.Uses.{In, in_tail}
use Rattle.emission.specs.Draft.{Word, Mark, pending, parenthesis, Work, work, Draft, any, binds, operation, reduce, reduced, left_off, ended}
use Rattle.emission.specs.Actions.{Action, Nothing, DefineLabel, SetTarget, StoreTarget, KeepName, JumpToName, LoadName, FirstLabel, FurtherLabel, ReadName, SkipLine, PrintValue, EndLine, PushVariable, PushNumber, OpenGroup, CloseGroup, Operate, EndExpression, Compare, BeginThen, BeginElse, EndElse, EndProgram, perform}
use Rattle.emission.specs.Table.{Entry, table, returning, Return, Translator, above, if_returning, draft_rows, translator_rows, draft_step, outset, translated}
use Rattle.emission.specs.Room.{Below, Operands}
use Rattle.emission.proofs.Grows.{in_split, in_none, Results, chosen}

module _ (y : Layout) (P : Draft → Type 0) (keep : (b : Action) (a : ℕ) (n : Name) (d : Draft) → P d → P (perform y b a n d)) where
  abbrev Kept : Translator → Type 0
  Kept x = P x.made

  kept_above : (R : Rows Entry) (a : ℕ) (k : List Return) (d : Draft) (z : Rows Translator) → P d → Results y Kept z → Results y Kept (above y R a k d z)
  kept_above stop a k d z p h = h
  kept_above (on w e r) a k d z p h = (keep e.action a [] d p, kept_above r a k d z p h)
  kept_above (at_name f r) a k d z p h = ((λ n. keep (f n).action a n d p), kept_above r a k d z p h)
  kept_above (at_number f r) a k d z p h = ((λ n. keep (f n).action a n d p), kept_above r a k d z p h)

  kept_rows : (k : List Return) (d : Draft) → P d → Results y Kept (draft_rows y k d)
  kept_rows [] d p = tt
  kept_rows (r ∷ k) d p = kept_above (table r.state) r.address k d _ p (go (returning r.state) (kept_rows k))
    where
      go : (o : Option Action) → ((e : Draft) → P e → Results y Kept (draft_rows y k e)) →
          Results y Kept (if_returning o (λ b. draft_rows y k (perform y b r.address [] d)))
      go none ih = tt
      go (some b) ih = ih (perform y b r.address [] d) (keep b r.address [] d p)

  pub kept_step : (x : Translator) (t : Token) (z : Translator) → P x.made → draft_step y x t ≡ some z → P z.made
  kept_step x t z p e = chosen y Kept (translator_rows y x) (kept_rows x.stack x.made p) t z e

  pub kept_run : (ts : List Token) (x z : Translator) → P x.made → go_on (translator_rows y) (some x) ts ≡ some z → P z.made
  kept_run [] x z p e = subst Kept (some-injective x z e) p
  kept_run (t ∷ ts) x z p e = go (draft_step y x t) refl e (kept_run ts)
    where
      go : (o : Option Translator) → draft_step y x t ≡ o → go_on (translator_rows y) o ts ≡ some z →
          ((v u : Translator) → P v.made → go_on (translator_rows y) (some v) ts ≡ some u → P u.made) → P z.made
      go none q h ih = absurd (none-ne-some z h)
      go (some v) q h ih = ih v z (kept_step x t v p q) h

-- Operands.
module _ (b : ℕ) where
  abbrev Ok : ℕ → ℕ → Type 0
  Ok n c = (c < b) ⊎ (c < first_temporary + n)

  abbrev AllOk : List ℕ → ℕ → Type 0
  AllOk cs n = (c : ℕ) → In c cs → Ok n c

  ok_more : (n c : ℕ) → Ok n c → Ok (suc n) c
  ok_more n c (inl h) = inl h
  ok_more n c (inr h) = inr (omega arith)

  ok_reduce : (p : Operator → Bool) (ms : List Mark) (cs : List ℕ) (n : ℕ) (ws : List Word) → AllOk cs n → AllOk (reduce p ms cs n ws).cells (reduce p ms cs n ws).temporaries
  ok_reduce p [] cs n ws h = h
  ok_reduce p (parenthesis ∷ ms) cs n ws h = h
  ok_reduce p (pending o ∷ ms) [] n ws h = h
  ok_reduce p (pending o ∷ ms) (r ∷ []) n ws h = h
  ok_reduce p (pending o ∷ ms) (r ∷ l ∷ cs) n ws h = go (p o) (ok_reduce p ms ((first_temporary + n) ∷ cs) (suc n) (operation o l r n ws) made)
    where
      made : AllOk ((first_temporary + n) ∷ cs) (suc n)
      made c i = elim (in_split c (first_temporary + n) cs i) [ inl e ↦ inr (omega arith) | inr j ↦ ok_more n c (h c (in_tail (in_tail j))) ]

      go : (z : Bool) → AllOk (reduce p ms ((first_temporary + n) ∷ cs) (suc n) (operation o l r n ws)).cells (reduce p ms ((first_temporary + n) ∷ cs) (suc n) (operation o l r n ws)).temporaries →
          AllOk (cond z (reduce p ms ((first_temporary + n) ∷ cs) (suc n) (operation o l r n ws)) (work (pending o ∷ ms) (r ∷ l ∷ cs) n ws)).cells
          (cond z (reduce p ms ((first_temporary + n) ∷ cs) (suc n) (operation o l r n ws)) (work (pending o ∷ ms) (r ∷ l ∷ cs) n ws)).temporaries
      go true ih = ih
      go false ih = h

  ok_reduced : (p : Operator → Bool) (w : Work) → AllOk w.cells w.temporaries → AllOk (reduced p w).cells (reduced p w).temporaries
  ok_reduced p w h = ok_reduce p w.marks w.cells w.temporaries w.words h

  ok_off : (ms : List Mark) (cs : List ℕ) (n : ℕ) (ws : List Word) → AllOk cs n → AllOk (left_off ms cs n ws).cells (left_off ms cs n ws).temporaries
  ok_off ms cs n ws h = grind arith

  ok_ended : (w : Work) → AllOk w.cells w.temporaries → AllOk (ended w).cells (ended w).temporaries
  ok_ended w h = ok_off w.marks w.cells w.temporaries w.words h

  ok_operand : (x : ℕ) (cs : List ℕ) (n : ℕ) → x < b → AllOk cs n → AllOk (x ∷ cs) n
  ok_operand x cs n l h c i = elim (in_split c x cs i) [ inl e ↦ inl (omega arith) | inr j ↦ h c j ]

  module _ (y : Layout) (low : Below y b) where
    ok_action : (x : Action) (a : ℕ) (n : Name) (d : Draft) → Operands b d → Operands b (perform y x a n d)
    ok_action Nothing a n d h = h
    ok_action DefineLabel a n d h = h
    ok_action SetTarget a n d h = h
    ok_action StoreTarget a n d h = h
    ok_action KeepName a n d h = h
    ok_action JumpToName a n d h = h
    ok_action LoadName a n d h = h
    ok_action FirstLabel a n d h = h
    ok_action FurtherLabel a n d h = h
    ok_action ReadName a n d h = h
    ok_action SkipLine a n d h = h
    ok_action PrintValue a n d h = h
    ok_action EndLine a n d h = h
    ok_action PushVariable a n d h = ok_operand (y.variable_cell n) d.making.cells d.making.temporaries (low.variables n) h
    ok_action PushNumber a n d h = ok_operand (y.literal_cell n) d.making.cells d.making.temporaries (low.literals n) h
    ok_action OpenGroup a n d h = h
    ok_action CloseGroup a n d h = h
    ok_action (Operate plus) a n d h = ok_reduced any d.making h
    ok_action (Operate minus) a n d h = ok_reduced any d.making h
    ok_action (Operate times) a n d h = ok_reduced binds d.making h
    ok_action (Operate over) a n d h = ok_reduced binds d.making h
    ok_action EndExpression a n d h = ok_ended (reduced any d.making) (ok_reduced any d.making h)
    ok_action (Compare r) a n d h = h
    ok_action BeginThen a n d h = h
    ok_action BeginElse a n d h = h
    ok_action EndElse a n d h = h
    ok_action EndProgram a n d h = h

pub text_operands : (y : Layout) (b : ℕ) (ts : List Token) (x : Translator) → Below y b → translated y ts ≡ some x → Operands b x.made
text_operands y b ts x low e = kept_run y (Operands b) (ok_action b y low) ts (outset y) x (λ c i. absurd (in_none c i)) e
