-- `refusal` computes the refusal that counts, and there is one answer.
use Rattle.std.proofs.Common.{◌≡◌, ℕ, ◌<◌, ◌≤◌, Bool, true, false, cond, ltb, List, [], drop, sym, refl, ap, ◌∙◌, subst, inl, inr, zero-le, arith}
use mathlib.Core.Option.{Option, none, some, none-ne-some}
use Rattle.std.proofs.Math.Nat.{le_antisymm, not-le_of_lt}
use Rattle.std.proofs.lemmas.Bool.{ltb-true, ltb-false, cases_order}
use Rattle.token.specs.Tokens.{Token, Placed}
use Rattle.trees.specs.Trees.{Program}
use Rattle.arithmetic.specs.Words.{Words}
use Rattle.grammar.specs.Grammar.{IsProgram}
use Rattle.grammar.specs.Machine.{parse}
use Rattle.grammar.specs.Recogniser.{first_fault}
use Rattle.grammar.proofs.Theorems.{parse_sound, parse_complete, one_reading}
use Rattle.grammar.proofs.Faults.{none_program, some_fault}
use Rattle.limits.specs.Uses.{uses}
use Rattle.limits.specs.Rules.{text_limit, code_limit, Unmet, Met, Rule, no_program, Clear, tokens_of, place, Refused, Refusal, long_text, first_rule, unmet_label, long_code, Accepted}
use Rattle.limits.specs.Refusals.{or_else, first_refusal, first_unmet, over_code, refusal}
use Rattle.limits.proofs.Search.{Result, first_is, UnmetResult, unmet_is}

-- where no refusal stands there is a program
pub clear_program : (w : Words) (ts : List Token) → Clear w ts → IsProgram ts
clear_program w ts c = go (first_fault ts) refl
  where
    go : (o : Option ℕ) → first_fault ts ≡ o → IsProgram ts
    go none e = none_program ts e
    go (some k) e = absurd (c k 3 (no_program (some_fault ts k e)))

module _ (w : Words) (size : Program → ℕ) (n : ℕ) (ts : List Placed) where
  abbrev all_tokens : List Token
  all_tokens = tokens_of ts

  abbrev Judged : Option Refused → Type 0
  Judged none = (p : Program) × Accepted w size n ts p
  Judged (some r) = Refusal w size n ts r

  judge_code : n ≤ text_limit → Clear w all_tokens → Met all_tokens → Judged (over_code size (parse all_tokens))
  judge_code h c m = go (parse all_tokens) refl
    where
      by : (p : Program) → parse all_tokens ≡ some p → (b : Bool) → ltb code_limit (size p) ≡ b →
          Judged (cond b (some (record { number = 13; place = 0 })) none)
      by p e true q = long_code p h c m (parse_sound all_tokens p e) (ltb-true code_limit (size p) q)
      by p e false q = (p, record { short = h; clear = c; met = m; parses = parse_sound all_tokens p e; fits = ltb-false code_limit (size p) q })

      go : (o : Option Program) → parse all_tokens ≡ o → Judged (over_code size o)
      go none e =
          let p = clear_program w all_tokens c in
          absurd (none-ne-some p.0 (sym e ∙ parse_complete all_tokens p.0 p.1))
      go (some p) e = by p e (ltb code_limit (size p)) refl

  judge_labels : n ≤ text_limit → Clear w all_tokens → (o : Option Refused) → UnmetResult ts n 0 o → Judged (or_else o (over_code size (parse all_tokens)))
  judge_labels h c none u = judge_code h c (λ k x. u k zero-le x)
  judge_labels h c (some r) u =
      subst (λ (x : Refused). Refusal w size n ts x) (sym u.answer) (unmet_label u.index h c u.unmet_it (λ j l x. u.first j zero-le l x))

  judge_tokens : n ≤ text_limit → (o : Option Refused) → Result w ts n 0 o →
      Judged (or_else o (or_else (first_unmet (uses all_tokens) [] ts) (over_code size (parse all_tokens))))
  judge_tokens h none f = judge_labels h (λ k m r. f k m zero-le r) (first_unmet (uses all_tokens) [] ts) (unmet_is ts n)
  judge_tokens h (some r) f =
      subst (λ (x : Refused). Refusal w size n ts x) (sym f.answer)
      (first_rule f.index f.number h f.rule (λ j l b x. f.first j l zero-le b x) f.least)

  judged : Judged (refusal w size n ts)
  judged = go (ltb text_limit n) refl
    where
      go : (b : Bool) → ltb text_limit n ≡ b →
          Judged (cond b (some (record { number = 2; place = 0 }))
          (or_else (first_refusal w (first_fault all_tokens) n [] ts) (or_else (first_unmet (uses all_tokens) [] ts) (over_code size (parse all_tokens)))))
      go true e = long_text (ltb-true text_limit n e)
      go false e = judge_tokens (ltb-false text_limit n e) (first_refusal w (first_fault all_tokens) n [] ts) (first_is w ts n)

  too_long : {A : Type 0} → text_limit < n → n ≤ text_limit → A
  too_long a b = absurd (not-le_of_lt a b)

  same_token : (k m j l : ℕ) → Rule w all_tokens k m → ((i x : ℕ) → i < k → Rule w all_tokens i x → ⊥) → ((x : ℕ) → Rule w all_tokens k x → m ≤ x) →
      Rule w all_tokens j l → ((i x : ℕ) → i < j → Rule w all_tokens i x → ⊥) → ((x : ℕ) → Rule w all_tokens j x → l ≤ x) → (k ≡ j) × (m ≡ l)
  same_token k m j l r f h s g i = elim (cases_order k j) [
    | inl e ↦ (e, le_antisymm (h l (subst (λ (x : ℕ). Rule w all_tokens x l) (sym e) s)) (i m (subst (λ (x : ℕ). Rule w all_tokens x m) e r)))
    | inr o ↦ elim o [ inl a ↦ absurd (g k m a r) | inr a ↦ absurd (f j l a s) ]
  ]

  same_mention : (k j : ℕ) → Unmet all_tokens k → ((i : ℕ) → i < k → Unmet all_tokens i → ⊥) → Unmet all_tokens j → ((i : ℕ) → i < j → Unmet all_tokens i → ⊥) → k ≡ j
  same_mention k j r f s g = elim (cases_order k j) [ inl e ↦ e | inr o ↦ elim o [ inl a ↦ absurd (g k a r) | inr a ↦ absurd (f j a s) ] ]

  one_refusal : (a b : Refused) → Refusal w size n ts a → Refusal w size n ts b → a ≡ b
  one_refusal a b (long_text h) (long_text g) = refl
  one_refusal a b (long_text h) (first_rule k m g r f l) = too_long h g
  one_refusal a b (long_text h) (unmet_label k g c u f) = too_long h g
  one_refusal a b (long_text h) (long_code p g c u q l) = too_long h g
  one_refusal a b (first_rule k m g r f l) (long_text h) = too_long h g
  one_refusal a b (first_rule k m g r f l) (first_rule j i g' s f' l') =
      let e = same_token k m j i r f l s f' l' in
      (λ x. record { number = e.1 x; place = place n (drop (e.0 x) ts) })
  one_refusal a b (first_rule k m g r f l) (unmet_label j g' c u f') = absurd (c k m r)
  one_refusal a b (first_rule k m g r f l) (long_code p g' c u q l') = absurd (c k m r)
  one_refusal a b (unmet_label k g c u f) (long_text h) = too_long h g
  one_refusal a b (unmet_label k g c u f) (first_rule j i g' s f' l') = absurd (c j i s)
  one_refusal a b (unmet_label k g c u f) (unmet_label j g' c' u' f') =
      let e = same_mention k j u f u' f' in
      (λ x. record { number = 12; place = place n (drop (e x) ts) })
  one_refusal a b (unmet_label k g c u f) (long_code p g' c' u' q l') = absurd (u' k u)
  one_refusal a b (long_code p g c u q l) (long_text h) = too_long h g
  one_refusal a b (long_code p g c u q l) (first_rule j i g' s f' l') = absurd (c j i s)
  one_refusal a b (long_code p g c u q l) (unmet_label j g' c' u' f') = absurd (u j u')
  one_refusal a b (long_code p g c u q l) (long_code p' g' c' u' q' l') = refl

  not_both : (r : Refused) (p : Program) → Refusal w size n ts r → Accepted w size n ts p → ⊥
  not_both r p (long_text h) a = too_long h a.short
  not_both r p (first_rule k m g x f l) a = a.clear k m x
  not_both r p (unmet_label k g c u f) a = a.met k u
  not_both r p (long_code q g c u d l) a =
      let e : size p ≡ size q = ap size (one_reading all_tokens p q a.parses d) in
      let h : size p ≤ code_limit = a.fits in
      omega arith

  pub some_refusal : (r : Refused) → refusal w size n ts ≡ some r → Refusal w size n ts r
  some_refusal r e = subst Judged e judged

  pub none_accepted : refusal w size n ts ≡ none → (p : Program) × Accepted w size n ts p
  none_accepted e = subst Judged e judged

  pub refusal_some : (r : Refused) → Refusal w size n ts r → refusal w size n ts ≡ some r
  refusal_some r f = go (refusal w size n ts) judged
    where
      go : (o : Option Refused) → Judged o → o ≡ some r
      go none p = absurd (not_both r p.0 f p.1)
      go (some x) g = ap {B = Option Refused} some (one_refusal x r g f)

  pub accepted_none : (p : Program) → Accepted w size n ts p → refusal w size n ts ≡ none
  accepted_none p a = go (refusal w size n ts) judged
    where
      go : (o : Option Refused) → Judged o → o ≡ none
      go none q = refl
      go (some x) g = absurd (not_both x p g a)
