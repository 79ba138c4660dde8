-- One pass finds the first refusal.
use Rattle.grammar.specs.declared.state.State.{State}
use Rattle.std.proofs.Common.{◌≡◌, ℕ, suc, ◌≤◌, true, false, List, [], ◌∷◌, length, take, drop, sym, refl, ap, ◌∙◌, subst}
use mathlib.Core.Option.{Option, none, some}
use lib.ListN.{length-reverse}
use Rattle.std.proofs.lemmas.Bool.{eq-eqb, ne_eqb}
use Rattle.grammar.proofs.Faults as faults
use Rattle.token.specs.Tokens.{Token, Placed}
use Rattle.arithmetic.specs.Words.{Words}
use Rattle.grammar.specs.Grammar.{Fault}
use Rattle.grammar.specs.Recogniser.{stack_step, outset, reach, first_fault}
use Rattle.grammar.proofs.Faults.{some_fault, program_none, fault_some}
use Rattle.limits.specs.Rules.{tokens_of, Refused}
use Rattle.limits.specs.Refusals.{lowest, or_else, fault_at, limit_checks, checks, refused, first_refusal}
use Rattle.limits.specs.Pass.{or_fault, pass}
use Rattle.std.proofs.lemmas.List.{take_all}
use Rattle.limits.proofs.Lists.{drop_some}
use Rattle.limits.proofs.Search.{At, at_rest, at_next, at_start}

module _ (w : Words) (n : ℕ) (ts : List Placed) where
  abbrev whole_list : List Token
  whole_list = tokens_of ts

  -- whether the first fault is at the k-th token
  fault_here : (k : ℕ) (before : List Token) → length before ≡ k → Fault whole_list k → fault_at (first_fault whole_list) (length before) ≡ true
  fault_here k before h f = rw (fault_some whole_list k f) (eq-eqb k (length before) (sym h))

  no_fault_here : (k : ℕ) (before : List Token) → length before ≡ k → (Fault whole_list k → ⊥) → fault_at (first_fault whole_list) (length before) ≡ false
  no_fault_here k before h g = go (first_fault whole_list) refl
    where
      go : (o : Option ℕ) → first_fault whole_list ≡ o → fault_at o (length before) ≡ false
      go none e = refl
      go (some j) e = ne_eqb j (length before) (λ q. g (subst (λ (i : ℕ). Fault whole_list i) (q ∙ h) (some_fault whole_list j e)))

  three : (before after : List Token) (p : ℕ) → fault_at (first_fault whole_list) (length before) ≡ true →
      refused (lowest (checks w (first_fault whole_list) before after)) p ≡ some (record { number = 3; place = p })
  three before after p e = rw e

  not_three : (before after : List Token) → fault_at (first_fault whole_list) (length before) ≡ false →
      lowest (checks w (first_fault whole_list) before after) ≡ lowest (limit_checks w before after)
  not_three before after e = rw e

  all_taken : (k : ℕ) → drop k whole_list ≡ [] → take k whole_list ≡ whole_list
  all_taken k e = take_all k whole_list (drop_some k whole_list e)

  -- at the end
  pass_end : (k : ℕ) (before : List Token) (s : List State) → At ts k before [] → reach whole_list ≡ some s →
      pass w n s before [] ≡ first_refusal w (first_fault whole_list) n before []
  pass_end k before [] a e =
      let f : first_fault whole_list ≡ none = program_none whole_list (faults.closed whole_list e) in
      rw f
  pass_end k before (x ∷ s) a e =
      let l : length whole_list ≤ k = drop_some k whole_list (at_rest ts k before [] a) in
      let b : length before ≡ length (take k whole_list) = ap length (sym a.is_past) ∙ length-reverse (take k whole_list) ∙ refl in
      let c : length before ≡ length whole_list = b ∙ ap length (all_taken k (at_rest ts k before [] a)) in
      let g : Fault whole_list (length whole_list) = faults.unfinished whole_list x s e in
      sym (three before [] n (fault_here (length whole_list) before c g))

  pass_from : (after : List Placed) (k : ℕ) (before : List Token) (s : List State) → At ts k before after → reach (take k whole_list) ≡ some s →
      pass w n s before after ≡ first_refusal w (first_fault whole_list) n before after
  pass_from [] k before s a e = pass_end k before s a (ap reach (sym (all_taken k (at_rest ts k before [] a))) ∙ e)
  pass_from (p ∷ ps) k before s a e = go (stack_step s p.token) refl (λ next h. pass_from ps (suc k) (p.token ∷ before) next (at_next ts k before p ps a) h)
    where
      rest_is : drop k whole_list ≡ p.token ∷ tokens_of ps
      rest_is = at_rest ts k before (p ∷ ps) a

      go : (o : Option (List State)) → stack_step s p.token ≡ o →
          ((next : List State) → reach (take (suc k) whole_list) ≡ some next →
          pass w n next (p.token ∷ before) ps ≡ first_refusal w (first_fault whole_list) n (p.token ∷ before) ps) →
          or_fault o (λ (next : List State). or_else (refused (lowest (limit_checks w before (p.token ∷ tokens_of ps))) p.offset) (pass w n next (p.token ∷ before) ps)) p.offset
          ≡ or_else (refused (lowest (checks w (first_fault whole_list) before (p.token ∷ tokens_of ps))) p.offset) (first_refusal w (first_fault whole_list) n (p.token ∷ before) ps)
      go none h ih =
          let f : Fault whole_list k = faults.refused whole_list k s p.token (tokens_of ps) e rest_is h in
          ap (λ (o : Option Refused). or_else o (first_refusal w (first_fault whole_list) n (p.token ∷ before) ps))
          (sym (three before (p.token ∷ tokens_of ps) p.offset (fault_here k before a.is_index f)))
      go (some next) h ih =
          let t = faults.taken whole_list k s p.token (tokens_of ps) e rest_is next h in
          let q : lowest (checks w (first_fault whole_list) before (p.token ∷ tokens_of ps)) ≡ lowest (limit_checks w before (p.token ∷ tokens_of ps)) =
          not_three before (p.token ∷ tokens_of ps) (no_fault_here k before a.is_index t.1) in
          (λ i. or_else (refused (sym q i) p.offset) (ih next t.0 i))

  pub one_pass : pass w n outset [] ts ≡ first_refusal w (first_fault whole_list) n [] ts
  one_pass = pass_from ts 0 [] outset (at_start ts) refl
