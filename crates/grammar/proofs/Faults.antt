-- `first_fault` is exact.
use Rattle.std.proofs.Common.{◌≡◌, ℕ, suc, ◌<◌, ◌≤◌, Bool, true, false, cond, List, [], ◌∷◌, ◌++◌, length, take, drop, sym, refl, ap, ◌∙◌, subst, inl, inr, append_assoc, append-nil, add-one, arith, length-append, take-append-drop, take-take}
use mathlib.Core.Option.{Option, none, some}
use lib.Seq.{take-append_seam, take-append-add}
use Rattle.std.proofs.lemmas.Bool.{cases_order}
use Rattle.token.specs.Tokens.{Token}
use Rattle.grammar.specs.Grammar.{IsProgram, Begins, Fault, at_token, at_end}
use Rattle.grammar.specs.Recogniser.{State, stack_step, outset, reach, accepting, unless, refused_from, first_fault}
use Rattle.grammar.proofs.Lists.{drop_within, take_next}
use Rattle.grammar.proofs.Theorems.{accepts_sound, accepts_complete, goes_on, reach_more, refuses}

-- a front of tokens with which a program begins
begins_front : (ts us : List Token) → Begins (ts ++ us) → Begins ts
begins_front ts us b = (us ++ b.0, subst (λ (x : List Token). IsProgram x) (append_assoc ts us b.0) b.1)

pub begins_take : (n : ℕ) (ts : List Token) → Begins ts → Begins (take n ts)
begins_take n ts b = begins_front (take n ts) (drop n ts) (subst Begins (sym (take-append-drop n ts)) b)

begins_less : (m n : ℕ) (ts : List Token) → m ≤ n → Begins (take n ts) → Begins (take m ts)
begins_less m n ts h b = subst Begins (take-take m n ts h) (begins_take m (take n ts) b)

program_begins : (ts : List Token) → IsProgram ts → Begins ts
program_begins ts p = ([], subst IsProgram (sym (append-nil ts)) p)

-- a program has no fault, and no tokens have two
pub no_fault : (ts : List Token) (k : ℕ) → Fault ts k → IsProgram ts → ⊥
no_fault ts k (at_token h b n) p = n (begins_take (suc k) ts (program_begins ts p))
no_fault ts k (at_end b n) p = n p

before_end : (ts : List Token) (j k : ℕ) → Fault ts j → k < j → (Begins (take (suc k) ts) → ⊥) → ⊥
before_end ts j k (at_token h b n) l m = m (begins_less (suc k) j ts l b)
before_end ts j k (at_end b n) l m = m (begins_take (suc k) ts b)

within : (ts : List Token) (j : ℕ) → Fault ts j → j ≤ length ts
within ts j (at_token h b n) = omega arith
within ts j (at_end b n) = omega arith

not_before : (ts : List Token) (j k : ℕ) → Fault ts j → Fault ts k → j < k → ⊥
not_before ts j k (at_token h b n) g l = before_end ts k j g l n
not_before ts j k (at_end b n) g l = let w = within ts k g in omega arith

pub one_fault : (ts : List Token) (j k : ℕ) → Fault ts j → Fault ts k → j ≡ k
one_fault ts j k f g =
    elim (cases_order j k) [ inl e ↦ e | inr r ↦ elim r [ inl l ↦ absurd (not_before ts j k f g l) | inr l ↦ absurd (not_before ts k j g f l) ] ]

-- what the recogniser finds from the tokens pre on
module _ (pre : List Token) (k : List State) (e : reach pre ≡ some k) where
  refused_here : (t : Token) (ts : List Token) → stack_step k t ≡ none → Fault (pre ++ t ∷ ts) (length pre)
  refused_here t ts h =
      let a : take (length pre) (pre ++ t ∷ ts) ≡ pre = take-append_seam pre (t ∷ ts) in
      let b : take (suc (length pre)) (pre ++ t ∷ ts) ≡ pre ++ t ∷ [] = ap (λ n. take n (pre ++ t ∷ ts)) (sym (add-one (length pre))) ∙ take-append-add pre (t ∷ ts) 1 in
      at_token
      (simp length-append (omega arith))
      (subst Begins (sym a) (goes_on pre k e))
      (λ c. refuses pre k t e h (subst Begins b c))

  open_here : accepting (some k) ≡ false → Fault (pre ++ []) (length pre)
  open_here h =
      subst (λ (ts : List Token). Fault ts (length pre)) (sym (append-nil pre))
      (at_end (goes_on pre k e) (λ p. rw (e, h) at (accepts_complete pre p)))

  accepted_here : accepting (some k) ≡ true → IsProgram (pre ++ [])
  accepted_here h = subst IsProgram (sym (append-nil pre)) (accepts_sound pre (rw (e, h) tt))

abbrev Found : List Token → Option ℕ → Type 0
Found ts none = IsProgram ts
Found ts (some k) = Fault ts k

found_end : (pre : List Token) (k : List State) → reach pre ≡ some k → (b : Bool) → accepting (some k) ≡ b → Found (pre ++ []) (cond b none (some (length pre)))
found_end pre k e true h = accepted_here pre k e h
found_end pre k e false h = open_here pre k e h

found : (ts pre : List Token) (k : List State) → reach pre ≡ some k → Found (pre ++ ts) (refused_from (length pre) k ts)
found [] pre k e = found_end pre k e (accepting (some k)) refl
found (t ∷ ts) pre k e = go (stack_step k t) refl (λ j h. found ts (pre ++ t ∷ []) j h)
  where
    go : (s : Option (List State)) → stack_step k t ≡ s →
        ((j : List State) → reach (pre ++ t ∷ []) ≡ some j → Found (pre ++ t ∷ [] ++ ts) (refused_from (length (pre ++ t ∷ [])) j ts)) →
        Found (pre ++ t ∷ ts) (unless (length pre) s (λ j. refused_from (suc (length pre)) j ts))
    go none h ih = refused_here pre k e t ts h
    go (some j) h ih =
        let a : length (pre ++ t ∷ []) ≡ suc (length pre) = length-append pre (t ∷ []) ∙ add-one (length pre) in
        let b : Found (pre ++ t ∷ [] ++ ts) (refused_from (suc (length pre)) j ts) = subst (λ (n : ℕ). Found (pre ++ t ∷ [] ++ ts) (refused_from n j ts)) a (ih j (reach_more pre k t e ∙ h)) in
        subst (λ (us : List Token). Found us (refused_from (suc (length pre)) j ts)) (append_assoc pre (t ∷ []) ts) b

first : (ts : List Token) → Found ts (first_fault ts)
first ts = found ts [] outset refl

pub none_program : (ts : List Token) → first_fault ts ≡ none → IsProgram ts
none_program ts h = subst (Found ts) h (first ts)

pub some_fault : (ts : List Token) (k : ℕ) → first_fault ts ≡ some k → Fault ts k
some_fault ts k h = subst (Found ts) h (first ts)

pub program_none : (ts : List Token) → IsProgram ts → first_fault ts ≡ none
program_none ts p = go (first_fault ts) (first ts)
  where
    go : (o : Option ℕ) → Found ts o → o ≡ none
    go none f = refl
    go (some k) f = absurd (no_fault ts k f p)

pub fault_some : (ts : List Token) (k : ℕ) → Fault ts k → first_fault ts ≡ some k
fault_some ts k f = go (first_fault ts) (first ts)
  where
    go : (o : Option ℕ) → Found ts o → o ≡ some k
    go none p = absurd (no_fault ts k f p)
    go (some j) g = ap {B = Option ℕ} some (one_fault ts j k g f)

-- Step by step.
module _ (ts : List Token) (k : ℕ) (s : List State) (t : Token) (r : List Token) (e : reach (take k ts) ≡ some s) (d : drop k ts ≡ t ∷ r) where
  pub refused : stack_step s t ≡ none → Fault ts k
  refused h = at_token (drop_within k ts t r d) (goes_on (take k ts) s e) (λ b. refuses (take k ts) s t e h (subst Begins (take_next k ts t r d) b))

  pub taken : (next : List State) → stack_step s t ≡ some next → (reach (take (suc k) ts) ≡ some next) × (Fault ts k → ⊥)
  taken next h = (further, no_fault_here)
    where
      further : reach (take (suc k) ts) ≡ some next
      further = ap reach (take_next k ts t r d) ∙ reach_more (take k ts) s t e ∙ h

      no_fault_here : Fault ts k → ⊥
      no_fault_here f = before_here k f (drop_within k ts t r d) further
        where
          before_here : (j : ℕ) → Fault ts j → j < length ts → reach (take (suc j) ts) ≡ some next → ⊥
          before_here j (at_token l b n) g q = n (goes_on (take (suc j) ts) next q)
          before_here j (at_end b n) g q = omega arith

pub closed : (ts : List Token) → reach ts ≡ some [] → IsProgram ts
closed ts e = accepts_sound ts (rw e tt)

pub unfinished : (ts : List Token) (s : State) (k : List State) → reach ts ≡ some (s ∷ k) → Fault ts (length ts)
unfinished ts s k e = at_end (goes_on ts (s ∷ k) e) (λ p. rw e at (accepts_complete ts p))
