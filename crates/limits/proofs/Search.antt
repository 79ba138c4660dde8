-- The first refusal of a list of tokens, and the first mention of a label that stands before no command.
use Rattle.token.specs.declared.kinds.Keyword.TheVariants.{If}
use Rattle.token.specs.declared.kinds.Sign.TheVariants.{Open}
use Rattle.std.proofs.Common.{◌≡◌, ℕ, suc, ◌<◌, ◌≤◌, Bool, true, false, cond, not, ◌&&◌, List, [], ◌∷◌, length, take, drop, sym, refl, ap, ◌∙◌, subst, inl, inr, eq-or-lt_of_le, arith}
use mathlib.Core.Option.{Option, none, some, some-injective, none-ne-some}
use lib.Seq.{take-length}
use Rattle.std.proofs.Math.Nat.{not-le_of_lt}
use Rattle.std.proofs.lemmas.List.{drop_all, drop-map}
use Rattle.std.proofs.lemmas.Bool.{false_from_ne_true, false≢true, not-true, cases_lt, and_parts, and_from, not_from_false}
use Rattle.token.specs.Tokens.{Token, keyword, sign, Placed}
use Rattle.arithmetic.specs.Words.{Words}
use Rattle.grammar.specs.Tests.{is}
use Rattle.grammar.specs.Grammar.{Fault, at_token, at_end}
use Rattle.grammar.specs.Recogniser.{first_fault}
use Rattle.limits.specs.Uses.{Role, definition, listed, Use, made, In, use_at, uses, is_definition, is_label, is_operator}
use Rattle.limits.specs.Rules.{here, past, rest, seen, Used, Earlier, Unmet, Rule, no_program, long_name, second_definition, other_kind, no_cell, no_label, many_operators, deep_parenthesis, deep_if, long_list, tokens_of, place, Refused}
use Rattle.limits.specs.Refusals.{lowest, or_else, among, checks, refused, first_refusal, unmet, first_unmet}
use Rattle.limits.proofs.Keys.{clash, among_sound, among_complete}
use Rattle.grammar.proofs.Lists.{drop_next}
use Rattle.limits.proofs.Lists.{drop_some, past_next, earlier_seen, seen_earlier}
use Rattle.limits.proofs.Checks.{Ordered, Lowest, lowest_is}
use Rattle.limits.proofs.Stands.{only_definition, all, found_rule, rule_found}

module _ (ts : List Placed) where
  -- the place after k tokens: those before it, newest first, and those from it on
  pub record At (k : ℕ) (before : List Token) (after : List Placed) : Type 0 where
    pub is_past : past (tokens_of ts) k ≡ before
    pub is_rest : drop k ts ≡ after
    pub is_index : length before ≡ k

module _ (ts : List Placed) where
  pub at_rest : (k : ℕ) (before : List Token) (after : List Placed) → At ts k before after → rest (tokens_of ts) k ≡ tokens_of after
  at_rest k before after a = drop-map (λ (p : Placed). p.token) k ts ∙ ap tokens_of a.is_rest

  pub at_next : (k : ℕ) (before : List Token) (p : Placed) (ps : List Placed) → At ts k before (p ∷ ps) → At ts (suc k) (p.token ∷ before) ps
  at_next k before p ps a = record {
    is_past = past_next (tokens_of ts) k p.token (tokens_of ps) (at_rest k before (p ∷ ps) a) ∙ ap (λ (x : List Token). p.token ∷ x) a.is_past;
    is_rest = drop_next k ts p ps a.is_rest;
    is_index = ap suc a.is_index;
  }

  pub at_start : At ts 0 [] ts
  at_start = record { is_past = refl; is_rest = refl; is_index = refl }

-- past the end there is no use and no rule
module _ (ts : List Token) where
  pub used_within : (k : ℕ) (r : Role) (s : List ℕ) → Used ts k r s → k < length ts
  used_within k r s u = elim (cases_lt k (length ts)) [ inl l ↦ l | inr g ↦ absurd (never (drop_all k ts g)) ]
    where
      never : rest ts k ≡ [] → ⊥
      never e = none-ne-some (made r s) (rw e at u.is_used)

  here_within : (k : ℕ) (test : Token → Bool) → here test (rest ts k) ≡ true → k < length ts
  here_within k test h = elim (cases_lt k (length ts)) [ inl l ↦ l | inr g ↦ absurd (false≢true (rw (drop_all k ts g) at h)) ]

  fault_within : (k : ℕ) → Fault ts k → k ≤ length ts
  fault_within k (at_token h b n) = omega arith
  fault_within k (at_end b n) = omega arith

  rule_within : (w : Words) (k n : ℕ) → Rule w ts k n → k ≤ length ts
  rule_within w k n (no_program f) = fault_within k f
  rule_within w k n (long_name r s u l g) = let h = used_within k r s u in omega arith
  rule_within w k n (second_definition s u x) = let h = used_within k definition s u in omega arith
  rule_within w k n (other_kind r q s u x l m g) = let h = used_within k r s u in omega arith
  rule_within w k n (no_cell r s u l x g) = let h = used_within k r s u in omega arith
  rule_within w k n (no_label r s u l x g) = let h = used_within k r s u in omega arith
  rule_within w k n (many_operators e g) = let h = here_within k is_operator e in omega arith
  rule_within w k n (deep_parenthesis e g) = let h = here_within k (is (sign Open)) e in omega arith
  rule_within w k n (deep_if e g) = let h = here_within k (is (keyword If)) e in omega arith
  rule_within w k n (long_list s u g) = let h = used_within k listed s u in omega arith

ordered : (w : Words) (f : Option ℕ) (before after : List Token) → Ordered (checks w f before after)
ordered w f before after = ((tt, (tt, (tt, (tt, (tt, (tt, (tt, (tt, (tt, tt))))))))), ((tt, (tt, (tt, (tt, (tt, (tt, (tt, (tt, tt)))))))), ((tt, (tt, (tt, (tt, (tt, (tt, (tt, tt))))))), ((tt, (tt, (tt, (tt, (tt, (tt, tt)))))), ((tt, (tt, (tt, (tt, (tt, tt))))), ((tt, (tt, (tt, (tt, tt)))), ((tt, (tt, (tt, tt))), ((tt, (tt, tt)), ((tt, tt), (tt, tt))))))))))

-- what the lowest check at the k-th token says of the rules there
abbrev Standing : Words → List Token → ℕ → Option ℕ → Type 0
Standing w ts k none = (n : ℕ) → Rule w ts k n → ⊥
Standing w ts k (some m) = Rule w ts k m × ((n : ℕ) → Rule w ts k n → m ≤ n)

module _ (w : Words) (ts : List Placed) where
  abbrev pub toks : List Token
  toks = tokens_of ts

  abbrev pub fault : Option ℕ
  fault = first_fault toks

  stands_here : (k : ℕ) → length (past toks k) ≡ k → Standing w toks k (lowest (checks w fault (past toks k) (rest toks k)))
  stands_here k h = go (lowest (all w toks k)) (lowest_is (all w toks k) (ordered w fault (past toks k) (rest toks k)))
    where
      go : (o : Option ℕ) → Lowest (all w toks k) o → Standing w toks k o
      go none l = λ n r. l n (rule_found w toks k h n r)
      go (some m) l = (found_rule w toks k h m l.0, λ n r. l.1 n (rule_found w toks k h n r))

  stands : (k : ℕ) (before : List Token) (after : List Placed) → At ts k before after → Standing w toks k (lowest (checks w fault before (tokens_of after)))
  stands k before after a =
      let h : length (past toks k) ≡ k = ap length a.is_past ∙ a.is_index in
      subst (λ (b : List Token). Standing w toks k (lowest (checks w fault b (tokens_of after)))) a.is_past
      (subst (λ (r : List Token). Standing w toks k (lowest (checks w fault (past toks k) r))) (at_rest ts k before after a) (stands_here k h))

  module _ (n : ℕ) where
    -- the first rule from the k-th token on
    pub record First (k : ℕ) (r : Refused) : Type 0 where
      pub index : ℕ
      pub number : ℕ
      pub from : k ≤ index
      pub answer : r ≡ record { number = number; place = place n (drop index ts) }
      pub rule : Rule w toks index number
      pub first : (j l : ℕ) → k ≤ j → j < index → Rule w toks j l → ⊥
      pub least : (l : ℕ) → Rule w toks index l → number ≤ l

    abbrev pub Result : ℕ → Option Refused → Type 0
    Result k none = (j l : ℕ) → k ≤ j → Rule w toks j l → ⊥
    Result k (some r) = First k r

    -- it stands here
    first_here : (k m p : ℕ) → place n (drop k ts) ≡ p → Standing w toks k (some m) → First k (record { number = m; place = p })
    first_here k m p e s = record {
      index = k;
      number = m;
      from = omega arith;
      answer = ap (λ (q : ℕ). record { number = m; place = q }) (sym e);
      rule = s.0;
      first = λ j l a b r. absurd (not-le_of_lt b a);
      least = s.1;
    }

    -- none here: the first further on
    further : (k : ℕ) → Standing w toks k none → (o : Option Refused) → Result (suc k) o → Result k o
    further k s none h = λ j l a r. elim (eq-or-lt_of_le a) [ inl e ↦ s l (subst (λ (i : ℕ). Rule w toks i l) (sym e) r) | inr g ↦ h j l g r ]
    further k s (some r) h = record {
      index = h.index;
      number = h.number;
      from = before_it h.from;
      answer = h.answer;
      rule = h.rule;
      first = λ j l a b x. elim (eq-or-lt_of_le a) [ inl e ↦ s l (subst (λ (i : ℕ). Rule w toks i l) (sym e) x) | inr g ↦ h.first j l g b x ];
      least = h.least;
    }
      where
        before_it : {x y : ℕ} → suc x ≤ y → x ≤ y
        before_it g = omega arith

    first_from : (after : List Placed) (k : ℕ) (before : List Token) → At ts k before after → Result k (first_refusal w fault n before after)
    first_from [] k before a = go (lowest (checks w fault before [])) (stands k before [] a)
      where
        go : (o : Option ℕ) → Standing w toks k o → Result k (refused o n)
        go none s = λ j l h r. elim (eq-or-lt_of_le h) [
          | inl e ↦ s l (subst (λ (i : ℕ). Rule w toks i l) (sym e) r)
          | inr g ↦ past_end j (rule_within toks w j l r) g
        ]
          where
            past_end : (j : ℕ) → j ≤ length toks → k < j → ⊥
            past_end j x y =
                let z : length toks ≤ k = drop_some k toks (at_rest ts k before [] a) in
                omega arith
        go (some m) s = first_here k m n (ap (place n) a.is_rest) s
    first_from (p ∷ ps) k before a =
        go (lowest (checks w fault before (p.token ∷ tokens_of ps))) (stands k before (p ∷ ps) a)
        (first_refusal w fault n (p.token ∷ before) ps) (first_from ps (suc k) (p.token ∷ before) (at_next ts k before p ps a))
      where
        go : (o : Option ℕ) → Standing w toks k o → (x : Option Refused) → Result (suc k) x → Result k (or_else (refused o p.offset) x)
        go none s x h = further k s x h
        go (some m) s x h = first_here k m p.offset (ap (place n) a.is_rest) s

    pub first_is : Result 0 (first_refusal w fault n [] ts)
    first_is = first_from ts 0 [] (at_start ts)

-- the uses of all tokens
pub all_seen : (ts : List Token) → seen ts (length ts) ≡ uses ts
all_seen ts =
    let a : take (length ts) ts ≡ ts = take-length ts in
    let b : drop (length ts) ts ≡ [] = drop_all (length ts) ts (omega arith) in
    rw (a, b)

-- a label is among all definitions exactly if it stands before a command
module _ (ts : List Token) (s : List ℕ) where
  pub defined_somewhere : among is_definition s (uses ts) ≡ true → (j : ℕ) × Used ts j definition s
  defined_somewhere e =
      let x = among_sound is_definition s (uses ts) e in
      let i : In (made definition s) (seen ts (length ts)) =
      rw (all_seen ts) (subst (λ (q : Role). In (made q s) (uses ts)) (only_definition x.0 x.2) x.1) in
      let y = seen_earlier ts definition s (length ts) i in
      (y.index, y.used)

  pub somewhere_defined : (j : ℕ) → Used ts j definition s → among is_definition s (uses ts) ≡ true
  somewhere_defined j u =
      let x : Earlier ts (length ts) definition s = record { index = j; earlier = used_within ts j definition s u; used = u } in
      among_complete is_definition definition s (uses ts) (rw (all_seen ts) at (earlier_seen ts definition s (length ts) x)) refl

-- whether the k-th token mentions a label that stands before no command
abbrev Missing : List Token → ℕ → Option ℕ → Type 0
Missing ts k none = Unmet ts k → ⊥
Missing ts k (some m) = (m ≡ 12) × Unmet ts k

missing_here : (ts : List Token) (k : ℕ) → Missing ts k (unmet (uses ts) (use_at (past ts k) (rest ts k)))
missing_here ts k = go (use_at (past ts k) (rest ts k)) refl
  where
    unused : use_at (past ts k) (rest ts k) ≡ none → Unmet ts k → ⊥
    unused e u = none-ne-some (made u.role u.spelling) (sym e ∙ u.mentioned.is_used)

    same : (u : Use) → use_at (past ts k) (rest ts k) ≡ some u → (x : Unmet ts k) → u ≡ made x.role x.spelling
    same u e x = some-injective u (made x.role x.spelling) (sym e ∙ x.mentioned.is_used)

    by : (u : Use) → use_at (past ts k) (rest ts k) ≡ some u → (b : Bool) → (is_label u.role && not (among is_definition u.spelling (uses ts))) ≡ b →
        Missing ts k (cond b (some 12) none)
    by u e true h =
        let p = and_parts (is_label u.role) (not (among is_definition u.spelling (uses ts))) h in (
          refl,
          record {
            role = u.role;
            spelling = u.spelling;
            mentioned = record { is_used = e };
            label = p.0;
            nowhere = λ j d. clash (somewhere_defined ts u.spelling j d) (not-true (among is_definition u.spelling (uses ts)) p.1);
          },
        )
    by u e false h = λ x.
        let q : u ≡ made x.role x.spelling = same u e x in
        let f : among is_definition x.spelling (uses ts) ≡ false =
        false_from_ne_true (among is_definition x.spelling (uses ts)) (λ z. let d = defined_somewhere ts x.spelling z in x.nowhere d.0 d.1) in
        let g : (is_label x.role && not (among is_definition x.spelling (uses ts))) ≡ true =
        and_from (is_label x.role) (not (among is_definition x.spelling (uses ts))) x.label (not_from_false (among is_definition x.spelling (uses ts)) f) in
        clash (subst (λ (v : Use). (is_label v.role && not (among is_definition v.spelling (uses ts))) ≡ true) (sym q) g) h

    go : (o : Option Use) → use_at (past ts k) (rest ts k) ≡ o → Missing ts k (unmet (uses ts) o)
    go none e = unused e
    go (some u) e = by u e (is_label u.role && not (among is_definition u.spelling (uses ts))) refl

module _ (ts : List Placed) (n : ℕ) where
  abbrev texts : List Token
  texts = tokens_of ts

  missing : (k : ℕ) (before : List Token) (after : List Placed) → At ts k before after → Missing texts k (unmet (uses texts) (use_at before (tokens_of after)))
  missing k before after a =
      subst (λ (b : List Token). Missing texts k (unmet (uses texts) (use_at b (tokens_of after)))) a.is_past
      (subst (λ (r : List Token). Missing texts k (unmet (uses texts) (use_at (past texts k) r))) (at_rest ts k before after a) (missing_here texts k))

  pub record FirstUnmet (k : ℕ) (r : Refused) : Type 0 where
    pub index : ℕ
    pub from : k ≤ index
    pub answer : r ≡ record { number = 12; place = place n (drop index ts) }
    pub unmet_it : Unmet texts index
    pub first : (j : ℕ) → k ≤ j → j < index → Unmet texts j → ⊥

  abbrev pub UnmetResult : ℕ → Option Refused → Type 0
  UnmetResult k none = (j : ℕ) → k ≤ j → Unmet texts j → ⊥
  UnmetResult k (some r) = FirstUnmet k r

  unmet_further : (k : ℕ) → (Unmet texts k → ⊥) → (o : Option Refused) → UnmetResult (suc k) o → UnmetResult k o
  unmet_further k s none h = λ j a r. elim (eq-or-lt_of_le a) [ inl e ↦ s (subst (λ (i : ℕ). Unmet texts i) (sym e) r) | inr g ↦ h j g r ]
  unmet_further k s (some r) h = record {
    index = h.index;
    from = before_it h.from;
    answer = h.answer;
    unmet_it = h.unmet_it;
    first = λ j a b x. elim (eq-or-lt_of_le a) [ inl e ↦ s (subst (λ (i : ℕ). Unmet texts i) (sym e) x) | inr g ↦ h.first j g b x ];
  }
    where
      before_it : {x y : ℕ} → suc x ≤ y → x ≤ y
      before_it g = omega arith

  unmet_from : (after : List Placed) (k : ℕ) (before : List Token) → At ts k before after → UnmetResult k (first_unmet (uses texts) before after)
  unmet_from [] k before a = λ j h u.
      let x = used_within texts j u.role u.spelling u.mentioned in
      let z : length texts ≤ k = drop_some k texts (at_rest ts k before [] a) in
      omega arith
  unmet_from (p ∷ ps) k before a =
      go (unmet (uses texts) (use_at before (p.token ∷ tokens_of ps))) (missing k before (p ∷ ps) a)
      (first_unmet (uses texts) (p.token ∷ before) ps) (unmet_from ps (suc k) (p.token ∷ before) (at_next ts k before p ps a))
    where
      go : (o : Option ℕ) → Missing texts k o → (x : Option Refused) → UnmetResult (suc k) x → UnmetResult k (or_else (refused o p.offset) x)
      go none s x h = unmet_further k s x h
      go (some m) s x h = record {
        index = k;
        from = omega arith;
        answer = (λ i. record { number = s.0 i; place = ap (place n) (sym a.is_rest) i });
        unmet_it = s.1;
        first = λ j b c d. not-le_of_lt c b;
      }

  pub unmet_is : UnmetResult 0 (first_unmet (uses texts) [] ts)
  unmet_is = unmet_from ts 0 [] (at_start ts)
