-- Each check at a token is true exactly if its rule stands there.
use Rattle.token.specs.declared.kinds.Keyword.TheVariants.{If}
use Rattle.token.specs.declared.kinds.Sign.TheVariants.{Open}
use Rattle.std.proofs.Common.{◌≡◌, ℕ, ◌≤◌, Bool, true, not, ◌&&◌, ltb, leb, List, length, sym, refl, ap, ◌∙◌, subst, inl, inr, arith}
use mathlib.Core.Option.{Option, none, some}
use Rattle.std.proofs.lemmas.Bool.{false_from_ne_true, false≢true, not-true, ltb-true, leb-true, eqb-true, lt-ltb, le-leb, eq-eqb, and_parts, and_from, not_from_false}
use Rattle.token.specs.Tokens.{Token, keyword, sign}
use Rattle.arithmetic.specs.Words.{Words}
use Rattle.grammar.specs.Tests.{is}
use Rattle.grammar.specs.Grammar.{Fault}
use Rattle.grammar.specs.Recogniser.{first_fault}
use Rattle.grammar.proofs.Faults.{some_fault, fault_some}
use Rattle.limits.specs.Uses.{Role, definition, listed, Use, made, In, use_at, is_literal, is_definition, is_listed, is_label, key_by, known, cells, labels, is_operator, operators, depth, parts, names}
use Rattle.limits.specs.Rules.{name_limit, cell_limit, label_limit, operator_limit, depth_limit, list_limit, here, past, rest, seen, Used, Earlier, New, Rule, no_program, long_name, second_definition, other_kind, no_cell, no_label, many_operators, deep_parenthesis, deep_if, long_list}
use Rattle.limits.specs.Refusals.{Check, among, unlike, differ, used_so, fault_at, checks}
use Rattle.limits.proofs.Keys.{clash, among_sound, among_complete, known_sound, known_complete}
use Rattle.limits.proofs.Lists.{earlier_seen, seen_earlier}
use Rattle.limits.proofs.Checks.{Found}

used_sound : (test : Role → List ℕ → Bool) (o : Option Use) → used_so test o ≡ true →
    (r : Role) × (s : List ℕ) × (o ≡ some (made r s)) × (test r s ≡ true)
used_sound test none e = absurd (false≢true e)
used_sound test (some u) e = (u.role, u.spelling, refl, e)

used_complete : (test : Role → List ℕ → Bool) (o : Option Use) (r : Role) (s : List ℕ) → o ≡ some (made r s) → test r s ≡ true → used_so test o ≡ true
used_complete test o r s e h = rw e h

pub only_definition : (r : Role) → is_definition r ≡ true → r ≡ definition
only_definition r e = grind arith

only_listed : (r : Role) → is_listed r ≡ true → r ≡ listed
only_listed r e = grind arith

unlike_sound : (a b : Bool) → unlike a b ≡ true → a ≡ b → ⊥
unlike_sound a b e q = grind arith

unlike_complete : (a b : Bool) → (a ≡ b → ⊥) → unlike a b ≡ true
unlike_complete a b h = grind arith

module _ (w : Words) (ts : List Token) (k : ℕ) where
  abbrev before : List Token
  before = past ts k

  abbrev after : List Token
  after = rest ts k

  abbrev us : List Use
  us = seen ts k

  -- a symbol is new exactly if it is not known
  pub new_sound : (r : Role) (s : List ℕ) → not (known w (key_by w r s) us) ≡ true → New w ts k r s
  new_sound r s e q t x h =
      clash (known_complete w (key_by w r s) (made q t) us (earlier_seen ts q t k x) h) (not-true (known w (key_by w r s) us) e)

  pub new_complete : (r : Role) (s : List ℕ) → New w ts k r s → not (known w (key_by w r s) us) ≡ true
  new_complete r s h =
      not_from_false (known w (key_by w r s) us) (false_from_ne_true (known w (key_by w r s) us) (λ e.
      let x = known_sound w (key_by w r s) us e in
      h x.0.role x.0.spelling (seen_earlier ts x.0.role x.0.spelling k x.1) x.2))

  -- 4
  abbrev long : Role → List ℕ → Bool
  long r s = not (is_literal r) && ltb name_limit (length s)

  long_sound : used_so long (use_at before after) ≡ true → Rule w ts k 4
  long_sound e =
      let x = used_sound long (use_at before after) e in
      let p = and_parts (not (is_literal x.0)) (ltb name_limit (length x.1)) x.3 in
      long_name x.0 x.1 (record { is_used = x.2 }) (not-true (is_literal x.0) p.0) (ltb-true name_limit (length x.1) p.1)

  -- 5
  abbrev again : Role → List ℕ → Bool
  again r s = is_definition r && among is_definition s us

  defined_earlier : (s : List ℕ) → among is_definition s us ≡ true → Earlier ts k definition s
  defined_earlier s e =
      let x = among_sound is_definition s us e in
      seen_earlier ts definition s k (subst (λ (q : Role). In (made q s) us) (only_definition x.0 x.2) x.1)

  again_sound : used_so again (use_at before after) ≡ true → Rule w ts k 5
  again_sound e =
      let x = used_sound again (use_at before after) e in
      let p = and_parts (is_definition x.0) (among is_definition x.1 us) x.3 in
      let u : Used ts k definition x.1 = record { is_used = x.2 ∙ ap (λ (r : Role). some (made r x.1)) (only_definition x.0 p.0) } in
      second_definition x.1 u (defined_earlier x.1 p.1)

  -- 6
  abbrev other : Role → List ℕ → Bool
  other r s = among (differ r) s us

  other_sound : used_so other (use_at before after) ≡ true → Rule w ts k 6
  other_sound e =
      let x = used_sound other (use_at before after) e in
      let y = among_sound (differ x.0) x.1 us x.3 in
      let p = and_parts (not (is_literal x.0)) (not (is_literal y.0) && unlike (is_label x.0) (is_label y.0)) y.2 in
      let q = and_parts (not (is_literal y.0)) (unlike (is_label x.0) (is_label y.0)) p.1 in
      other_kind x.0 y.0 x.1 (record { is_used = x.2 }) (seen_earlier ts y.0 x.1 k y.1)
      (not-true (is_literal x.0) p.0) (not-true (is_literal y.0) q.0) (unlike_sound (is_label x.0) (is_label y.0) q.1)

  -- 7 and 8
  abbrev full : Role → List ℕ → Bool
  full r s = not (is_label r) && (not (known w (key_by w r s) us) && leb cell_limit (cells w us))

  full_sound : used_so full (use_at before after) ≡ true → Rule w ts k 7
  full_sound e =
      let x = used_sound full (use_at before after) e in
      let p = and_parts (not (is_label x.0)) (not (known w (key_by w x.0 x.1) us) && leb cell_limit (cells w us)) x.3 in
      let q = and_parts (not (known w (key_by w x.0 x.1) us)) (leb cell_limit (cells w us)) p.1 in
      no_cell x.0 x.1 (record { is_used = x.2 }) (not-true (is_label x.0) p.0) (new_sound x.0 x.1 q.0) (leb-true cell_limit (cells w us) q.1)

  abbrev labelled : Role → List ℕ → Bool
  labelled r s = is_label r && (not (known w (key_by w r s) us) && leb label_limit (labels w us))

  labelled_sound : used_so labelled (use_at before after) ≡ true → Rule w ts k 8
  labelled_sound e =
      let x = used_sound labelled (use_at before after) e in
      let p = and_parts (is_label x.0) (not (known w (key_by w x.0 x.1) us) && leb label_limit (labels w us)) x.3 in
      let q = and_parts (not (known w (key_by w x.0 x.1) us)) (leb label_limit (labels w us)) p.1 in
      no_label x.0 x.1 (record { is_used = x.2 }) p.0 (new_sound x.0 x.1 q.0) (leb-true label_limit (labels w us) q.1)

  -- 11
  abbrev listing : Role → List ℕ → Bool
  listing r s = is_listed r && leb list_limit (names before)

  listing_sound : used_so listing (use_at before after) ≡ true → Rule w ts k 11
  listing_sound e =
      let x = used_sound listing (use_at before after) e in
      let p = and_parts (is_listed x.0) (leb list_limit (names before)) x.3 in
      let u : Used ts k listed x.1 = record { is_used = x.2 ∙ ap (λ (r : Role). some (made r x.1)) (only_listed x.0 p.0) } in
      long_list x.1 u (leb-true list_limit (names before) p.1)

  -- the first fault
  fault_sound : length before ≡ k → fault_at (first_fault ts) (length before) ≡ true → Rule w ts k 3
  fault_sound h e = go (first_fault ts) refl e
    where
      go : (o : Option ℕ) → first_fault ts ≡ o → fault_at o (length before) ≡ true → Rule w ts k 3
      go none q f = absurd (false≢true f)
      go (some j) q f = no_program (some_fault ts k (q ∙ ap {B = Option ℕ} some (eqb-true j (length before) f ∙ h)))

  fault_complete : length before ≡ k → Fault ts k → fault_at (first_fault ts) (length before) ≡ true
  fault_complete h f = rw (fault_some ts k f) (eq-eqb k (length before) (sym h))

  abbrev pub all : List Check
  all = checks w (first_fault ts) before after

  at_sign : (b : Bool) (m n : ℕ) → (b && leb m n) ≡ true → (b ≡ true) × (m ≤ n)
  at_sign b m n e = let p = and_parts b (leb m n) e in (p.0, leb-true m n p.1)

  pub found_rule : length before ≡ k → (n : ℕ) → Found all n → Rule w ts k n
  found_rule h n f = go f
    where
      at : {m : ℕ} → m ≡ n → Rule w ts k m → Rule w ts k n
      at q r = subst (Rule w ts k) q r

      go : Found all n → Rule w ts k n
      go (inl p) = at p.0 (fault_sound h p.1)
      go (inr (inl p)) = at p.0 (long_sound p.1)
      go (inr (inr (inl p))) = at p.0 (again_sound p.1)
      go (inr (inr (inr (inl p)))) = at p.0 (other_sound p.1)
      go (inr (inr (inr (inr (inl p))))) = at p.0 (full_sound p.1)
      go (inr (inr (inr (inr (inr (inl p)))))) = at p.0 (labelled_sound p.1)
      go (inr (inr (inr (inr (inr (inr (inl p))))))) = let x = at_sign (here is_operator after) operator_limit (operators before) p.1 in at p.0 (many_operators x.0 x.1)
      go (inr (inr (inr (inr (inr (inr (inr (inl p)))))))) = let x = at_sign (here (is (sign Open)) after) depth_limit (depth before) p.1 in at p.0 (deep_parenthesis x.0 x.1)
      go (inr (inr (inr (inr (inr (inr (inr (inr (inl p))))))))) = let x = at_sign (here (is (keyword If)) after) depth_limit (length (parts before)) p.1 in at p.0 (deep_if x.0 x.1)
      go (inr (inr (inr (inr (inr (inr (inr (inr (inr (inl p)))))))))) = at p.0 (listing_sound p.1)
      go (inr (inr (inr (inr (inr (inr (inr (inr (inr (inr f)))))))))) = absurd f

  from_sign : (b : Bool) (m n : ℕ) → b ≡ true → m ≤ n → (b && leb m n) ≡ true
  from_sign b m n e l = and_from b (leb m n) e (le-leb m n l)

  pub rule_found : length before ≡ k → (n : ℕ) → Rule w ts k n → Found all n
  rule_found h n (no_program f) = inl (refl, fault_complete h f)
  rule_found h n (long_name r s u l g) =
      inr (inl (refl, used_complete long (use_at before after) r s u.is_used (and_from (not (is_literal r)) (ltb name_limit (length s)) (not_from_false (is_literal r) l) (lt-ltb name_limit (length s) g))))
  rule_found h n (second_definition s u x) =
      inr (inr (inl (refl, used_complete again (use_at before after) definition s u.is_used (among_complete is_definition definition s us (earlier_seen ts definition s k x) refl))))
  rule_found h n (other_kind r q s u x l m g) =
      inr (inr (inr (inl (
        refl,
        used_complete other (use_at before after) r s u.is_used (among_complete (differ r) q s us (earlier_seen ts q s k x)
            (and_from (not (is_literal r)) (not (is_literal q) && unlike (is_label r) (is_label q)) (not_from_false (is_literal r) l)
            (and_from (not (is_literal q)) (unlike (is_label r) (is_label q)) (not_from_false (is_literal q) m) (unlike_complete (is_label r) (is_label q) g)))),
      ))))
  rule_found h n (no_cell r s u l x g) =
      inr (inr (inr (inr (inl (
        refl,
        used_complete full (use_at before after) r s u.is_used
            (and_from (not (is_label r)) (not (known w (key_by w r s) us) && leb cell_limit (cells w us)) (not_from_false (is_label r) l)
            (and_from (not (known w (key_by w r s) us)) (leb cell_limit (cells w us)) (new_complete r s x) (le-leb cell_limit (cells w us) g))),
      )))))
  rule_found h n (no_label r s u l x g) =
      inr (inr (inr (inr (inr (inl (
        refl,
        used_complete labelled (use_at before after) r s u.is_used
            (and_from (is_label r) (not (known w (key_by w r s) us) && leb label_limit (labels w us)) l
            (and_from (not (known w (key_by w r s) us)) (leb label_limit (labels w us)) (new_complete r s x) (le-leb label_limit (labels w us) g))),
      ))))))
  rule_found h n (many_operators e g) = inr (inr (inr (inr (inr (inr (inl (refl, from_sign (here is_operator after) operator_limit (operators before) e g)))))))
  rule_found h n (deep_parenthesis e g) = inr (inr (inr (inr (inr (inr (inr (inl (refl, from_sign (here (is (sign Open)) after) depth_limit (depth before) e g))))))))
  rule_found h n (deep_if e g) = inr (inr (inr (inr (inr (inr (inr (inr (inl (refl, from_sign (here (is (keyword If)) after) depth_limit (length (parts before)) e g)))))))))
  rule_found h n (long_list s u g) =
      inr (inr (inr (inr (inr (inr (inr (inr (inr (inl (refl, used_complete listing (use_at before after) listed s u.is_used (le-leb list_limit (names before) g)))))))))))
