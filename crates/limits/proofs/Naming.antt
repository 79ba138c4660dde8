-- What the refusals 4, 5, 6 and 12 leave of the names of a program's tree.
use Rattle.std.proofs.Common.{◌≡◌, ℕ, zero, suc, ◌≤◌, Bool, true, false, ◌⊎◌, List, [], ◌∷◌, length, sym, refl, ap, ◌∙◌, subst, inl, inr, arith}
use mathlib.Core.List.{reverse_aux}
use mathlib.Core.Option.{Option, none, some, some-injective}
use Rattle.std.proofs.lemmas.Bool.{cases_lt, cases_order}
use Rattle.token.specs.Tokens.{Token}
use Rattle.trees.specs.Trees.{Name, Program}
use Rattle.arithmetic.specs.Words.{Words}
use Rattle.grammar.specs.Grammar.{Parses}
use Rattle.limits.specs.Uses.{Role, definition, Use, made, In, at_head, in_tail, use_at, with_use, uses, is_literal, is_definition, is_label}
use Rattle.limits.specs.Rules.{name_limit, past, rest, seen, Used, Earlier, Met, long_name, second_definition, other_kind, Clear}
use Rattle.limits.specs.Refusals.{among}
use Rattle.limits.specs.Programs.{program_uses, Once}
use Rattle.limits.proofs.Keys.{Way, holds, fails, way, clash, among_sound}
use Rattle.limits.proofs.Lists.{seen_next, seen_earlier}
use Rattle.limits.proofs.Stands.{only_definition}
use Rattle.limits.proofs.Search.{all_seen, somewhere_defined}
use Rattle.limits.proofs.Scans.{same_uses}

in_aux : (u : Use) (us vs : List Use) → In u (reverse_aux us vs) → In u us ⊎ In u vs
in_aux u [] vs i = inr i
in_aux u (v ∷ us) vs i = go (in_aux u us (v ∷ vs) i)
  where
    split : {x : Use} → In u (x ∷ vs) → In u (x ∷ us) ⊎ In u vs
    split at_head = inl at_head
    split (in_tail j) = inr j

    go : In u us ⊎ In u (v ∷ vs) → In u (v ∷ us) ⊎ In u vs
    go (inl j) = inl (in_tail j)
    go (inr j) = split j

aux_in : (u : Use) (us vs : List Use) → In u us ⊎ In u vs → In u (reverse_aux us vs)
aux_in u [] vs (inl i) = elim i [ ]
aux_in u [] vs (inr i) = i
aux_in u (v ∷ us) vs (inl i) = aux_in u us (v ∷ vs) (split i)
  where
    split : {x : Use} → In u (x ∷ us) → In u us ⊎ In u (x ∷ vs)
    split at_head = inr at_head
    split (in_tail j) = inl j
aux_in u (v ∷ us) vs (inr i) = aux_in u us (v ∷ vs) (inr (in_tail i))

module _ (ts : List Token) (p : Program) (d : Parses ts p) where
  pub in_tokens : (u : Use) → In u (program_uses p) → In u (uses ts)
  in_tokens u i = go (in_aux u (uses ts) [] (rw (same_uses ts p d) i))
    where
      go : In u (uses ts) ⊎ In u [] → In u (uses ts)
      go (inl j) = j
      go (inr j) = elim j [ ]

  in_tree : (u : Use) → In u (uses ts) → In u (program_uses p)
  in_tree u i = rw (same_uses ts p d) at (aux_in u (uses ts) [] (inl i))

  -- a use of the tree is that of a token
  at_index : (r : Role) (x : Name) → In (made r x) (program_uses p) → (k : ℕ) × Used ts k r x
  at_index r x i =
      let e = seen_earlier ts r x (length ts) (rw (all_seen ts) (in_tokens (made r x) i)) in
      (e.index, e.used)

  pub defined : Met ts → (r : Role) (x : Name) → In (made r x) (program_uses p) → is_label r ≡ true → In (made definition x) (program_uses p)
  defined met r x i l = go (way (among is_definition x (uses ts)))
    where
      go : Way (among is_definition x (uses ts)) → In (made definition x) (program_uses p)
      go (holds e) =
          let y = among_sound is_definition x (uses ts) e in
          in_tree (made definition x) (subst (λ (q : Role). In (made q x) (uses ts)) (only_definition y.0 y.2) y.1)
      go (fails e) =
          let k = at_index r x i in
          absurd (met k.0 (record { role = r; spelling = x; mentioned = k.1; label = l; nowhere = λ j u. clash (somewhere_defined ts x j u) e }))

  module _ (w : Words) (clear : Clear w ts) where
    pub short_names : (r : Role) (x : Name) → In (made r x) (program_uses p) → is_literal r ≡ false → length x ≤ name_limit
    short_names r x i l =
        let k = at_index r x i in
        elim (cases_lt name_limit (length x)) [ inl g ↦ absurd (clear k.0 4 (long_name r x k.1 l g)) | inr g ↦ g ]

    pub one_kind : (r q : Role) (x : Name) → In (made r x) (program_uses p) → In (made q x) (program_uses p) →
        is_literal r ≡ false → is_literal q ≡ false → is_label r ≡ is_label q
    one_kind r q x i j l m = same_bool (is_label r) (is_label q) (λ h. go h (at_index r x i) (at_index q x j))
      where
        same_bool : (a b : Bool) → ((a ≡ b → ⊥) → ⊥) → a ≡ b
        same_bool a b h = grind arith

        go : (is_label r ≡ is_label q → ⊥) → (k : ℕ) × Used ts k r x → (k : ℕ) × Used ts k q x → ⊥
        go h a b = elim (cases_order a.0 b.0) [
          | inl e ↦ h (ap (λ (u : Use). is_label u.role) (some-injective (made r x) (made q x)
              (sym (subst (λ (k : ℕ). use_at (past ts k) (rest ts k) ≡ some (made r x)) e a.1.is_used) ∙ b.1.is_used)))
          | inr o ↦ elim o [
            | inl g ↦ clear b.0 6 (other_kind q r x b.1 (record { index = a.0; earlier = g; used = a.1 }) m l (λ e. h (sym e)))
            | inr g ↦ clear a.0 6 (other_kind r q x a.1 (record { index = b.0; earlier = g; used = b.1 }) l m h)
          ]
        ]

    -- newest first, no definition stands among the older ones
    abbrev Back : List Use → Type 0
    Back [] = Unit {0}
    Back (u ∷ us) = (is_definition u.role ≡ true → In u us → ⊥) × Back us

    back_step : (k : ℕ) (o : Option Use) → use_at (past ts k) (rest ts k) ≡ o → Back (seen ts k) → Back (with_use o (seen ts k))
    back_step k none e h = h
    back_step k (some u) e h = (λ b i. again (only_definition u.role b) i, h)
      where
        again : u.role ≡ definition → In u (seen ts k) → ⊥
        again q i =
            let v : u ≡ made definition u.spelling = ap (λ (r : Role). made r u.spelling) q in
            let x : Earlier ts k definition u.spelling = seen_earlier ts definition u.spelling k (subst (λ (z : Use). In z (seen ts k)) v i) in
            clear k 5 (second_definition u.spelling (record { is_used = e ∙ ap {B = Option Use} some v }) x)

    back_seen : (k : ℕ) → Back (seen ts k)
    back_seen zero = tt
    back_seen (suc k) = rw (seen_next ts k) (back_step k (use_at (past ts k) (rest ts k)) refl (back_seen k))

    turned : (us vs : List Use) → Back us → Once vs → ((u : Use) → is_definition u.role ≡ true → In u us → In u vs → ⊥) → Once (reverse_aux us vs)
    turned [] vs b o c = o
    turned (v ∷ us) vs b o c = turned us (v ∷ vs) b.1 ((λ q i. c v q at_head i), o) apart
      where
        split : (u x : Use) → is_definition u.role ≡ true → In u us → In u (x ∷ vs) → (is_definition x.role ≡ true → In x us → ⊥) → (In u vs → ⊥) → ⊥
        split u x q i at_head f g = f q i
        split u x q i (in_tail j) f g = g j

        apart : (u : Use) → is_definition u.role ≡ true → In u us → In u (v ∷ vs) → ⊥
        apart u q i j = split u v q i j b.0 (λ k. c u q (in_tail i) k)

    pub once : Once (program_uses p)
    once =
        let b : Back (uses ts) = rw (all_seen ts) at (back_seen (length ts)) in
        rw (same_uses ts p d) at (turned (uses ts) [] b tt (λ u q i j. elim j [ ]))
