-- Places in a list of tokens: one token further.
use Rattle.std.proofs.Common.{◌≡◌, ℕ, zero, suc, ◌<◌, ◌≤◌, length, length-drop, ◌⊎◌, List, [], ◌∷◌, reverse, take, drop, sym, refl, ap, ◌∙◌, subst, inl, inr, le_of_suc-le-suc, not-suc-le-zero, eq-or-lt_of_le, arith}
use mathlib.Core.Option.{Option, none, some, some-injective, none-ne-some}
use Rattle.std.proofs.lemmas.List.{drop_all, take_all, reverse-append}
use Rattle.token.specs.Tokens.{Token}
use Rattle.grammar.proofs.Lists.{drop_next, take_next}
use Rattle.limits.specs.Uses.{Role, Use, made, In, at_head, in_tail, use_at, with_use}
use Rattle.limits.specs.Rules.{past, rest, seen, Earlier}

module _ {A : Type 0} (k : ℕ) (l : List A) (e : drop k l ≡ []) where
  pub drop_some : length l ≤ k
  drop_some = let d = length-drop k l in let m = ap length e in omega arith

  pub take_end : take (suc k) l ≡ take k l
  take_end = take_all (suc k) l (omega (arith, drop_some)) ∙ sym (take_all k l drop_some)

module _ (ts : List Token) where
  pub past_next : (k : ℕ) (t : Token) (r : List Token) → rest ts k ≡ t ∷ r → past ts (suc k) ≡ t ∷ past ts k
  past_next k t r e = ap reverse (take_next k ts t r e) ∙ reverse-append (take k ts) (t ∷ [])

  -- the uses seen grow by that of the k-th token, if it has one
  pub seen_next : (k : ℕ) → seen ts (suc k) ≡ with_use (use_at (past ts k) (rest ts k)) (seen ts k)
  seen_next k = go (rest ts k) refl
    where
      go : (r : List Token) → rest ts k ≡ r → seen ts (suc k) ≡ with_use (use_at (past ts k) (rest ts k)) (seen ts k)
      go [] e =
          let a : past ts (suc k) ≡ past ts k = ap reverse (take_end k ts e) in
          let b : rest ts (suc k) ≡ [] = drop_all (suc k) ts (omega (arith, drop_some k ts e)) in
          rw (a, b, e)
      go (t ∷ r) e =
          let a : past ts (suc k) ≡ t ∷ past ts k = past_next k t r e in
          let b : rest ts (suc k) ≡ r = drop_next k ts t r e in
          rw (a, b, e)

in_with : (u : Use) (o : Option Use) (us : List Use) → In u (with_use o us) → (o ≡ some u) ⊎ In u us
in_with u none us i = inr i
in_with u (some v) us i = go i
  where
    go : {x : Use} → In u (x ∷ us) → (some x ≡ some u) ⊎ In u us
    go at_head = inl refl
    go (in_tail j) = inr j

with_in : (u : Use) (o : Option Use) (us : List Use) → (o ≡ some u) ⊎ In u us → In u (with_use o us)
with_in u none us (inl e) = absurd (none-ne-some u e)
with_in u none us (inr i) = i
with_in u (some v) us (inl e) = subst (λ (x : Use). In u (x ∷ us)) (sym (some-injective v u e)) at_head
with_in u (some v) us (inr i) = in_tail i

module _ (ts : List Token) (r : Role) (s : List ℕ) where
  -- what is used earlier is seen
  pub earlier_seen : (k : ℕ) → Earlier ts k r s → In (made r s) (seen ts k)
  earlier_seen zero e = absurd (not-suc-le-zero e.earlier)
  earlier_seen (suc k) e = rw (seen_next ts k) (with_in (made r s) (use_at (past ts k) (rest ts k)) (seen ts k) (go (eq-or-lt_of_le (le_of_suc-le-suc e.earlier)) (λ x. earlier_seen k x)))
    where
      go : (e.index ≡ k) ⊎ (e.index < k) → (Earlier ts k r s → In (made r s) (seen ts k)) → (use_at (past ts k) (rest ts k) ≡ some (made r s)) ⊎ In (made r s) (seen ts k)
      go (inl q) ih = inl (subst (λ (j : ℕ). use_at (past ts j) (rest ts j) ≡ some (made r s)) q e.used.is_used)
      go (inr l) ih = inr (ih (record { index = e.index; earlier = l; used = e.used }))

  pub seen_earlier : (k : ℕ) → In (made r s) (seen ts k) → Earlier ts k r s
  seen_earlier zero i = elim i [ ]
  seen_earlier (suc k) i = go (in_with (made r s) (use_at (past ts k) (rest ts k)) (seen ts k) (rw (seen_next ts k) at i)) (λ j. seen_earlier k j)
    where
      go : (use_at (past ts k) (rest ts k) ≡ some (made r s)) ⊎ In (made r s) (seen ts k) → (In (made r s) (seen ts k) → Earlier ts k r s) → Earlier ts (suc k) r s
      go (inl q) ih = record { index = k; earlier = omega arith; used = record { is_used = q } }
      go (inr j) ih = let x = ih j in record { index = x.index; earlier = omega arith; used = x.used }
