-- Tests of keys and of uses in lists decide what they say.
use Rattle.std.proofs.Common.{◌≡◌, ℕ, Bool, true, false, ◌&&◌, List, [], ◌∷◌, ℤ, pos, negsuc, sym, refl, ap, ◌∙◌, subst, inl, inr, arith}
use Rattle.std.proofs.lemmas.Slice.Eq.{bytes_eq-Decides}
use Rattle.std.proofs.lemmas.Bool.{false≢true, eq-eqb, and_parts, and_from, or_cases, or_left, or_right}
use Rattle.std.specs.Str.{bytes_eq}
use Rattle.arithmetic.specs.Words.{Words}
use Rattle.limits.specs.Uses.{Role, Use, made, In, at_head, in_tail, Key, label_key, variable_key, number_key, same_word, same_key, key, known}
use Rattle.limits.specs.Refusals.{among}

-- a test with its cases
pub data Way (b : Bool) : Type 0 where
  holds : b ≡ true → Way b
  fails : b ≡ false → Way b

pub way : (b : Bool) → Way b
way true = holds refl
way false = fails refl

pub clash : {b : Bool} → b ≡ true → b ≡ false → ⊥
clash p q = false≢true (sym q ∙ p)

pub same_word_sound : (m n : ℤ) → same_word m n ≡ true → m ≡ n
same_word_sound m n e = grind arith

pub same_word_refl : (m : ℤ) → same_word m m ≡ true
same_word_refl (pos m) = eq-eqb m m refl
same_word_refl (negsuc m) = eq-eqb m m refl

pub same_key_sound : (k l : Key) → same_key k l ≡ true → k ≡ l
same_key_sound (label_key a) (label_key b) e = ap label_key ((bytes_eq-Decides a b).0 e)
same_key_sound (label_key a) (variable_key b) e = absurd (false≢true e)
same_key_sound (label_key a) (number_key n) e = absurd (false≢true e)
same_key_sound (variable_key a) (label_key b) e = absurd (false≢true e)
same_key_sound (variable_key a) (variable_key b) e = ap variable_key ((bytes_eq-Decides a b).0 e)
same_key_sound (variable_key a) (number_key n) e = absurd (false≢true e)
same_key_sound (number_key m) (label_key b) e = absurd (false≢true e)
same_key_sound (number_key m) (variable_key b) e = absurd (false≢true e)
same_key_sound (number_key m) (number_key n) e = ap number_key (same_word_sound m n e)

same_key_refl : (k : Key) → same_key k k ≡ true
same_key_refl (label_key a) = (bytes_eq-Decides a a).1 refl
same_key_refl (variable_key a) = (bytes_eq-Decides a a).1 refl
same_key_refl (number_key n) = same_word_refl n

pub same_key_complete : (k l : Key) → k ≡ l → same_key k l ≡ true
same_key_complete k l e = subst (λ (x : Key). same_key k x ≡ true) e (same_key_refl k)

pub same_bytes_sound : (a b : List ℕ) → bytes_eq a b ≡ true → a ≡ b
same_bytes_sound a b e = (bytes_eq-Decides a b).0 e

pub same_bytes_complete : (a b : List ℕ) → a ≡ b → bytes_eq a b ≡ true
same_bytes_complete a b e = (bytes_eq-Decides a b).1 e

pub among_sound : (test : Role → Bool) (s : List ℕ) (us : List Use) → among test s us ≡ true → (q : Role) × In (made q s) us × (test q ≡ true)
among_sound test s [] e = absurd (false≢true e)
among_sound test s (u ∷ us) e = elim (or_cases (test u.role && bytes_eq s u.spelling) (among test s us) e) [
  | inl h ↦ here_sound (and_parts (test u.role) (bytes_eq s u.spelling) h)
  | inr h ↦ (let x = among_sound test s us h in (x.0, in_tail x.1, x.2))
]
  where
    here_sound : (test u.role ≡ true) × (bytes_eq s u.spelling ≡ true) → (q : Role) × In (made q s) (u ∷ us) × (test q ≡ true)
    here_sound p = (u.role, subst (λ (x : List ℕ). In (made u.role x) (u ∷ us)) (sym (same_bytes_sound s u.spelling p.1)) at_head, p.0)

pub among_complete : (test : Role → Bool) (q : Role) (s : List ℕ) (us : List Use) → In (made q s) us → test q ≡ true → among test s us ≡ true
among_complete test q s [] i e = elim i [ ]
among_complete test q s (u ∷ us) at_head e = or_left (test q && bytes_eq s s) (among test s us) (and_from (test q) (bytes_eq s s) e (same_bytes_complete s s refl))
among_complete test q s (u ∷ us) (in_tail i) e = or_right (test u.role && bytes_eq s u.spelling) (among test s us) (among_complete test q s us i e)

pub known_sound : (w : Words) (k : Key) (us : List Use) → known w k us ≡ true → (u : Use) × In u us × (key w u ≡ k)
known_sound w k [] e = absurd (false≢true e)
known_sound w k (u ∷ us) e = elim (or_cases (same_key k (key w u)) (known w k us) e) [
  | inl h ↦ (u, at_head, sym (same_key_sound k (key w u) h))
  | inr h ↦ (let x = known_sound w k us h in (x.0, in_tail x.1, x.2))
]

pub known_complete : (w : Words) (k : Key) (u : Use) (us : List Use) → In u us → key w u ≡ k → known w k us ≡ true
known_complete w k u [] i e = elim i [ ]
known_complete w k u (v ∷ us) at_head e = or_left (same_key k (key w u)) (known w k us) (same_key_complete k (key w u) (sym e))
known_complete w k u (v ∷ us) (in_tail i) e = or_right (same_key k (key w v)) (known w k us) (known_complete w k u us i e)
