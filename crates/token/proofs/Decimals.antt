-- One digit more.
use Rattle.std.proofs.Common.{◌≡◌, ℕ, ◌+◌, ◌-◌, ◌*◌, ◌^◌, ◌≤◌, Bool, true, cond, leb, List, [], ◌∷◌, ◌++◌, length, ℤ, pos, ◌+ℤ◌, ◌*ℤ◌, Some, None, sym, ap, ◌∙◌, mul_assoc, mul_comm, add-one, arith}
use mathlib.Core.Logic.{inl, inr}
use native.Mathlib.Nat.{pow-succ'}
use Rattle.std.proofs.lemmas.List.{length_push}
use Rattle.std.proofs.lemmas.Bool.{cases_Bool, and_parts, and_from, leb-true}
use Rattle.token.proofs.Pieces.{Way}
use Rattle.arithmetic.specs.Words.{Words, Lawful}
use Rattle.token.specs.Lexis.{digit}
use Rattle.token.specs.Numbers.{every, decimal, word}

pub every_push : (test : ℕ → Bool) (bs : List ℕ) (b : ℕ) → every test bs ≡ true → test b ≡ true → every test (bs ++ (b ∷ [])) ≡ true
every_push test [] b h e = rw e
every_push test (x ∷ bs) b h e =
    let p = and_parts (test x) (every test bs) h in and_from (test x) _ p.0 (every_push test bs b p.1 e)

pub decimal_push : (bs : List ℕ) (b : ℕ) → decimal (bs ++ (b ∷ [])) ≡ 10 * decimal bs + (b - 48)
decimal_push [] b = omega arith
decimal_push (x ∷ bs) b =
    let q = x - 48 in
    let p = 10 ^ length bs in
    let e : 10 ^ length (bs ++ (b ∷ [])) ≡ 10 * p = ap (λ n. 10 ^ n) (length_push bs b ∙ add-one (length bs)) ∙ pow-succ' 10 (length bs) in
    let k : q * (10 * p) ≡ 10 * (q * p) = sym (mul_assoc q 10 p) ∙ ap (λ z. z * p) (mul_comm q 10) ∙ mul_assoc 10 q p in
    let m : q * 10 ^ length (bs ++ (b ∷ [])) ≡ 10 * (q * p) = ap (λ z. q * z) e ∙ k in
    let d = decimal_push bs b in
    (λ i. m i + d i) ∙ omega arith

pub word_push : (w : Words) → Lawful w → (bs : List ℕ) (b : ℕ) → digit b ≡ true → w.fit ((pos 10 *ℤ word w bs) +ℤ pos (b - 48)) ≡ word w (bs ++ (b ∷ []))
word_push w l bs b e =
    let small : b ≤ 57 = leb-true b 57 (and_parts (leb 48 b) (leb b 57) e).1 in
    l.digit (decimal bs) (b - 48) (omega arith) ∙ ap (λ n. w.fit (pos n)) (sym (decimal_push bs b))

-- what a digit's value says
pub digit_some : (b d : ℕ) → Some d ≡ cond (digit b) (Some (b - 48)) None → (digit b ≡ true) × (d ≡ b - 48)
digit_some b d e = by (cases_Bool (digit b)) e
  where
    by : Way (digit b) → Some d ≡ cond (digit b) (Some (b - 48)) None → (digit b ≡ true) × (d ≡ b - 48)
    by (inl h) e = let f : Some d ≡ Some (b - 48) = rw h at e in (h, cc)
    by (inr h) e = let f : Some d ≡ None = rw h at e in absurd (cc)

-- the word so far, z, and one digit more
pub word_more : (w : Words) → Lawful w → (bs : List ℕ) (b d : ℕ) {z r : ℤ} → z ≡ word w bs → digit b ≡ true → d ≡ b - 48 → r ≡ w.fit ((pos 10 *ℤ z) +ℤ pos d) → r ≡ word w (bs ++ (b ∷ []))
word_more w l bs b d e h q a = a ∙ (λ i. w.fit ((pos 10 *ℤ e i) +ℤ pos (q i))) ∙ word_push w l bs b h
