-- The transducer against the pieces of a text.
use Rattle.std.proofs.Common.{◌≡◌, ℕ, zero, suc, ◌+◌, Bool, true, false, eqb, List, [], ◌∷◌, take, drop, sym, refl, ap, ◌∙◌, add-zero, arith}
use Rattle.std.proofs.lemmas.Bool.{cases_Bool, eqb-true, and_left, and_right, false≢true, true≢false}
use mathlib.Core.Logic.{◌⊎◌, inl, inr}
use Rattle.token.specs.declared.lexer.State.{State}
use Rattle.token.specs.declared.lexer.State.TheVariants.{E1, E2, E3, E4, E5, E6, E7}
use Rattle.token.specs.Tokens.{Placed}
use Rattle.token.specs.Lexis.{blank, letter, digit, alphanumeric, comment_byte, equals, front, begins, one, lone, piece, from}
use Rattle.token.specs.Transducer.{moves, inside, width, final, emitted}

-- a test with its answer
abbrev pub Way : Bool → Type 0
Way b = (b ≡ true) ⊎ (b ≡ false)

pub from_skip : (k at : ℕ) (bs : List ℕ) → from k at bs ≡ from 0 (at + k) (drop k bs)
from_skip zero at [] = refl
from_skip (suc k) at [] = refl
from_skip zero at (b ∷ bs) = ap (λ n. from 0 n (b ∷ bs)) (sym (add-zero at))
from_skip (suc k) at (b ∷ bs) = from_skip k (suc at) bs ∙ ap (λ n. from 0 n (drop k bs)) (omega arith)

-- between tokens: the tokens to come from a state
abbrev pub along : State → ℕ → List ℕ → List Placed
along E1 at bs = from 0 at bs
along E2 at bs = []
along E3 at bs = []
along E4 at bs = []
along E5 at bs = []
along E6 at bs = from (front comment_byte bs) at bs
along E7 at bs = []

pub along_blank : (at b : ℕ) (bs : List ℕ) → blank b ≡ true → from 0 at (b ∷ bs) ≡ from 0 (suc at) bs
along_blank at b bs e = rw e

pub along_comment : (at b : ℕ) (bs : List ℕ) → blank b ≡ false → eqb b 37 ≡ true → from 0 at (b ∷ bs) ≡ from (front comment_byte bs) (suc at) bs
along_comment at b bs e f = rw (e, f)

-- one byte on between tokens
pub idle : (s : State) (at b : ℕ) (bs : List ℕ) → inside s ≡ false → inside (moves s b) ≡ false → along s at (b ∷ bs) ≡ along (moves s b) (suc at) bs
idle E1 at b bs out on = by (cases_Bool (blank b)) (cases_Bool (eqb b 37)) (cases_Bool (letter b)) (cases_Bool (digit b)) (cases_Bool (eqb b 58)) on
  where
    by : Way (blank b) → Way (eqb b 37) → Way (letter b) → Way (digit b) → Way (eqb b 58) → inside (moves E1 b) ≡ false → from 0 at (b ∷ bs) ≡ along (moves E1 b) (suc at) bs
    by (inl e) _ _ _ _ on = rw e
    by (inr e) (inl f) _ _ _ on = rw (e, f)
    by (inr e) (inr f) (inl g) _ _ on = absurd (true≢false (rw (e, f, g) at on))
    by (inr e) (inr f) (inr g) (inl h) _ on = absurd (true≢false (rw (e, f, g, h) at on))
    by (inr e) (inr f) (inr g) (inr h) (inl i) on = absurd (true≢false (rw (e, f, g, h, i) at on))
    by (inr e) (inr f) (inr g) (inr h) (inr i) on = absurd (true≢false (rw (e, f, g, h, i) at on))
idle E2 at b bs out on = absurd (true≢false out)
idle E3 at b bs out on = absurd (true≢false out)
idle E4 at b bs out on = absurd (true≢false out)
idle E5 at b bs out on = absurd (true≢false out)
idle E6 at b bs out on = by (cases_Bool (eqb b 10))
  where
    by : Way (eqb b 10) → from (front comment_byte (b ∷ bs)) at (b ∷ bs) ≡ along (moves E6 b) (suc at) bs
    by (inl e) = let z = eqb-true b 10 e in rw z
    by (inr e) = rw e
idle E7 at b bs out on = absurd (true≢false out)

-- the first byte of a token
pub record Starts (s : State) (b : ℕ) : Type 0 where
  pub is_e1 : s ≡ E1
  pub not_blank : blank b ≡ false
  pub not_comment : eqb b 37 ≡ false

pub starts : (s : State) (b : ℕ) → inside s ≡ false → inside (moves s b) ≡ true → Starts s b
starts E1 b out on = by (cases_Bool (blank b)) (cases_Bool (eqb b 37)) on
  where
    by : Way (blank b) → Way (eqb b 37) → inside (moves E1 b) ≡ true → Starts E1 b
    by (inl e) _ on = absurd (false≢true (rw e at on))
    by (inr e) (inl f) on = absurd (false≢true (rw (e, f) at on))
    by (inr e) (inr f) on = record { is_e1 = refl; not_blank = e; not_comment = f }
starts E2 b out on = absurd (true≢false out)
starts E3 b out on = absurd (true≢false out)
starts E4 b out on = absurd (true≢false out)
starts E5 b out on = absurd (true≢false out)
starts E6 b out on = by (cases_Bool (eqb b 10)) on
  where
    by : Way (eqb b 10) → inside (moves E6 b) ≡ true → Starts E6 b
    by (inl e) on = absurd (false≢true (rw e at on))
    by (inr e) on = absurd (false≢true (rw e at on))
starts E7 b out on = absurd (true≢false out)

-- the piece that such a byte starts
pub token_here : (b : ℕ) (bs : List ℕ) → blank b ≡ false → eqb b 37 ≡ false →
    piece b bs ≡ one (emitted (final (moves E1 b) bs) (b ∷ take (width (moves E1 b) bs) bs)) (width (moves E1 b) bs)
token_here b bs e f = by (cases_Bool (letter b)) (cases_Bool (digit b)) (cases_Bool (eqb b 58)) (cases_Bool (begins equals bs))
  where
    by : Way (letter b) → Way (digit b) → Way (eqb b 58) → Way (begins equals bs) →
        piece b bs ≡ one (emitted (final (moves E1 b) bs) (b ∷ take (width (moves E1 b) bs) bs)) (width (moves E1 b) bs)
    by (inl g) _ _ _ = rw (e, f, g)
    by (inr g) (inl h) _ _ = rw (e, f, g, h)
    by (inr g) (inr h) (inl i) (inl j) = rw (e, f, g, h, i, j)
    by (inr g) (inr h) (inl i) (inr j) =
        let m : moves E1 b ≡ E4 = rw (e, f, g, h, i) in
        let z = and_right (eqb b 58) (begins equals bs) j in
        let p : piece b bs ≡ one (lone b) 0 = rw (e, f, g, h, z) in
        let q : one (lone b) 0 ≡ one (emitted (final E4 bs) (b ∷ take (width E4 bs) bs)) (width E4 bs) = rw j in
        p ∙ q ∙ ap (λ s. one (emitted (final s bs) (b ∷ take (width s bs) bs)) (width s bs)) (sym m)
    by (inr g) (inr h) (inr i) _ =
        let z = and_left (eqb b 58) (begins equals bs) i in
        let m : moves E1 b ≡ E7 = rw (e, f, g, h, i) in
        let p : piece b bs ≡ one (lone b) 0 = rw (e, f, g, h, z) in
        p ∙ ap (λ s. one (emitted (final s bs) (b ∷ take (width s bs) bs)) (width s bs)) (sym m)

-- one byte on inside a token
pub record Goes (s : State) (b : ℕ) (bs : List ℕ) : Type 0 where
  pub width_is : width s (b ∷ bs) ≡ suc (width (moves s b) bs)
  pub final_is : final s (b ∷ bs) ≡ final (moves s b) bs

pub goes : (s : State) (b : ℕ) (bs : List ℕ) → inside s ≡ true → inside (moves s b) ≡ true → Goes s b bs
goes E1 b bs on in' = absurd (false≢true on)
goes E2 b bs on in' = by (cases_Bool (alphanumeric b)) in'
  where
    by : Way (alphanumeric b) → inside (moves E2 b) ≡ true → Goes E2 b bs
    by (inl e) i = record { width_is = rw e; final_is = rw e }
    by (inr e) i = absurd (false≢true (rw e at i))
goes E3 b bs on in' = by (cases_Bool (digit b)) in'
  where
    by : Way (digit b) → inside (moves E3 b) ≡ true → Goes E3 b bs
    by (inl e) i = record { width_is = rw e; final_is = rw e }
    by (inr e) i = absurd (false≢true (rw e at i))
goes E4 b bs on in' = by (cases_Bool (eqb b 61)) in'
  where
    by : Way (eqb b 61) → inside (moves E4 b) ≡ true → Goes E4 b bs
    by (inl e) i = let z = eqb-true b 61 e in record { width_is = rw z; final_is = rw z }
    by (inr e) i = absurd (false≢true (rw e at i))
goes E5 b bs on in' = absurd (false≢true in')
goes E6 b bs on in' = absurd (false≢true on)
goes E7 b bs on in' = absurd (false≢true in')

pub along_end : (s : State) (at : ℕ) → along s at [] ≡ []
along_end E1 at = refl
along_end E2 at = refl
along_end E3 at = refl
along_end E4 at = refl
along_end E5 at = refl
along_end E6 at = refl
along_end E7 at = refl
