-- The tokens of a text against the rules by which it reads.
use Rattle.std.proofs.Common.{◌≡◌, ℕ, zero, suc, ◌+◌, ◌≤◌, true, false, eqb, List, [], ◌∷◌, ◌++◌, length, take, drop, Some, None, Option, sym, refl, ap, ◌∙◌, subst, not-suc-le-zero, add-one, arith}
use mathlib.Core.Logic.{inl, inr}
use Rattle.std.proofs.lemmas.List.{length-take-le, length-drop, take_at, drop_at, take-append-drop}
use Rattle.std.proofs.lemmas.Bool.{cases_Bool, eqb-true, eqb-false, ne_eqb, and_left, and_right, and_from, and_parts, or_left, false≢true}
use Rattle.std.proofs.lemmas.Bool.Decides.{nat_tests}
use Rattle.token.specs.Tokens.{Token, name, number, keyword, sign, other, Placed, Keyword, End, Let, Go, To, Of, Read, Print, If, Then, Else, Sign, Semicolon, Colon, Becomes, Plus, Minus, Times, Over, Open, Close, Comma, Greater, Equal, Less}
use Rattle.token.specs.Lexis.{blank, letter, digit, alphanumeric, comment_byte, equals, front, begins, spelling, characters, keywords, reserved, single_signs, sign_of, keyword_or_name, named, sign_or_other, lone, Piece, one, piece, placed, from, tokens_from}
use Rattle.token.specs.Numbers.{every}
use Rattle.token.specs.Reading.{spelled, Foreign, Proper, Whole, Reads, the_end, a_blank, a_comment, a_token, TokensExact}
use Rattle.token.proofs.Pieces.{Way, from_skip, along_blank, along_comment}
use Rattle.token.proofs.Fronts.{front_is, front_le, every_front, begins_front}
use Rattle.token.proofs.Finds.{found, reserved_spelling, not_reserved, not_sign}

-- a token t of `more` bytes after its first, before the rest
pub record Here (b : ℕ) (bs : List ℕ) (t : Token) (more : ℕ) : Type 0 where
  pub is : piece b bs ≡ one t more
  pub room : more ≤ length bs
  pub bytes : b ∷ take more bs ≡ spelled t
  pub proper : Proper t
  pub whole : Whole t (drop more bs)

letter_alphanumeric : (b : ℕ) → letter b ≡ true → alphanumeric b ≡ true
letter_alphanumeric b e = or_left (letter b) (digit b) e

-- a name's token, reserved or not
name_here : (b : ℕ) (bs : List ℕ) (more : ℕ) (o : _) → reserved (b ∷ take more bs) ≡ o → piece b bs ≡ one (keyword_or_name (b ∷ take more bs) o) more → more ≤ length bs →
    begins letter (b ∷ bs) ≡ true → every alphanumeric (b ∷ take more bs) ≡ true → begins alphanumeric (drop more bs) ≡ false → Here b bs (keyword_or_name (b ∷ take more bs) o) more
name_here b bs more (Some k) e is room l all w = record { is = is; room = room; bytes = found spelling keywords (b ∷ take more bs) k e; proper = tt; whole = w }
name_here b bs more None e is room l all w =
    record { is = is; room = room; bytes = refl; proper = (l, all, not_reserved (b ∷ take more bs) e); whole = w }

lone_here : (b : ℕ) (bs : List ℕ) (o : _) → sign_of b ≡ o → piece b bs ≡ one (sign_or_other b o) 0 →
    blank b ≡ false → eqb b 37 ≡ false → letter b ≡ false → digit b ≡ false → (b ≡ 58 → begins equals bs ≡ false) → Here b bs (sign_or_other b o) 0
lone_here b bs (Some s) e is e1 e2 e3 e4 w =
    let c = found characters single_signs (b ∷ []) s e in
    record { is = is; room = omega arith; bytes = c; proper = tt; whole = λ (q : s ≡ Colon). let f : b ∷ [] ≡ 58 ∷ [] = c ∙ ap characters q in let z : b ≡ 58 = cc in w z }
lone_here b bs None e is e1 e2 e3 e4 w =
    record { is = is; room = omega arith; bytes = refl; proper = record { not_blank = e1; not_comment = e2; not_letter = e3; not_digit = e4; not_sign = not_sign b e }; whole = tt }

becomes_here : (b : ℕ) (bs : List ℕ) → piece b bs ≡ one (sign Becomes) 1 → eqb b 58 ≡ true → begins equals bs ≡ true → Here b bs (sign Becomes) 1
becomes_here b [] is e f = absurd (false≢true f)
becomes_here b (c ∷ bs) is e f =
    let p = eqb-true b 58 e in
    let q = eqb-true c 61 f in
    record { is = is; room = omega arith; bytes = (λ i. p i ∷ q i ∷ []); proper = tt; whole = λ r. absurd (cc) }

-- a byte that is no blank and starts no comment starts a token
pub here : (b : ℕ) (bs : List ℕ) → blank b ≡ false → eqb b 37 ≡ false → (t : Token) × (more : ℕ) × Here b bs t more
here b bs e f = by (cases_Bool (letter b)) (cases_Bool (digit b)) (cases_Bool (eqb b 58)) (cases_Bool (begins equals bs))
  where
    by : Way (letter b) → Way (digit b) → Way (eqb b 58) → Way (begins equals bs) → (t : Token) × (more : ℕ) × Here b bs t more
    by (inl g) _ _ _ =
        let more = front alphanumeric bs in (
          _,
          more,
          name_here b bs more (reserved (b ∷ take more bs)) refl (rw (e, f, g)) (front_le alphanumeric bs) g (and_from (alphanumeric b) _ (letter_alphanumeric b g) (every_front alphanumeric bs)) (begins_front alphanumeric bs),
        )
    by (inr g) (inl h) _ _ =
        let more = front digit bs in (
          number (b ∷ take more bs),
          more,
          record { is = rw (e, f, g, h); room = front_le digit bs; bytes = refl; proper = (h, and_from (digit b) _ h (every_front digit bs)); whole = begins_front digit bs },
        )
    by (inr g) (inr h) (inl i) (inl j) = (sign Becomes, 1, becomes_here b bs (rw (e, f, g, h, i, j)) i j)
    by (inr g) (inr h) (inl i) (inr j) =
        let z = and_right (eqb b 58) (begins equals bs) j in
        (_, 0, lone_here b bs (sign_of b) refl (rw (e, f, g, h, z)) e f g h (λ _. j))
    by (inr g) (inr h) (inr i) _ =
        let z = and_left (eqb b 58) (begins equals bs) i in
        (_, 0, lone_here b bs (sign_of b) refl (rw (e, f, g, h, z)) e f g h (λ q. absurd (eqb-false b 58 i q)))

-- what comes of a token
pub from_here : (at b : ℕ) (bs : List ℕ) (t : Token) (more : ℕ) → Here b bs t more → from 0 at (b ∷ bs) ≡ record { offset = at; token = t } ∷ from 0 (at + length (spelled t)) (drop more bs)
from_here at b bs t more h =
    let size : suc at + more ≡ at + length (spelled t) = omega (arith, ap length h.bytes, length-take-le more bs h.room) in
    ap (λ (p : Piece). placed at p.token (from p.more (suc at) bs)) h.is
    ∙ ap (λ l. record { offset = at; token = t } ∷ l) (from_skip more (suc at) bs ∙ ap (λ n. from 0 n (drop more bs)) size)

-- what is read is what is found
every_letter : (k : Keyword) → (begins letter (spelling k) ≡ true) × (every alphanumeric (spelling k) ≡ true)
every_letter End = (refl, refl)
every_letter Let = (refl, refl)
every_letter Go = (refl, refl)
every_letter To = (refl, refl)
every_letter Of = (refl, refl)
every_letter Read = (refl, refl)
every_letter Print = (refl, refl)
every_letter If = (refl, refl)
every_letter Then = (refl, refl)
every_letter Else = (refl, refl)

letter_tells : (b : ℕ) → letter b ≡ true → (blank b ≡ false) × (eqb b 37 ≡ false)
letter_tells b e = (grind (arith, nat_tests), grind (arith, nat_tests))

digit_tells : (b : ℕ) → digit b ≡ true → (blank b ≡ false) × (eqb b 37 ≡ false) × (letter b ≡ false)
digit_tells b e = (grind (arith, nat_tests), grind (arith, nat_tests), grind (arith, nat_tests))

-- after a token of the bytes b ∷ bs
after : (at b : ℕ) (bs rest : List ℕ) (t : Token) → piece b (bs ++ rest) ≡ one t (length bs) →
    from 0 at (b ∷ (bs ++ rest)) ≡ record { offset = at; token = t } ∷ from 0 (at + suc (length bs)) rest
after at b bs rest t is =
    ap (λ (p : Piece). placed at p.token (from p.more (suc at) (bs ++ rest))) is
    ∙ ap (λ l. record { offset = at; token = t } ∷ l) (from_skip (length bs) (suc at) (bs ++ rest) ∙ (λ i. from 0 (sum i) (drop_at bs rest (length bs) refl i)))
  where
    sum : suc at + length bs ≡ at + suc (length bs)
    sum = omega arith

plain : (bytes : List ℕ) (o : Option Keyword) → reserved bytes ≡ o → ((k : Keyword) → bytes ≡ spelling k → ⊥) → keyword_or_name bytes o ≡ name bytes
plain bytes (Some k) e h = absurd (h k (found spelling keywords bytes k e))
plain bytes None e h = refl

no_sign : (b : ℕ) (o : Option Sign) → sign_of b ≡ o → ((s : Sign) → characters s ≡ b ∷ [] → ⊥) → o ≡ None
no_sign b (Some s) e h = absurd (h s (sym (found characters single_signs (b ∷ []) s e)))
no_sign b None e h = refl

-- the rule of a name, reserved or not
name_read : (bytes rest : List ℕ) (t : Token) → begins letter bytes ≡ true → every alphanumeric bytes ≡ true → begins alphanumeric rest ≡ false → named bytes ≡ t → spelled t ≡ bytes → (at : ℕ) →
    from 0 at (bytes ++ rest) ≡ record { offset = at; token = t } ∷ from 0 (at + length bytes) rest
name_read [] rest t l all w e z at = absurd (false≢true l)
name_read (b ∷ bs) rest t l all w e z at =
    let p = letter_tells b l in
    let more : front alphanumeric (bs ++ rest) ≡ length bs = front_is alphanumeric bs rest (and_parts (alphanumeric b) _ all).1 w in
    let is : piece b (bs ++ rest) ≡ one (named (b ∷ take (front alphanumeric (bs ++ rest)) (bs ++ rest))) (front alphanumeric (bs ++ rest)) = rw (p.0, p.1, l) in
    let all_of : take (front alphanumeric (bs ++ rest)) (bs ++ rest) ≡ bs = ap (λ n. take n (bs ++ rest)) more ∙ take_at bs rest (length bs) refl in
    let is_t : piece b (bs ++ rest) ≡ one t (length bs) = is ∙ (λ i. one (named (b ∷ all_of i)) (more i)) ∙ ap (λ u. one u (length bs)) e in
    after at b bs rest t is_t

number_read : (digits rest : List ℕ) → begins digit digits ≡ true → every digit digits ≡ true → begins digit rest ≡ false → (at : ℕ) →
    from 0 at (digits ++ rest) ≡ record { offset = at; token = number digits } ∷ from 0 (at + length digits) rest
number_read [] rest l all w at = absurd (false≢true l)
number_read (b ∷ bs) rest l all w at =
    let p = digit_tells b l in
    let more : front digit (bs ++ rest) ≡ length bs = front_is digit bs rest (and_parts (digit b) _ all).1 w in
    let is : piece b (bs ++ rest) ≡ one (number (b ∷ take (front digit (bs ++ rest)) (bs ++ rest))) (front digit (bs ++ rest)) = rw (p.0, p.1, p.2, l) in
    let all_of : take (front digit (bs ++ rest)) (bs ++ rest) ≡ bs = ap (λ n. take n (bs ++ rest)) more ∙ take_at bs rest (length bs) refl in
    after at b bs rest (number (b ∷ bs)) (is ∙ (λ i. one (number (b ∷ all_of i)) (more i)))

sign_read : (s : Sign) (rest : List ℕ) → (s ≡ Colon → begins equals rest ≡ false) → (at : ℕ) →
    from 0 at (characters s ++ rest) ≡ record { offset = at; token = sign s } ∷ from 0 (at + length (characters s)) rest
sign_read Semicolon rest w at = after at 59 [] rest (sign Semicolon) refl
sign_read Colon rest w at = after at 58 [] rest (sign Colon) (rw (w refl))
sign_read Becomes rest w at = after at 58 (61 ∷ []) rest (sign Becomes) refl
sign_read Plus rest w at = after at 43 [] rest (sign Plus) refl
sign_read Minus rest w at = after at 45 [] rest (sign Minus) refl
sign_read Times rest w at = after at 42 [] rest (sign Times) refl
sign_read Over rest w at = after at 47 [] rest (sign Over) refl
sign_read Open rest w at = after at 40 [] rest (sign Open) refl
sign_read Close rest w at = after at 41 [] rest (sign Close) refl
sign_read Comma rest w at = after at 44 [] rest (sign Comma) refl
sign_read Greater rest w at = after at 62 [] rest (sign Greater) refl
sign_read Equal rest w at = after at 61 [] rest (sign Equal) refl
sign_read Less rest w at = after at 60 [] rest (sign Less) refl

other_read : (b : ℕ) (rest : List ℕ) → Foreign b → (at : ℕ) → from 0 at (b ∷ rest) ≡ record { offset = at; token = other b } ∷ from 0 (at + 1) rest
other_read b rest h at =
    let n : eqb b 58 ≡ false = ne_eqb b 58 (λ e. h.not_sign Colon (ap (λ x. x ∷ []) (sym e))) in
    let z = and_left (eqb b 58) (begins equals rest) n in
    let is : piece b rest ≡ one (lone b) 0 = rw (h.not_blank, h.not_comment, h.not_letter, h.not_digit, z) in
    let none : sign_of b ≡ None = no_sign b (sign_of b) refl h.not_sign in
    after at b [] rest (other b) (is ∙ ap (λ o. one (sign_or_other b o) 0) none)

token_read : (t : Token) (rest : List ℕ) → Proper t → Whole t rest → (at : ℕ) → from 0 at (spelled t ++ rest) ≡ record { offset = at; token = t } ∷ from 0 (at + length (spelled t)) rest
token_read (name bytes) rest p w at = name_read bytes rest (name bytes) p.0 p.1 w (plain bytes (reserved bytes) refl p.2) refl at
token_read (number digits) rest p w at = number_read digits rest p.0 p.1 w at
token_read (keyword k) rest p w at = let l = every_letter k in name_read (spelling k) rest (keyword k) l.0 l.1 w (ap (keyword_or_name (spelling k)) (reserved_spelling k)) refl at
token_read (sign s) rest p w at = sign_read s rest w at
token_read (other b) rest p w at = other_read b rest p at

reads_from : (at : ℕ) (text : List ℕ) (ts : List Placed) → Reads at text ts → from 0 at text ≡ ts
reads_from at text ts (the_end _) = refl
reads_from at text ts (a_blank _ b rest _ e r) = along_blank at b rest e ∙ ap (λ n. from 0 n rest) (sym (add-one at)) ∙ reads_from (at + 1) rest ts r
reads_from at text ts (a_comment _ inner rest _ e w r) =
    let more = front_is comment_byte inner rest e w in
    along_comment at 37 (inner ++ rest) refl refl ∙ ap (λ n. from n (suc at) (inner ++ rest)) more ∙ from_skip (length inner) (suc at) (inner ++ rest)
    ∙ ap (from 0 (suc at + length inner)) (drop_at inner rest (length inner) refl) ∙ ap (λ n. from 0 (n + length inner) rest) (sym (add-one at))
    ∙ reads_from (at + 1 + length inner) rest ts r
reads_from at text ts (a_token _ t rest more p w r) = token_read t rest p w at ∙ ap (λ l. record { offset = at; token = t } ∷ l) (reads_from (at + length (spelled t)) rest more r)

-- what is found is read
moved : {at : ℕ} {xs ys : List ℕ} {ss ts : List Placed} → xs ≡ ys → ss ≡ ts → Reads at xs ss → Reads at ys ts
moved {at} {xs} {ys} {ss} {ts} p q r = subst (λ (l : List Placed). Reads at ys l) q (subst (λ (l : List ℕ). Reads at l ss) p r)

from_reads : (n : ℕ) (text : List ℕ) → length text ≤ n → (at : ℕ) → Reads at text (from 0 at text)
from_reads n [] low at = the_end at
from_reads zero (b ∷ bs) low at = absurd (not-suc-le-zero low)
from_reads (suc n) (b ∷ bs) low at = by (cases_Bool (blank b)) (cases_Bool (eqb b 37)) (from_reads n)
  where
    by : Way (blank b) → Way (eqb b 37) → ((text : List ℕ) → length text ≤ n → (at : ℕ) → Reads at text (from 0 at text)) → Reads at (b ∷ bs) (from 0 at (b ∷ bs))
    by (inl e) _ more = moved refl (ap (λ n. from 0 n bs) (add-one at) ∙ sym (along_blank at b bs e)) (a_blank at b bs _ e (more bs (omega arith) (at + 1)))
    by (inr e) (inl f) more =
        let k = front comment_byte bs in
        let room = front_le comment_byte bs in
        let size : at + 1 + length (take k bs) ≡ suc at + k = omega (arith, length-take-le k bs room) in
        moved (λ i. sym (eqb-true b 37 f) i ∷ take-append-drop k bs i)
        (ap (λ n. from 0 n (drop k bs)) size ∙ sym (from_skip k (suc at) bs) ∙ sym (along_comment at b bs e f))
        (a_comment at (take k bs) (drop k bs) _ (every_front comment_byte bs) (begins_front comment_byte bs) (more (drop k bs) (omega (arith, length-drop k bs)) (at + 1 + length (take k bs))))
    by (inr e) (inr f) more =
        let p = here b bs e f in
        let t = p.0 in
        let k = p.1 in
        let h = p.2 in
        moved (ap (λ l. l ++ drop k bs) (sym h.bytes) ∙ ap (λ l. b ∷ l) (take-append-drop k bs)) (sym (from_here at b bs t k h))
        (a_token at t (drop k bs) _ h.proper h.whole (more (drop k bs) (omega (arith, length-drop k bs)) (at + length (spelled t))))

pub tokens_exact : TokensExact
unfolding tokens_from
tokens_exact text ts = (reads_from 0 text ts, λ e. moved refl e (from_reads (length text) text (omega arith) 0))
