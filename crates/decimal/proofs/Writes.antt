-- Digits written into bytes, from the last to the first.
use Rattle.std.proofs.Common.{◌≡◌, ℕ, zero, suc, ◌+◌, ◌-◌, ◌/◌, ◌%◌, ◌^◌, ◌<◌, ◌≤◌, Bool, true, false, cond, List, [], ◌∷◌, ◌++◌, length, take, drop, set, ℤ, pos, negsuc, nat_abs, sym, refl, ap, ◌∙◌, append_assoc, arith, le-leb, length-append, length-set, length-drop, length-take-le, drop-drop, drop-set-lt}
use borrow.Rule.Slice.PartMut.{put_mid}
use Rattle.std.proofs.lemmas.List.{drop-set, take_more_set}
use Rattle.std.proofs.lemmas.Fmt.{decimal_nonempty}
use Rattle.std.proofs.lemmas.Bool.Decides.{nat_tests}
use lib.Signed.{lt_z}
use Rattle.decimal.specs.Digits.{decimal, signed, last_digits, overwritten, written}
use Rattle.decimal.proofs.Lasts.{all_digits}

length_last : (k n : ℕ) → length (last_digits k n) ≡ k
unfolding last_digits
length_last zero n = refl
length_last (suc k) n = length-append (last_digits k (n / 10)) ((48 + n % 10) ∷ []) ∙ omega (arith, length_last k (n / 10))

-- the last of the digits that are still to be written is written
pub turn : (out : List ℕ) (place n : ℕ) → 0 < place → place ≤ length out →
    last_digits place n ++ drop place out ≡ last_digits (place - 1) (n / 10) ++ drop (place - 1) (set out (place - 1) (48 + n % 10))
unfolding last_digits
turn out zero n lo hi = absurd (omega arith)
turn out (suc p) n lo hi =
    let v : ℕ = 48 + n % 10 in
    let e : suc p - 1 ≡ p = omega arith in
    let i : p + 1 ≡ suc p = omega arith in
    let back : drop p (set out p v) ≡ v ∷ drop (suc p) out = drop-set out p v (omega arith) ∙ ap (λ i. v ∷ drop i out) i in
    append_assoc (last_digits p (n / 10)) (v ∷ []) (drop (suc p) out) ∙
    ap (λ b. last_digits p (n / 10) ++ b) (sym back) ∙
    ap (λ q. last_digits q (n / 10) ++ drop q (set out q v)) (sym e)

-- a part of the bytes is filled with digits
pub filled : (out new : List ℕ) (a k j m : ℕ) → j ≡ k → a + k ≤ length out → new ≡ last_digits (length (take j (drop a out))) m →
    put_mid a j out new ≡ overwritten out a (last_digits k m)
filled out new a k j m e h d =
    let r = length-drop a out in
    let l : length (take j (drop a out)) ≡ k = length-take-le j (drop a out) (omega (arith, e, h, r)) ∙ e in
    let n : new ≡ last_digits k m = d ∙ ap (λ i. last_digits i m) l in
    let p : drop j (drop a out) ≡ drop (a + length (last_digits k m)) out = drop-drop j a out ∙ ap (λ i. drop i out) (omega (arith, e, length_last k m)) in
    ap (λ ys. take a out ++ (ys ++ drop j (drop a out))) n ∙ ap (λ ds. take a out ++ (last_digits k m ++ ds)) p

-- a number's sign tells how it is written
signed_below : (z : ℤ) → lt_z z (pos 0) ≡ true → signed z ≡ 45 ∷ decimal (nat_abs z)
signed_below (pos n) h = absurd (grind (arith, nat_tests))
signed_below (negsuc n) h = refl

signed_from : (z : ℤ) → lt_z z (pos 0) ≡ false → signed z ≡ decimal (nat_abs z)
signed_from (pos n) h = refl
signed_from (negsuc n) h = let z : ◌≡◌ {A = Bool} true false = h in absurd (grind arith)

-- a byte, and then the others
overwritten_cons : (out : List ℕ) (start b : ℕ) (bs : List ℕ) → start < length out →
    overwritten (set out start b) (start + 1) bs ≡ overwritten out start (b ∷ bs)
overwritten_cons out start b bs h =
    let new : List ℕ = set out start b in
    let n : ℕ = length bs in
    let front : take (start + 1) new ≡ take start out ++ (b ∷ []) = take_more_set out start b h in
    let back : drop (start + 1 + n) new ≡ drop (start + suc n) out = drop-set-lt (start + 1 + n) out start b (omega arith) ∙ ap (λ i. drop i out) (omega arith) in
    ap (λ f. f ++ (bs ++ drop (start + 1 + n) new)) front ∙
    ap (λ d. (take start out ++ (b ∷ [])) ++ (bs ++ d)) back ∙
    append_assoc (take start out) (b ∷ []) (bs ++ drop (start + suc n) out)

-- the last digits of a number, as many as it has, are its decimal
all_last : (k n : ℕ) → n < 2 ^ 64 → k ≡ length (decimal n) → last_digits k n ≡ decimal n
all_last zero n f e = absurd (omega (arith, e, decimal_nonempty n f))
all_last (suc k) n f e = all_digits k n f (sym e)

fits_written : (out bs : List ℕ) (start : ℕ) → start + length bs ≤ length out → written out start bs ≡ overwritten out start bs
fits_written out bs start h = ap (λ b. cond b (overwritten out start bs) out) (le-leb (start + length bs) (length out) h)

-- a number is written by its sign, if it has one, and its digits
pub written_below : (out new : List ℕ) (start width j m : ℕ) (z : ℤ) → lt_z z (pos 0) ≡ true → m ≡ nat_abs z → m < 2 ^ 64 → width ≡ length (signed z) → start + width ≤ length out →
    j ≡ start + width - (start + 1) → new ≡ last_digits (length (take j (drop (start + 1) (set out start 45)))) m →
    put_mid (start + 1) j (set out start 45) new ≡ written out start (signed z)
written_below out new start width j m z t a f w h q d =
    let s = signed_below z t in
    let l = ap length s in
    let r = length-set out start 45 in
    let digits : last_digits (width - 1) m ≡ decimal (nat_abs z) = all_last (width - 1) m f (omega (arith, w, l, ap (λ k. length (decimal k)) a)) ∙ ap decimal a in
    filled (set out start 45) new (start + 1) (width - 1) j m (omega (arith, q)) (omega (arith, w, l, r)) d ∙
    ap (overwritten (set out start 45) (start + 1)) digits ∙
    overwritten_cons out start 45 (decimal (nat_abs z)) (omega (arith, w, l)) ∙
    sym (fits_written out (signed z) start (omega (arith, w)) ∙ ap (overwritten out start) s)

pub written_from : (out new : List ℕ) (start width j m : ℕ) (z : ℤ) → lt_z z (pos 0) ≡ false → m ≡ nat_abs z → m < 2 ^ 64 → width ≡ length (signed z) → start + width ≤ length out →
    j ≡ start + width - start → new ≡ last_digits (length (take j (drop start out))) m → put_mid start j out new ≡ written out start (signed z)
written_from out new start width j m z t a f w h q d =
    let s = signed_from z t in
    let digits : last_digits width m ≡ decimal (nat_abs z) = all_last width m f (w ∙ ap length s ∙ ap (λ k. length (decimal k)) (sym a)) ∙ ap decimal a in
    filled out new start width j m (omega (arith, q)) h d ∙
    ap (overwritten out start) digits ∙
    sym (fits_written out (signed z) start (omega (arith, w)) ∙ ap (overwritten out start) s)

pub ruleset written_by_sign = (written_below, written_from)
