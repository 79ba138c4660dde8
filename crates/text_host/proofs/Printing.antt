-- One mark more on the output: facts on plain lists.
use Rattle.std.proofs.Common.{rules, ◌≡◌, ℕ, suc, ◌+◌, ◌-◌, ◌^◌, ◌<◌, ◌≤◌, min, true, false, eqb, leb, List, [], ◌∷◌, ◌++◌, length, take, drop, set, ℤ, pos, negsuc, neg_ℤ, decimal, sym, refl, ap, ◌∙◌, subst, arith, length-append, length-drop, length-set, length-take-le, drop-drop, take-add, drop_at, le-leb}
use Rattle.std.proofs.lemmas.List.{take_more_set, drop-take, flat_map_more}
use Rattle.std.proofs.lemmas.List.Sums.{sum_by-cons, sum_by_push}
use Rattle.std.specs.Prelude.{sum}
use Rattle.std.proofs.lemmas.Str.Parse.{IsNumeralModel, numerals_by_fold}
use Rattle.std.proofs.lemmas.Int.{ints}
use Rattle.std.proofs.lemmas.Grind.{common_steps}
use Rattle.std.proofs.lemmas.Fmt.{decimal_nonempty, digits_decimal, digits_value-decimal}
use Rattle.std.proofs.lemmas.Bool.{and_parts}
use Rattle.std.proofs.lemmas.Bool.Decides.{nat_tests}
use Rattle.decimal.specs.Digits.{overwritten}
use Rattle.lines.specs.Form.{digit, all_digits, number_after, number_of}
use Rattle.host.specs.Meaning.{Printable, meaning, marked}
use Rattle.host.specs.Parts.{take_earlier}
use Rattle.host.specs.declared.mark.Mark.{Mark}
use Rattle.host.specs.declared.mark.Mark.TheVariants.{Number, LineEnd}
use Rattle.text_host.specs.Rendering.{mark_bytes, rendered, byte_weight, mark_of, marks_of}
use Rattle.text_host.specs.Texts.{text_light}

-- what `decimal` writes are digits, and their number is the number
own : IsNumeralModel (λ ds. all_digits ds ≡ true) number_of
own = numerals_by_fold _ (search rules) number_after (search rules)

-- bytes that are digits are a number
mark_digits : (ds : List ℕ) → all_digits ds ≡ true → 1 ≤ length ds → mark_of ds ≡ Number (pos (number_of ds))
mark_digits [] d h = absurd (omega arith)
mark_digits (b ∷ ds) d h =
    let p = (and_parts (digit b) (all_digits ds) d).0 in
    let e : eqb b 10 ≡ false = grind (arith, nat_tests) in
    let m : eqb b 45 ≡ false = grind (arith, nat_tests) in
    simp (e, m)

-- a mark is read back from its bytes
pub mark_back : (m : Mark) → Printable m → mark_of (mark_bytes m) ≡ m
mark_back (Number (pos n)) h =
    let f : n < 2 ^ 64 = omega (arith, ints, h.1) in
    mark_digits (decimal n) (digits_decimal own n f) (decimal_nonempty n f) ∙ ap (λ k. Number (pos k)) (digits_value-decimal own n f)
mark_back (Number (negsuc n)) h = let f : suc n < 2 ^ 64 = omega (arith, ints, h.0) in ap (λ k. Number (neg_ℤ (pos k))) (digits_value-decimal own (suc n) f)
mark_back LineEnd h = refl

marks_push : (ns : List ℕ) (n : ℕ) (out : List ℕ) → marks_of (ns ++ (n ∷ [])) out ≡ marks_of ns out ++ (mark_of (take n (drop (sum ns) out)) ∷ [])
marks_push [] n out = refl
marks_push (k ∷ ns) n out = simp (marks_push ns n (drop k out), drop-drop, sum_by-cons)

-- the marks stand in the first bytes alone
drop_agrees : (k t : ℕ) (xs ys : List ℕ) → take (k + t) xs ≡ take (k + t) ys → take t (drop k xs) ≡ take t (drop k ys)
drop_agrees k t xs ys e = sym (drop-take k t xs) ∙ ap (drop k) e ∙ drop-take k t ys

marks_same : (ns xs ys : List ℕ) → take (sum ns) xs ≡ take (sum ns) ys → marks_of ns xs ≡ marks_of ns ys
marks_same [] xs ys e = refl
marks_same (k ∷ ns) xs ys e =
    let c = subst (λ i. take i xs ≡ take i ys) (sum_by-cons (λ i. i) k ns) e in
    let h = ap mark_of (take_earlier k (k + sum ns) xs ys (omega arith) c) in
    let r = marks_same ns (drop k xs) (drop k ys) (drop_agrees k (sum ns) xs ys c) in
    simp (h, r)

-- bytes written behind the first w
pub over_front : (out : List ℕ) (w : ℕ) (bs : List ℕ) → w ≤ length out → take w (overwritten out w bs) ≡ take w out
over_front out w bs h = search (rules, common_steps)

over_back : (out : List ℕ) (w : ℕ) (bs : List ℕ) → w ≤ length out → drop w (overwritten out w bs) ≡ bs ++ drop (w + length bs) out
over_back out w bs h = search (rules, common_steps)

over_mark : (out : List ℕ) (w : ℕ) (bs : List ℕ) → w ≤ length out → take (length bs) (drop w (overwritten out w bs)) ≡ bs
over_mark out w bs h = rw over_back (search (rules, common_steps))

pub over_size : (out : List ℕ) (w : ℕ) (bs : List ℕ) → w + length bs ≤ length out → length (overwritten out w bs) ≡ length out
over_size out w bs h = simp (length-append, length-drop) (omega (arith, length-take-le w out (omega arith)))

pub over_beyond : (out : List ℕ) (w : ℕ) (bs : List ℕ) → w + length bs ≤ length out → drop (w + length bs) (overwritten out w bs) ≡ drop (w + length bs) out
over_beyond out w bs h =
    sym (drop-drop (length bs) w (overwritten out w bs)) ∙ ap (drop (length bs)) (over_back out w bs (omega arith)) ∙ drop_at bs (drop (w + length bs) out) (length bs) refl

-- the state of an output: the first w bytes are the text of the first k marks
pub record Holds (out : List ℕ) (w : ℕ) (lens : List ℕ) (k : ℕ) : Type 0 where
  pub room : w ≤ min (length out) (length lens)
  pub fewer : k ≤ w
  pub whole : sum (take k lens) ≡ w
  pub text : take w out ≡ rendered (marks_of (take k lens) out)

-- a mark more, which can be printed and for which there is paper
module _ (out lens : List ℕ) (w k : ℕ) (m : Mark) (h : Holds out w lens k) (can : Printable m) (fit : byte_weight m ≤ min (length out) (length lens) - w) where
  some : 1 ≤ byte_weight m
  some = (text_light m can).0

  inside : w ≤ length out
  inside = let r = h.room in omega (arith, r)

  pub fits_in : w + byte_weight m ≤ length out
  fits_in = let r = h.room in omega (arith, r, some, fit)

  pub low : k < length lens
  low = let r = h.room in let f = h.fewer in omega (arith, r, f, some, fit)

  module _ (new : List ℕ) (e : new ≡ overwritten out w (mark_bytes m)) where
    pub size : length new ≡ length out
    size = ap length e ∙ over_size out w (mark_bytes m) fits_in

    pub front : take w new ≡ take w out
    front = ap (take w) e ∙ over_front out w (mark_bytes m) inside

    pub beyond : (i : ℕ) → i ≡ w + byte_weight m → drop i new ≡ drop i out
    beyond i q = ap (λ j. drop j new) q ∙ ap (drop (w + byte_weight m)) e ∙ over_beyond out w (mark_bytes m) fits_in ∙ ap (λ j. drop j out) (sym q)

    same_marks : marks_of (take k lens) new ≡ marks_of (take k lens) out
    same_marks = marks_same (take k lens) new out (ap (λ n. take n new) h.whole ∙ front ∙ ap (λ n. take n out) (sym h.whole))

    -- before the lengths know of the mark, all holds as before
    pub between : Holds new w lens k
    between =
        record {
          room = let r = h.room in omega (arith, r, size);
          fewer = h.fewer;
          whole = h.whole;
          text = front ∙ h.text ∙ ap rendered (sym same_marks);
        }

    module _ (n w' : ℕ) (q : n ≡ byte_weight m) (q' : w' ≡ w + n) where
      behind : take n (drop w new) ≡ mark_bytes m
      behind = ap (λ l. take n (drop w l)) e ∙ ap (λ i. take i (drop w (overwritten out w (mark_bytes m)))) q ∙ over_mark out w (mark_bytes m) inside

      lens_front : take (k + 1) (set lens k n) ≡ take k lens ++ (n ∷ [])
      lens_front = take_more_set lens k n low

      more_marks : marks_of (take (k + 1) (set lens k n)) new ≡ marks_of (take k lens) out ++ (m ∷ [])
      more_marks = simp (lens_front, marks_push, same_marks, h.whole, behind, mark_back m can)

      pub after : Holds new w' (set lens k n) (k + 1)
      after =
          record {
            room = let r = h.room in let l = length-set lens k n in omega (arith, r, size, l, q, q', some, fit);
            fewer = let f = h.fewer in omega (arith, f, q, q', some);
            whole = ap sum lens_front ∙ sum_by_push (λ i. i) (take k lens) n ∙ ap (λ i. i + n) h.whole ∙ sym q';
            text = ap (λ i. take i new) q' ∙ take-add w n new ∙ simp (front, h.text, behind, more_marks) (flat_map_more mark_bytes [] (marks_of (take k lens) out) m);
          }

      pub meant : (ls : List ℤ) →
          meaning ls (marks_of (take (k + 1) (set lens k n)) new) (min (length new) (length (set lens k n)) - w')
          ≡ marked (byte_weight m) m (meaning ls (marks_of (take k lens) out) (min (length out) (length lens) - w))
      meant ls =
          let grown = length-set lens k n in
          let old : ℕ = min (length out) (length lens) - w in
          let paper : min (length new) (length (set lens k n)) - w' ≡ old - byte_weight m = omega (arith, size, grown, q, q') in
          let room : leb (byte_weight m) old ≡ true = le-leb (byte_weight m) old fit in
          simp (paper, more_marks, room)
