-- Beginnings of lawful texts: exactly those whose bytes lead to some stage.
use Rattle.std.proofs.Common.{◌≡◌, ℕ, zero, suc, true, false, List, [], ◌∷◌, ◌++◌, Some, None, Option, sym, refl, ap, ◌∙◌, arith}
use Rattle.std.proofs.lemmas.Bool.{false≢true}
use Rattle.lines.specs.Reading.{Stage, Start, Digits, moved, ends, at_start, lawful_from, numbers}
use Rattle.lines.specs.Checking.{Begins}
use Rattle.lines.proofs.Bytes.{at_end}
use Rattle.lines.proofs.Forms.{lines_read, from_start}

pub ends_append : (s : Option Stage) (xs ys : List ℕ) → ends s (xs ++ ys) ≡ ends (ends s xs) ys
ends_append None [] ys = refl
ends_append None (x ∷ xs) ys = refl
ends_append (Some s) [] ys = refl
ends_append (Some s) (x ∷ xs) ys = ends_append (moved s x) xs ys

-- from each stage some bytes end the line
finish : Stage → List ℕ
finish Start = []
finish (Digits zero) = 48 ∷ 10 ∷ []
finish (Digits (suc k)) = 10 ∷ []

finishes : (s : Stage) → at_start (ends (Some s) (finish s)) ≡ true
unfolding finish
finishes Start = refl
finishes (Digits zero) = refl
finishes (Digits (suc k)) = ap (λ o. at_start (ends o [])) (at_end (suc k) (omega arith))

pub begins : (t : List ℕ) (s : Stage) → ends (Some Start) t ≡ Some s → Begins t
begins t s e =
    let law : lawful_from Start (t ++ finish s) ≡ true = ap at_start (ends_append (Some Start) t (finish s)) ∙ ap (λ o. at_start (ends o (finish s))) e ∙ finishes s in
    (finish s, numbers false 0 (t ++ finish s), from_start (t ++ finish s) law)

pub never_begins : (t : List ℕ) → ends (Some Start) t ≡ None → Begins t → ⊥
never_begins t e b =
    false≢true (ap (λ o. at_start (ends o b.0)) (sym e) ∙ ap at_start (sym (ends_append (Some Start) t b.0)) ∙ (lines_read b.2).0)
