-- Two lists that agree from a place on agree from each later one, and two that agree up to a place up to each earlier one.
use Rattle.std.specs.Prelude.{◌≡◌, ℕ, ◌+◌, ◌-◌, ◌≤◌, List, take, drop}
use Rattle.std.proofs.Common.{sym, ap, ◌∙◌, arith, take-take, drop-drop}

pub drop_later : {X : Type 0} (m n : ℕ) (xs ys : List X) → m ≤ n → drop m xs ≡ drop m ys → drop n xs ≡ drop n ys
drop_later m n xs ys h e =
    let s : n ≡ m + (n - m) = omega arith in
    ap (λ k. drop k xs) s ∙ sym (drop-drop (n - m) m xs) ∙ ap (drop (n - m)) e ∙ drop-drop (n - m) m ys ∙ ap (λ k. drop k ys) (sym s)

pub take_earlier : {X : Type 0} (m n : ℕ) (xs ys : List X) → m ≤ n → take n xs ≡ take n ys → take m xs ≡ take m ys
take_earlier m n xs ys h e = sym (take-take m n xs h) ∙ ap (take m) e ∙ take-take m n ys h
