-- What is found by its bytes: keywords and signs.
use Rattle.std.proofs.Common.{◌≡◌, ℕ, List, [], ◌∷◌, Some, None, refl, ap, ◌∙◌}
use mathlib.Core.Logic.{inl, inr}
use Rattle.std.proofs.lemmas.Bool.{cases_Bool}
use Rattle.std.specs.Str.{bytes_eq}
use Rattle.std.proofs.lemmas.Slice.Eq.{bytes_eq-Decides}
use Rattle.token.specs.Tokens.{Keyword, End, Let, Go, To, Of, Read, Print, If, Then, Else, Sign, Semicolon, Colon, Becomes, Plus, Minus, Times, Over, Open, Close, Comma, Greater, Equal, Less}
use Rattle.token.specs.Lexis.{find, spelling, reserved, characters, sign_of}
use Rattle.token.proofs.Pieces.{Way}

-- what is found is written so
pub found : {A : Type 0} (text : A → List ℕ) (xs : List A) (bytes : List ℕ) (x : A) → find text xs bytes ≡ Some x → bytes ≡ text x
found text [] bytes x e = absurd (cc)
found {A} text (y ∷ ys) bytes x e = by (cases_Bool (bytes_eq bytes (text y))) (found text ys bytes x) e
  where
    by : Way (bytes_eq bytes (text y)) → (find text ys bytes ≡ Some x → bytes ≡ text x) → find text (y ∷ ys) bytes ≡ Some x → bytes ≡ text x
    by (inl h) more e =
        let f : Some y ≡ Some x = rw h at e in
        let g : y ≡ x = cc in
        (bytes_eq-Decides bytes (text y)).0 h ∙ ap text g
    by (inr h) more e = more (rw h at e)

pub reserved_spelling : (k : Keyword) → reserved (spelling k) ≡ Some k
reserved_spelling End = refl
reserved_spelling Let = refl
reserved_spelling Go = refl
reserved_spelling To = refl
reserved_spelling Of = refl
reserved_spelling Read = refl
reserved_spelling Print = refl
reserved_spelling If = refl
reserved_spelling Then = refl
reserved_spelling Else = refl

pub not_reserved : (bytes : List ℕ) → reserved bytes ≡ None → (k : Keyword) → bytes ≡ spelling k → ⊥
not_reserved bytes e k h =
    let f : reserved bytes ≡ Some k = ap reserved h ∙ reserved_spelling k in
    cc

pub sign_of_characters : (s : Sign) (b : ℕ) → characters s ≡ b ∷ [] → sign_of b ≡ Some s
sign_of_characters Semicolon b e = let f : b ≡ 59 = cc in rw f
sign_of_characters Colon b e = let f : b ≡ 58 = cc in rw f
sign_of_characters Becomes b e = absurd (cc)
sign_of_characters Plus b e = let f : b ≡ 43 = cc in rw f
sign_of_characters Minus b e = let f : b ≡ 45 = cc in rw f
sign_of_characters Times b e = let f : b ≡ 42 = cc in rw f
sign_of_characters Over b e = let f : b ≡ 47 = cc in rw f
sign_of_characters Open b e = let f : b ≡ 40 = cc in rw f
sign_of_characters Close b e = let f : b ≡ 41 = cc in rw f
sign_of_characters Comma b e = let f : b ≡ 44 = cc in rw f
sign_of_characters Greater b e = let f : b ≡ 62 = cc in rw f
sign_of_characters Equal b e = let f : b ≡ 61 = cc in rw f
sign_of_characters Less b e = let f : b ≡ 60 = cc in rw f

pub not_sign : (b : ℕ) → sign_of b ≡ None → (s : Sign) → characters s ≡ b ∷ [] → ⊥
not_sign b e s h =
    let f = sign_of_characters s b h in
    cc
