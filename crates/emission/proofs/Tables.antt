-- The table by letters says what the rows say.
use Rattle.std.proofs.Common.{◌≡◌, ℕ, zero, suc, ◌-◌, ◌<◌, ◌≤◌, List, [], ◌∷◌, ◌++◌, map, length, get_or, min, inl, inr, sym, refl, ap, ◌∙◌, arith}
use lib.ListN.{length-map}
use Rattle.std.proofs.lemmas.List.{get_or-map, get_or_past}
use Rattle.std.proofs.lemmas.Bool.{cases_lt}
use Rattle.token.specs.Tokens.{Token, name, number, keyword, sign, other}
use Rattle.token.specs.declared.kinds.Keyword.{Keyword}
use Rattle.token.specs.declared.kinds.Keyword.TheVariants as keyword_of
use Rattle.token.specs.declared.kinds.Sign.{Sign}
use Rattle.token.specs.declared.kinds.Sign.TheVariants as sign_of
use Rattle.emission.specs.Table.{State, Move, refuse, move}
use Rattle.emission.specs.Classes.{class, samples, class_move, state_number, all_moves, letters}

abbrev classes : List Token
classes = samples ++ (other 0 ∷ [])

abbrev pub by_letter : ℕ → Move
by_letter i = get_or all_moves (i - 46) refuse

row : State → List ℕ
row s = get_or letters (state_number s) []

rows_right : (s : State) → map by_letter (row s) ≡ map (move s) classes
unfolding letters row
rows_right s = grind arith

row_length : (s : State) → length (row s) ≡ 26
row_length s = sym (length-map (row s) by_letter) ∙ ap length (rows_right s)

class_at : (ts : List Token) (c : ℕ) → get_or (ts ++ (other 0 ∷ [])) c (other 0) ≡ get_or ts c (other 0)
class_at [] zero = refl
class_at [] (suc c) = refl
class_at (t ∷ ts) zero = refl
class_at (t ∷ ts) (suc c) = class_at ts c

pub entry_right : (s : State) (c : ℕ) → c < 26 → by_letter (get_or (get_or letters (state_number s) []) c 0) ≡ class_move s c
unfolding row
entry_right s c h =
    let l : c < length (row s) = omega (arith, row_length s) in
    sym (get_or-map by_letter (row s) c 0 (by_letter 0) l)
    ∙ ap (λ (m : List Move). get_or m c (by_letter 0)) (rows_right s)
    ∙ get_or-map (move s) classes c (other 0) (by_letter 0) h
    ∙ ap (move s) (class_at samples c)

-- a class above 25 is as 25
pub as_25 : (s : State) (c : ℕ) → class_move s (min c 25) ≡ class_move s c
as_25 s c =
    elim (cases_lt c 26) [
      | inl h ↦ let m : min c 25 ≡ c = omega arith in ap (class_move s) m
      | inr h ↦
          let m : min c 25 ≡ 25 = omega arith in
          let l : 25 ≤ c = omega arith in
          ap (class_move s) m ∙ ap (move s) (sym (get_or_past samples c (other 0) l))
    ]

pub entry_at : (s : State) (c : ℕ) → by_letter (get_or (get_or letters (state_number s) []) (min c 25) 0) ≡ class_move s c
entry_at s c = entry_right s (min c 25) (omega arith) ∙ as_25 s c

-- A move depends on the token's class alone.
any_token : (s : State) (n : List ℕ) (b : ℕ) →
    (move s (name n) ≡ move s (name [])) × (move s (number n) ≡ move s (number [])) × (move s (other b) ≡ move s (other 0))
any_token s n b = grind arith

keyword_class : (k : Keyword) → get_or samples (class (keyword k)) (other 0) ≡ keyword k
keyword_class keyword_of.End = refl
keyword_class keyword_of.Let = refl
keyword_class keyword_of.Go = refl
keyword_class keyword_of.To = refl
keyword_class keyword_of.Of = refl
keyword_class keyword_of.Read = refl
keyword_class keyword_of.Print = refl
keyword_class keyword_of.If = refl
keyword_class keyword_of.Then = refl
keyword_class keyword_of.Else = refl

sign_class : (r : Sign) → get_or samples (class (sign r)) (other 0) ≡ sign r
sign_class sign_of.Semicolon = refl
sign_class sign_of.Colon = refl
sign_class sign_of.Becomes = refl
sign_class sign_of.Plus = refl
sign_class sign_of.Minus = refl
sign_class sign_of.Times = refl
sign_class sign_of.Over = refl
sign_class sign_of.Open = refl
sign_class sign_of.Close = refl
sign_class sign_of.Comma = refl
sign_class sign_of.Greater = refl
sign_class sign_of.Equal = refl
sign_class sign_of.Less = refl

pub by_class : (s : State) (t : Token) → class_move s (class t) ≡ move s t
by_class s (name n) = sym ((any_token s n 0).0)
by_class s (number n) = sym ((any_token s n 0).1)
by_class s (keyword k) = ap (move s) (keyword_class k)
by_class s (sign r) = ap (move s) (sign_class r)
by_class s (other b) = sym ((any_token s [] b).2)
