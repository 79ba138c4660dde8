-- The refusal of a text, computed.
use Rattle.token.specs.declared.kinds.Keyword.TheVariants.{If}
use Rattle.token.specs.declared.kinds.Sign.TheVariants.{Open}
use Rattle.std.specs.Prelude.{ℕ, Bool, true, false, cond, not, ◌&&◌, ◌||◌, List, [], ◌∷◌, length, ◌==◌, nat_le, nat_lt}
use Rattle.std.proofs.Math.Option.{Option, none, some}
use Rattle.std.specs.Str.{bytes_eq}
use Rattle.token.specs.Tokens.{Token, keyword, sign, Placed}
use Rattle.token.specs.Lexis.{tokens}
use Rattle.trees.specs.Trees.{Program}
use Rattle.arithmetic.specs.Words.{Words}
use Rattle.grammar.specs.Tests.{is}
use Rattle.grammar.specs.Machine.{parse}
use Rattle.grammar.specs.Recogniser.{first_fault}
use Rattle.limits.specs.Uses.{Role, Use, use_at, uses_before, uses, is_literal, is_definition, is_listed, is_label, key_by, known, cells, labels, is_operator, operators, depth, parts, names}
use Rattle.limits.specs.Rules.{text_limit, name_limit, cell_limit, label_limit, operator_limit, depth_limit, list_limit, code_limit, here, past, rest, tokens_of, Refused}

-- a refusal's number, and whether it stands
pub data Check : Type 0 where
  check : ℕ → Bool → Check

-- the first that stands
abbrev pub lowest : List Check → Option ℕ
lowest [] = none
lowest (check n b ∷ cs) = cond b (some n) (lowest cs)

abbrev pub or_else : {A : Type 0} → Option A → Option A → Option A
or_else none y = y
or_else (some x) y = some x

-- a name is among the uses, in a role that passes a test
abbrev pub among : (Role → Bool) → List ℕ → List Use → Bool
among test s [] = false
among test s (u ∷ us) = (test u.role && bytes_eq s u.spelling) || among test s us

abbrev pub unlike : Bool → Bool → Bool
unlike true b = not b
unlike false b = b

-- one is a label's role and the other a variable's
abbrev pub differ : Role → Role → Bool
differ r q = not (is_literal r) && (not (is_literal q) && unlike (is_label r) (is_label q))

-- there is a use, and it passes a test
abbrev pub used_so : (Role → List ℕ → Bool) → Option Use → Bool
used_so test none = false
used_so test (some u) = test u.role u.spelling

-- the first fault is at the index k
abbrev pub fault_at : Option ℕ → ℕ → Bool
fault_at none k = false
fault_at (some j) k = j == k

-- the refusals 4 to 11 after the tokens past, by number: at the use u, after the uses us
abbrev pub limit_checks_at : Words → List Token → List Token → List Use → Option Use → List Check
limit_checks_at w past rest us u =
    check 4 (used_so (λ r s. not (is_literal r) && nat_lt name_limit (length s)) u)
    ∷ check 5 (used_so (λ r s. is_definition r && among is_definition s us) u)
    ∷ check 6 (used_so (λ r s. among (differ r) s us) u)
    ∷ check 7 (used_so (λ r s. not (is_label r) && (not (known w (key_by w r s) us) && nat_le cell_limit (cells w us))) u)
    ∷ check 8 (used_so (λ r s. is_label r && (not (known w (key_by w r s) us) && nat_le label_limit (labels w us))) u)
    ∷ check 9 (here is_operator rest && nat_le operator_limit (operators past))
    ∷ check 10 (here (is (sign Open)) rest && nat_le depth_limit (depth past))
    ∷ check 10 (here (is (keyword If)) rest && nat_le depth_limit (length (parts past)))
    ∷ check 11 (used_so (λ r s. is_listed r && nat_le list_limit (names past)) u)
    ∷ []

abbrev pub limit_checks : Words → List Token → List Token → List Check
limit_checks w past rest = limit_checks_at w past rest (uses_before past rest) (use_at past rest)

-- with refusal 3, where f is the index of the first fault
abbrev pub checks : Words → Option ℕ → List Token → List Token → List Check
checks w f past rest = check 3 (fault_at f (length past)) ∷ limit_checks w past rest

abbrev pub refused : Option ℕ → ℕ → Option Refused
refused none p = none
refused (some n) p = some (record { number = n; place = p })

-- the first refusal of 3 to 11 after the tokens past
abbrev pub first_refusal : Words → Option ℕ → ℕ → List Token → List Placed → Option Refused
first_refusal w f n past [] = refused (lowest (checks w f past [])) n
first_refusal w f n past (p ∷ ps) =
    or_else (refused (lowest (checks w f past (p.token ∷ tokens_of ps))) p.offset) (first_refusal w f n (p.token ∷ past) ps)

-- a label that is not among the definitions
abbrev pub unmet : List Use → Option Use → Option ℕ
unmet us none = none
unmet us (some u) = cond (is_label u.role && not (among is_definition u.spelling us)) (some 12) none

abbrev pub first_unmet : List Use → List Token → List Placed → Option Refused
first_unmet us past [] = none
first_unmet us past (p ∷ ps) =
    or_else (refused (unmet us (use_at past (p.token ∷ tokens_of ps))) p.offset) (first_unmet us (p.token ∷ past) ps)

abbrev pub over_code : (Program → ℕ) → Option Program → Option Refused
over_code size none = none
over_code size (some p) = cond (nat_lt code_limit (size p)) (some (record { number = 13; place = 0 })) none

abbrev pub refusal : Words → (Program → ℕ) → ℕ → List Placed → Option Refused
refusal w size n ts =
    cond (nat_lt text_limit n) (some (record { number = 2; place = 0 }))
    (or_else (first_refusal w (first_fault (tokens_of ts)) n [] ts)
    (or_else (first_unmet (uses (tokens_of ts)) [] ts) (over_code size (parse (tokens_of ts)))))

-- which refusal a text gets, if any
abbrev pub text_refusal : Words → (Program → ℕ) → List ℕ → Option Refused
text_refusal w size text = refusal w size (length text) (tokens text)
