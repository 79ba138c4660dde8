-- How each name and each number of a list of tokens is used, by the tokens around it; and what the limits count.
-- A place in the list is given by the tokens before it, newest first (`past`), and those from it on (`rest`).
use Rattle.token.specs.declared.kinds.Keyword.TheVariants.{To, Of, If, Then, Else}
use Rattle.token.specs.declared.kinds.Sign.TheVariants.{Semicolon, Colon, Plus, Minus, Times, Over, Open, Close}
use Rattle.std.specs.Prelude.{ℕ, suc, pred, Bool, true, false, cond, not, ◌&&◌, ◌||◌, List, [], ◌∷◌, reverse, ℤ, pos, negsuc, ◌==◌}
use Rattle.std.proofs.Math.Option.{Option, none, some}
use Rattle.std.specs.Str.{bytes_eq}
use Rattle.token.specs.Tokens.{Token, name, number, keyword, sign, other}
use Rattle.token.specs.Numbers.{word}
use Rattle.arithmetic.specs.Words.{Words}
use Rattle.grammar.specs.Tests.{is, is_name, is_number, is_reserved}

pub data Role : Type 0 where
  -- a label before a command; after GO TO; in a list after OF
  definition : Role
  target : Role
  listed : Role
  variable_use : Role
  number_use : Role

pub record Use : Type 0 where
  pub role : Role
  pub spelling : List ℕ

abbrev pub made : Role → List ℕ → Use
made r s = record { role = r; spelling = s }

-- x stands in a list
pub data In {A : Type 0} (x : A) : List A → Type 0 where
  at_head : {xs : List A} → In x (x ∷ xs)
  in_tail : {y : A} {xs : List A} → In x xs → In x (y ∷ xs)

-- a command starts here: at the text's start and after ";", ":", THEN and ELSE
abbrev pub command_starts : List Token → Bool
command_starts [] = true
command_starts (t ∷ past) = is (sign Semicolon) t || (is (sign Colon) t || (is (keyword Then) t || is (keyword Else) t))

-- the last token is TO
abbrev pub after_to : List Token → Bool
after_to [] = false
after_to (t ∷ past) = is (keyword To) t

-- the last keyword is OF
abbrev pub after_of : List Token → Bool
after_of [] = false
after_of (t ∷ past) = cond (is_reserved t) (is (keyword Of) t) (after_of past)

-- OF comes next
abbrev pub before_of : List Token → Bool
before_of [] = false
before_of (t ∷ rest) = is (keyword Of) t

-- a name is a label at a command's start, after GO TO unless OF follows, and in a list after OF; else it is a variable
abbrev pub name_role : List Token → List Token → Role
name_role past after =
    cond (command_starts past) definition
    (cond (after_to past) (cond (before_of after) variable_use target)
    (cond (after_of past) listed variable_use))

-- the use of the token t between the tokens past and after
abbrev pub use_of : List Token → Token → List Token → Option Use
use_of past (name n) after = some (made (name_role past after) n)
use_of past (number n) after = some (made number_use n)
use_of past (keyword k) after = none
use_of past (sign s) after = none
use_of past (other b) after = none

abbrev pub use_at : List Token → List Token → Option Use
use_at past [] = none
use_at past (t ∷ after) = use_of past t after

abbrev pub with_use : Option Use → List Use → List Use
with_use none us = us
with_use (some u) us = u ∷ us

-- the uses among the tokens past, newest first
abbrev pub uses_before : List Token → List Token → List Use
uses_before [] rest = []
uses_before (t ∷ past) rest = with_use (use_of past t rest) (uses_before past (t ∷ rest))

-- all uses of a list of tokens, newest first
abbrev pub uses : List Token → List Use
uses ts = uses_before (reverse ts) []

-- Tests of roles.

abbrev pub is_literal : Role → Bool
is_literal definition = false
is_literal target = false
is_literal listed = false
is_literal variable_use = false
is_literal number_use = true

abbrev pub is_definition : Role → Bool
is_definition definition = true
is_definition target = false
is_definition listed = false
is_definition variable_use = false
is_definition number_use = false

abbrev pub is_listed : Role → Bool
is_listed definition = false
is_listed target = false
is_listed listed = true
is_listed variable_use = false
is_listed number_use = false

-- a label; else it has a cell
abbrev pub is_label : Role → Bool
is_label definition = true
is_label target = true
is_label listed = true
is_label variable_use = false
is_label number_use = false

-- What tells two symbols apart: a name's bytes, a number's word.

pub data Key : Type 0 where
  label_key : List ℕ → Key
  variable_key : List ℕ → Key
  number_key : ℤ → Key

abbrev pub same_word : ℤ → ℤ → Bool
same_word (pos m) (pos n) = m == n
same_word (pos m) (negsuc n) = false
same_word (negsuc m) (pos n) = false
same_word (negsuc m) (negsuc n) = m == n

abbrev pub same_key : Key → Key → Bool
same_key (label_key a) (label_key b) = bytes_eq a b
same_key (label_key a) (variable_key b) = false
same_key (label_key a) (number_key n) = false
same_key (variable_key a) (label_key b) = false
same_key (variable_key a) (variable_key b) = bytes_eq a b
same_key (variable_key a) (number_key n) = false
same_key (number_key m) (label_key b) = false
same_key (number_key m) (variable_key b) = false
same_key (number_key m) (number_key n) = same_word m n

abbrev pub key_by : Words → Role → List ℕ → Key
key_by w definition s = label_key s
key_by w target s = label_key s
key_by w listed s = label_key s
key_by w variable_use s = variable_key s
key_by w number_use s = number_key (word w s)

abbrev pub key : Words → Use → Key
key w u = key_by w u.role u.spelling

-- Counts over uses, newest first.

-- the symbol is among the uses
abbrev pub known : Words → Key → List Use → Bool
known w k [] = false
known w k (u ∷ us) = same_key k (key w u) || known w k us

abbrev pub count_if : Bool → ℕ → ℕ
count_if true n = suc n
count_if false n = n

-- the cells: distinct variables and distinct number words
abbrev pub cells : Words → List Use → ℕ
cells w [] = 0
cells w (u ∷ us) = count_if (not (is_label u.role) && not (known w (key w u) us)) (cells w us)

-- the distinct labels
abbrev pub labels : Words → List Use → ℕ
labels w [] = 0
labels w (u ∷ us) = count_if (is_label u.role && not (known w (key w u) us)) (labels w us)

-- Counts over the tokens past, newest first.

abbrev pub is_operator : Token → Bool
is_operator t = is (sign Plus) t || (is (sign Minus) t || (is (sign Times) t || is (sign Over) t))

-- a token that can stand inside an expression
abbrev pub in_expression : Token → Bool
in_expression t = is_name t || (is_number t || (is_operator t || (is (sign Open) t || is (sign Close) t)))

-- the operators of the whole expression so far
abbrev pub operators : List Token → ℕ
operators [] = 0
operators (t ∷ past) = cond (is_operator t) (suc (operators past)) (cond (in_expression t) (operators past) 0)

-- the parentheses that are open in the whole expression
abbrev pub depth : List Token → ℕ
depth [] = 0
depth (t ∷ past) =
    cond (is (sign Open) t) (suc (depth past)) (cond (is (sign Close) t) (pred (depth past)) (cond (in_expression t) (depth past) 0))

-- the parts of the IFs that are open, the innermost first: a THEN part, which ELSE ends, or an ELSE part,
-- which ends with the THEN part around it or with the whole command, at ";"
pub data Part : Type 0 where
  in_then : Part
  in_else : Part

abbrev pub after_else : List Part → List Part
after_else [] = []
after_else (in_then ∷ ps) = in_else ∷ ps
after_else (in_else ∷ ps) = after_else ps

abbrev pub parts : List Token → List Part
parts [] = []
parts (t ∷ past) =
    cond (is (keyword If) t) (in_then ∷ parts past)
    (cond (is (keyword Else) t) (after_else (parts past)) (cond (is (sign Semicolon) t) [] (parts past)))

-- the names since the last keyword
abbrev pub names : List Token → ℕ
names [] = 0
names (t ∷ past) = cond (is_reserved t) 0 (count_if (is_name t) (names past))
