-- The tokens of a text.
use Rattle.std.specs.Prelude.{ℕ, zero, suc, Bool, false, cond, not, ◌&&◌, ◌||◌, List, [], ◌∷◌, take, Some, None, codes, Option, ◌==◌, nat_le}
use Rattle.std.specs.Str.{bytes_eq}
use Rattle.token.specs.Tokens.{Token, name, number, keyword, sign, other, Placed, Keyword, End, Let, Go, To, Of, Read, Print, If, Then, Else, Sign, Semicolon, Colon, Becomes, Plus, Minus, Times, Over, Open, Close, Comma, Greater, Equal, Less}

-- the blank and the line end part tokens
abbrev pub blank : ℕ → Bool
blank b = b == 32 || b == 10

-- capital letters
abbrev pub letter : ℕ → Bool
letter b = nat_le 65 b && nat_le b 90

abbrev pub digit : ℕ → Bool
digit b = nat_le 48 b && nat_le b 57

-- what goes on a name
abbrev pub alphanumeric : ℕ → Bool
alphanumeric b = letter b || digit b

-- what goes on a comment: all but the line end
abbrev pub comment_byte : ℕ → Bool
comment_byte b = not (b == 10)

-- what makes one token of a ":" before it
abbrev pub equals : ℕ → Bool
equals b = b == 61

-- how many bytes pass a test, up to the first that does not
abbrev pub front : (ℕ → Bool) → List ℕ → ℕ
front test [] = 0
front test (b ∷ bs) = cond (test b) (suc (front test bs)) 0

-- the next byte passes a test
abbrev pub begins : (ℕ → Bool) → List ℕ → Bool
begins test [] = false
begins test (b ∷ bs) = test b

-- the reserved names
abbrev pub spelling : Keyword → List ℕ
spelling End = codes "END"
spelling Let = codes "LET"
spelling Go = codes "GO"
spelling To = codes "TO"
spelling Of = codes "OF"
spelling Read = codes "READ"
spelling Print = codes "PRINT"
spelling If = codes "IF"
spelling Then = codes "THEN"
spelling Else = codes "ELSE"

-- the first of some things that is written so, if there is one
abbrev pub find : {A : Type 0} → (A → List ℕ) → List A → List ℕ → Option A
find text [] bytes = None
find text (x ∷ xs) bytes = cond (bytes_eq bytes (text x)) (Some x) (find text xs bytes)

abbrev pub keywords : List Keyword
keywords = End ∷ Let ∷ Go ∷ To ∷ Of ∷ Read ∷ Print ∷ If ∷ Then ∷ Else ∷ []

-- the keyword that is spelled so, if there is one
abbrev pub reserved : List ℕ → Option Keyword
reserved bytes = find spelling keywords bytes

-- a name's token
abbrev pub keyword_or_name : List ℕ → Option Keyword → Token
keyword_or_name bytes (Some k) = keyword k
keyword_or_name bytes None = name bytes

abbrev pub named : List ℕ → Token
named bytes = keyword_or_name bytes (reserved bytes)

-- each sign by its characters
abbrev pub characters : Sign → List ℕ
characters Semicolon = codes ";"
characters Colon = codes ":"
characters Becomes = codes ":="
characters Plus = codes "+"
characters Minus = codes "-"
characters Times = codes "*"
characters Over = codes "/"
characters Open = codes "("
characters Close = codes ")"
characters Comma = codes ","
characters Greater = codes ">"
characters Equal = codes "="
characters Less = codes "<"

-- the signs of one character
abbrev pub single_signs : List Sign
single_signs = Semicolon ∷ Colon ∷ Plus ∷ Minus ∷ Times ∷ Over ∷ Open ∷ Close ∷ Comma ∷ Greater ∷ Equal ∷ Less ∷ []

-- the sign that a byte is alone, if it is one
abbrev pub sign_of : ℕ → Option Sign
sign_of b = find characters single_signs (b ∷ [])

-- a byte that starts no name, number or comment: a sign, or a byte that stands in no program
abbrev pub sign_or_other : ℕ → Option Sign → Token
sign_or_other b (Some s) = sign s
sign_or_other b None = other b

abbrev pub lone : ℕ → Token
lone b = sign_or_other b (sign_of b)

-- a stretch of the text: its token, if it is one, and how many bytes it has after its first
pub record Piece : Type 0 where
  pub token : Option Token
  pub more : ℕ

abbrev pub gap : ℕ → Piece
gap more = record { token = None; more = more }

abbrev pub one : Token → ℕ → Piece
one token more = record { token = Some token; more = more }

-- the piece that starts with the byte b, before the bytes bs ("%" is 37, ":" is 58):
-- a blank; "%" with all up to the line end; a letter with all letters and digits that follow; a digit with all digits that follow;
-- ":" with "=" right after it; any other byte alone
abbrev pub piece : ℕ → List ℕ → Piece
piece b bs =
    cond (blank b) (gap 0) (
    cond (b == 37) (gap (front comment_byte bs)) (
    cond (letter b) (one (named (b ∷ take (front alphanumeric bs) bs)) (front alphanumeric bs)) (
    cond (digit b) (one (number (b ∷ take (front digit bs) bs)) (front digit bs)) (
    cond (b == 58 && begins equals bs) (one (sign Becomes) 1) (one (lone b) 0)))))

abbrev pub placed : ℕ → Option Token → List Placed → List Placed
placed at None ts = ts
placed at (Some t) ts = record { offset = at; token = t } ∷ ts

-- the tokens of the bytes from the offset `at` on, of which the first `skip` belong to a piece before
abbrev pub from : (skip at : ℕ) → List ℕ → List Placed
from skip at [] = []
from (suc skip) at (b ∷ bs) = from skip (suc at) bs
from zero at (b ∷ bs) = placed at (piece b bs).token (from (piece b bs).more (suc at) bs)

-- the tokens of the bytes from an offset on
unfoldable pub tokens_from : ℕ → List ℕ → List Placed
tokens_from at bytes = from 0 at bytes

-- the tokens of a text, with their offsets
abbrev pub tokens : List ℕ → List Placed
tokens text = tokens_from 0 text
