-- How a text reads as tokens, as a relation: the rules of the language, told apart from how tokens are found.
use Rattle.std.specs.Prelude.{◌≡◌, ℕ, ◌+◌, ◌≤◌, true, false, ◌↔◌, List, [], ◌∷◌, ◌++◌, length, take, drop, ◌≢◌, nat_eq}
use Rattle.token.specs.Tokens.{Token, name, number, keyword, sign, other, Placed, Keyword, Sign, Colon}
use Rattle.token.specs.Lexis.{blank, letter, digit, alphanumeric, comment_byte, equals, begins, spelling, characters, tokens}
use Rattle.token.specs.Numbers.{every}

-- the bytes of a token
abbrev pub spelled : Token → List ℕ
spelled (name bytes) = bytes
spelled (number digits) = digits
spelled (keyword k) = spelling k
spelled (sign s) = characters s
spelled (other b) = b ∷ []

-- a byte that stands in no program
pub record Foreign (b : ℕ) : Type 0 where
  pub not_blank : blank b ≡ false
  pub not_comment : nat_eq b 37 ≡ false
  pub not_letter : letter b ≡ false
  pub not_digit : digit b ≡ false
  pub not_sign : (s : Sign) → characters s ≢ b ∷ []

-- the tokens that there are: a name is a capital letter with capital letters and digits, and not reserved; a number is one or more digits
abbrev pub Proper : Token → Type 0
Proper (name bytes) = (begins letter bytes ≡ true) × (every alphanumeric bytes ≡ true) × ((k : Keyword) → bytes ≢ spelling k)
Proper (number digits) = (begins digit digits ≡ true) × (every digit digits ≡ true)
Proper (keyword k) = Unit {0}
Proper (sign s) = Unit {0}
Proper (other b) = Foreign b

-- a token is as long as it can be: none of the bytes that would go on it comes next
abbrev pub Whole : Token → List ℕ → Type 0
Whole (name bytes) rest = begins alphanumeric rest ≡ false
Whole (number digits) rest = begins digit rest ≡ false
Whole (keyword k) rest = begins alphanumeric rest ≡ false
Whole (sign s) rest = s ≡ Colon → begins equals rest ≡ false
Whole (other b) rest = Unit {0}

-- the bytes from an offset on read as tokens
pub data Reads : ℕ → List ℕ → List Placed → Type 0 where
  -- no bytes, no tokens
  the_end : (at : ℕ) → Reads at [] []
  -- a blank or a line end is no token
  a_blank : (at b : ℕ) (rest : List ℕ) (ts : List Placed) → blank b ≡ true → Reads (at + 1) rest ts → Reads at (b ∷ rest) ts
  -- nor are "%", byte 37, and what follows it, up to a line end or the end of the text
  a_comment : (at : ℕ) (inner rest : List ℕ) (ts : List Placed) → every comment_byte inner ≡ true → begins comment_byte rest ≡ false →
      Reads (at + 1 + length inner) rest ts → Reads at (37 ∷ (inner ++ rest)) ts
  -- a token, whole
  a_token : (at : ℕ) (t : Token) (rest : List ℕ) (ts : List Placed) → Proper t → Whole t rest →
      Reads (at + length (spelled t)) rest ts → Reads at (spelled t ++ rest) (record { offset = at; token = t } ∷ ts)

-- every text reads as tokens in exactly one way, and these are its tokens
abbrev pub TokensExact : Type 0
TokensExact = (text : List ℕ) (ts : List Placed) → Reads 0 text ts ↔ (tokens text ≡ ts)

-- a token stands in a text at an offset
pub record Stands (text : List ℕ) (at : ℕ) (t : Token) : Type 0 where
  pub proper : Proper t
  pub some : 1 ≤ length (spelled t)
  pub within : at + length (spelled t) ≤ length text
  pub bytes : take (length (spelled t)) (drop at text) ≡ spelled t
