-- Tests of a token: is it a given keyword or sign, a name, a number?
use Rattle.token.specs.declared.kinds.Keyword.{Keyword}
use Rattle.token.specs.declared.kinds.Keyword.TheVariants.{End, Let, Go, To, Of, Read, Print, If, Then, Else}
use Rattle.token.specs.declared.kinds.Sign.{Sign}
use Rattle.token.specs.declared.kinds.Sign.TheVariants.{Semicolon, Colon, Becomes, Plus, Minus, Times, Over, Open, Close, Comma, Greater, Equal, Less}
use Rattle.std.specs.Prelude.{ℕ, Bool, true, false, List, [], ◌==◌}
use Rattle.token.specs.Tokens.{Token, name, number, keyword, sign, other}

-- a number for each keyword and each sign, by which they are told apart
abbrev pub keyword_code : Keyword → ℕ
keyword_code End = 0
keyword_code Let = 1
keyword_code Go = 2
keyword_code To = 3
keyword_code Of = 4
keyword_code Read = 5
keyword_code Print = 6
keyword_code If = 7
keyword_code Then = 8
keyword_code Else = 9

abbrev pub sign_code : Sign → ℕ
sign_code Semicolon = 0
sign_code Colon = 1
sign_code Becomes = 2
sign_code Plus = 3
sign_code Minus = 4
sign_code Times = 5
sign_code Over = 6
sign_code Open = 7
sign_code Close = 8
sign_code Comma = 9
sign_code Greater = 10
sign_code Equal = 11
sign_code Less = 12

abbrev pub is_keyword : Keyword → Token → Bool
is_keyword k (name n) = false
is_keyword k (number n) = false
is_keyword k (keyword j) = keyword_code k == keyword_code j
is_keyword k (sign s) = false
is_keyword k (other b) = false

abbrev pub is_sign : Sign → Token → Bool
is_sign s (name n) = false
is_sign s (number n) = false
is_sign s (keyword k) = false
is_sign s (sign r) = sign_code s == sign_code r
is_sign s (other b) = false

-- `is w t`: w is a keyword or a sign, and t is the same one
abbrev pub is : Token → Token → Bool
is (name n) t = false
is (number n) t = false
is (keyword k) t = is_keyword k t
is (sign s) t = is_sign s t
is (other b) t = false

abbrev pub is_name : Token → Bool
is_name (name n) = true
is_name (number n) = false
is_name (keyword k) = false
is_name (sign s) = false
is_name (other b) = false

abbrev pub is_number : Token → Bool
is_number (name n) = false
is_number (number n) = true
is_number (keyword k) = false
is_number (sign s) = false
is_number (other b) = false

-- the bytes of a name or a number
abbrev pub spelling : Token → List ℕ
spelling (name n) = n
spelling (number n) = n
spelling (keyword k) = []
spelling (sign s) = []
spelling (other b) = []

-- any keyword
abbrev pub is_reserved : Token → Bool
is_reserved (name n) = false
is_reserved (number n) = false
is_reserved (keyword k) = true
is_reserved (sign s) = false
is_reserved (other b) = false
