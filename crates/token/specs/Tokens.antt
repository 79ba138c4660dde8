-- Tokens as plain data.
use Rattle.std.specs.Prelude.{ℕ, List}
pub use Rattle.token.specs.declared.kinds.Keyword.{Keyword}
pub use Rattle.token.specs.declared.kinds.Keyword.TheVariants.{End, Let, Go, To, Of, Read, Print, If, Then, Else}
pub use Rattle.token.specs.declared.kinds.Sign.{Sign}
pub use Rattle.token.specs.declared.kinds.Sign.TheVariants.{Semicolon, Colon, Becomes, Plus, Minus, Times, Over, Open, Close, Comma, Greater, Equal, Less}

pub data Token : Type 0 where
  -- a name that is not reserved, by its bytes
  name : List ℕ → Token
  -- a number, by its digits
  number : List ℕ → Token
  -- a reserved name
  keyword : Keyword → Token
  sign : Sign → Token
  -- a byte that stands in no program
  other : ℕ → Token

-- a token with the offset of its first byte
pub record Placed : Type 0 where
  pub offset : ℕ
  pub token : Token
