-- What the code's tokens and the lexer mean.
use Rattle.std.specs.Prelude.{◌≡◌, ℕ, ◌+◌, ◌≤◌, List, [], ◌∷◌, length, drop, Some, None, Option}
use Rattle.token.specs.declared.tokens.Token.TheVariants as code
use Rattle.token.specs.declared.tokens.Token.{Token as Coded}
use Rattle.token.specs.declared.tokens.Lexeme.{Lexeme}
use Rattle.token.specs.declared.lexer.Lexer.{Lexer}
use Rattle.token.specs.Tokens.{Token, name, number, keyword, sign, other, Placed}
use Rattle.token.specs.Lexis.{tokens_from}
use Rattle.token.specs.Reading.{spelled, Stands}

-- the token that a token of the code stands for; the end of the text is none
abbrev pub meant : Coded → Option Token
meant (code.Name bytes) = Some (name bytes.now)
meant (code.Number bytes) = Some (number bytes.now)
meant (code.Keyword k) = Some (keyword k)
meant (code.Sign s) = Some (sign s)
meant (code.Other b) = Some (other b)
meant code.End = None

-- the tokens still to come
abbrev pub rest_of : Lexer → List Placed
rest_of l = tokens_from l.at (drop l.at l.text.now)

-- the first of the tokens to come, if any
abbrev pub first : List Placed → Option Token
first [] = None
first (p ∷ ps) = Some p.token

-- its offset; in a text of n bytes that of the end is n
abbrev pub place : ℕ → List Placed → ℕ
place n [] = n
place n (p ∷ ps) = p.offset

-- what comes after it
abbrev pub later : List Placed → List Placed
later [] = []
later (p ∷ ps) = ps

-- a token stands in the text at its offset, and the end stands at the text's length
abbrev pub Found : List ℕ → ℕ → Option Token → Type 0
Found text at None = at ≡ length text
Found text at (Some t) = Stands text at t

-- how many bytes it has
abbrev pub size : Option Token → ℕ
size None = 0
size (Some t) = length (spelled t)

-- what a lexer answers, and how it then stands
pub record Gives (before after : Lexer) (r : Lexeme) : Type 0 where
  -- the first of the tokens to come, at its offset; the end, at the text's length, if none is to come
  pub first : meant r.token ≡ first (rest_of before)
  pub place : r.offset ≡ place (length before.text.now) (rest_of before)
  -- those after it are still to come
  pub rest : rest_of after ≡ later (rest_of before)
  -- it stands in the text, from where the lexer stood or later, up to where it stands now
  pub found : Found before.text.now r.offset (meant r.token)
  pub from : before.at ≤ r.offset
  pub to : after.at ≡ r.offset + size (meant r.token)
  -- the text is the same
  pub text : after.text ≡ before.text
