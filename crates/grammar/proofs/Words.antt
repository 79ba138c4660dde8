-- A token that passes a test is that token.
use Rattle.std.proofs.Common.{◌≡◌, T, arith}
use Rattle.token.specs.Tokens.{Token, name, number}
use Rattle.grammar.specs.Tests.{is, is_name, is_number, spelling}

pub is_same : (w t : Token) → T (is w t) → t ≡ w
is_same w t h = grind arith

pub is_name_of : (t : Token) → T (is_name t) → t ≡ name (spelling t)
is_name_of t h = grind arith

pub is_number_of : (t : Token) → T (is_number t) → t ≡ number (spelling t)
is_number_of t h = grind arith
