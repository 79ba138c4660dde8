use Rattle.std.proofs.Common.{length}
use Rattle.token.specs.Views.{meant, rest_of}
use Rattle.reader.proofs.Whole.{ahead, Midway}
use Rattle.reader.proofs.reader.Reader.read.Given as goal

abbrev pub invariant-tokens : goal.invariant-tokens
invariant-tokens g l = Midway g.N.Arithmetic.words l.text l.initial.self l.initial.table l.lexer l.lexeme.offset (meant l.lexeme.token) l.self l.table

abbrev pub decreases-tokens : goal.decreases-tokens
decreases-tokens g l = length (ahead l.lexeme.offset (meant l.lexeme.token) (rest_of l.lexer))
