use Rattle.std.proofs.Common.{◌≡◌, ◌+◌, ◌≤◌, length}
use Rattle.token.specs.Lexis.{tokens}
use Rattle.token.specs.Views.{rest_of}
use Rattle.token_trials.proofs.count.Given as goal

-- what is counted and what is to come are all the tokens, and each has a byte
abbrev pub invariant-loop-lexer : goal.invariant-loop-lexer
invariant-loop-lexer l = (l.n + length (rest_of l.lexer) ≡ length (tokens l.text)) × (l.n ≤ l.lexer.at) × (l.lexer.text.now ≡ l.text)

abbrev pub decreases-loop-lexer : goal.decreases-loop-lexer
decreases-loop-lexer l = length (rest_of l.lexer)
