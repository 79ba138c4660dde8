-- The first refusal of 3 to 11 found in one pass, with the recogniser's stack carried along.
use Rattle.grammar.specs.declared.state.State.{State}
use Rattle.std.specs.Prelude.{ℕ, cond, List, [], ◌∷◌}
use Rattle.std.proofs.Math.Option.{Option, none, some}
use Rattle.token.specs.Tokens.{Token, Placed}
use Rattle.arithmetic.specs.Words.{Words}
use Rattle.grammar.specs.Recogniser.{stack_step, accepting}
use Rattle.limits.specs.Rules.{past, tokens_of, Refused}
use Rattle.limits.specs.Refusals.{lowest, or_else, limit_checks, refused}

-- refusal 3 at a place, unless the recogniser goes on
abbrev pub or_fault : Option (List State) → (List State → Option Refused) → ℕ → Option Refused
or_fault none f p = some (record { number = 3; place = p })
or_fault (some s) f p = f s

-- the first refusal after the tokens past, which the recogniser has taken, with the stack s
abbrev pub pass : Words → ℕ → List State → List Token → List Placed → Option Refused
pass w n s past [] = cond (accepting (some s)) none (some (record { number = 3; place = n }))
pass w n s past (p ∷ ps) =
    or_fault (stack_step s p.token)
    (λ (next : List State). or_else (refused (lowest (limit_checks w past (p.token ∷ tokens_of ps))) p.offset) (pass w n next (p.token ∷ past) ps))
    p.offset
