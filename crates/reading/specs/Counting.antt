-- What is counted for the refusals 9 to 11, token by token.
use Rattle.token.specs.declared.kinds.Keyword.TheVariants.{If}
use Rattle.token.specs.declared.kinds.Sign.TheVariants.{Open, Close}
use Rattle.std.specs.Prelude.{◌≡◌, ℕ, ◌-◌, ◌≤◌, min, Bool, cond, ◌&&◌, ◌||◌, List, length, Some, None, Option, nat_le}
use Rattle.fault.specs.declared.Refusal.{Refusal}
use Rattle.fault.specs.declared.Refusal.TheVariants.{TooManyOperators, TooDeep, TooManyTargets}
use Rattle.token.specs.Tokens.{Token, keyword, sign}
use Rattle.grammar.specs.Tests.{is, is_name, is_reserved}
use Rattle.limits.specs.Uses.{is_operator, in_expression, operators, depth, parts, names}
use Rattle.limits.specs.Rules.{operator_limit, depth_limit, list_limit}
use Rattle.assembly.specs.Plans.{plus}
use Rattle.reading.specs.declared.counts.Counts.{Counts}

abbrev pub counts : ℕ → ℕ → ℕ → Counts
counts o d n = record { operators = o; depth = d; names = n }

-- after one token more
abbrev pub counted : Token → Counts → Counts
counted t c =
    counts (cond (is_operator t) (plus c.operators 1) (cond (in_expression t) c.operators 0))
    (cond (is (sign Open) t) (plus c.depth 1) (cond (is (sign Close) t) (c.depth - 1) (cond (in_expression t) c.depth 0)))
    (cond (is_reserved t) 0 (cond (is_name t) (plus c.names 1) c.names))

-- the refusal of 9 to 11 at a token, where `listed` says that it is a label in a list after OF, and so many IFs are open
abbrev pub form_refusal : Counts → ℕ → Bool → Token → Option Refusal
form_refusal c ifs listed t =
    cond (is_operator t && nat_le operator_limit c.operators) (Some TooManyOperators)
    (cond ((is (sign Open) t && nat_le depth_limit c.depth) || (is (keyword If) t && nat_le depth_limit ifs)) (Some TooDeep)
    (cond (listed && nat_le list_limit c.names) (Some TooManyTargets) None))

-- the counts of the tokens past, newest first, as long as no refusal stands
pub record Counted (past : List Token) (c : Counts) : Type 0 where
  pub operators_are : c.operators ≡ operators past
  pub depth_is : c.depth ≡ depth past
  pub names_are : c.names ≡ min (names past) 65535
  pub few_operators : operators past ≤ operator_limit
  pub few_open : depth past ≤ depth_limit
  pub few_ifs : length (parts past) ≤ depth_limit
