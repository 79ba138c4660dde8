-- The token of the code, as that of the definitions, where the end of a text is none.
use Rattle.token.specs.declared.kinds.Keyword.TheVariants.{Of}
use Rattle.std.specs.Prelude.{ℕ, Bool, true, false, Some, None, Option}
use Rattle.fault.specs.declared.Refusal.{Refusal}
use Rattle.token.specs.Tokens.{Token, name, number, keyword, sign, other}
use Rattle.grammar.specs.Tests.{is}
use Rattle.reading.specs.declared.counts.Counts.{Counts}
use Rattle.reading.specs.Counting.{counted, form_refusal}

-- a name that is a label in a list after OF; no other token is one
abbrev pub listed_name : Bool → Token → Bool
listed_name b (name n) = b
listed_name b (number n) = false
listed_name b (keyword k) = false
listed_name b (sign s) = false
listed_name b (other x) = false

-- at the end nothing is counted, and none of the refusals 9 to 11 stands
abbrev pub counted_by : Option Token → Counts → Counts
counted_by None c = c
counted_by (Some t) c = counted t c

abbrev pub form_refusal_by : Counts → ℕ → Bool → Option Token → Option Refusal
form_refusal_by c ifs listed None = None
form_refusal_by c ifs listed (Some t) = form_refusal c ifs (listed_name listed t) t

abbrev pub is_of : Option Token → Bool
is_of None = false
is_of (Some t) = is (keyword Of) t

abbrev pub is_end : Option Token → Bool
is_end None = true
is_end (Some t) = false
