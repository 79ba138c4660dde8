-- The theorems about one token more.
use Rattle.std.specs.Prelude.{◌≡◌, ℕ, ◌-◌, min, Bool, false, List, [], ◌∷◌, length, Some, None}
use Rattle.std.proofs.Math.Option.{Option, none, some}
use Rattle.fault.specs.declared.Refusal.{Refusal}
use Rattle.fault.specs.Refusals.{numbered}
use Rattle.token.specs.Tokens.{Token, name, number, keyword, sign, other, Placed}
use Rattle.arithmetic.specs.Words.{Words}
use Rattle.limits.specs.Uses.{Role, number_use, Use, made, use_of, before_of, is_listed}
use Rattle.limits.specs.Rules.{code_limit, tokens_of, Refused}
use Rattle.emission.specs.Table.{Entry}
use Rattle.emission.specs.Classes.{class}
use Rattle.symbols.specs.declared.table.Table.{Table}
use Rattle.symbols.specs.Mentions.{uses_of, use_refusal}
use Rattle.symbols.specs.Table.{Holds}
use Rattle.assembly.specs.Plans.{Plan, acted}
use Rattle.reading.specs.declared.counts.Counts.{Counts}
use Rattle.reading.specs.declared.returns.Return.{Return as Coded}
use Rattle.reading.specs.References.{reference}
use Rattle.reading.specs.Steps.{Found, leaving, pushed_all}
use Rattle.reading.specs.Counting.{counted, form_refusal}
use Rattle.reading.specs.Reads.{role_at, current, room, return_room, label_at, mentions, refused_first, Reads}

-- a refusal at a place
abbrev pub refused_at : Refusal → ℕ → Option Refused
refused_at r p = some (record { number = numbered r; place = p })

-- the use of a token, by the state at which it comes and whether OF follows
abbrev pub use_by : Role → Token → Option Use
use_by r (name n) = some (made r n)
use_by r (number n) = some (made number_use n)
use_by r (keyword j) = none
use_by r (sign s) = none
use_by r (other b) = none

-- whether the token is a label in a list after OF
abbrev pub listed_by : Option Use → Bool
listed_by none = false
listed_by (some u) = is_listed u.role

-- what a token is told to the table as, and what it refers to: nothing if it is no name and no number
abbrev pub Told : Words → List ℕ → List Placed → Placed → List Placed → Option Use → Table → Table → ℕ → Type 0
Told w text past p ps none a b r = b ≡ a
Told w text past p ps (some u) a b r =
    Holds w b (record { used = u; place = p.offset; address = label_at w text (tokens_of past) } ∷ mentions w text past (p ∷ ps)) ×
    (r ≡ reference w (u ∷ uses_of (mentions w text past (p ∷ ps))) u)

-- A reader that holds what the tokens past make, at the token p, before the tokens ps.
module _ (w : Words) (text : List ℕ) (past : List Placed) (p : Placed) (ps : List Placed) (y : Plan) (k : List Coded) (c : Counts) (t : Table) where
  abbrev pub at_token : Found
  at_token = leaving room (class p.token) k y

  abbrev pub role_here : Role
  role_here = role_at (current k) (before_of (tokens_of ps))

  abbrev pub use_here : Option Use
  use_here = use_by role_here p.token

  -- the open IFs, where one more may begin
  abbrev pub ifs_here : ℕ
  ifs_here = length at_token.below - 1

  pub record OneToken : Type 0 where
    -- no state takes the token
    pub no_program : at_token.taken ≡ none → refused_first w text ≡ some (record { number = 3; place = p.offset })
    -- a state takes it, and then the use of a name is what the state says
    pub role_is : (a : ℕ) (e : Entry) → at_token.taken ≡ some (a, e) → use_of (tokens_of past) p.token (tokens_of ps) ≡ use_here
    -- a label that it defines stands at the next word
    pub address_is : (a : ℕ) (e : Entry) (u : Use) → at_token.taken ≡ some (a, e) → use_here ≡ some u → min at_token.plan.made.count code_limit ≡ label_at w text (tokens_of past)
    -- a refusal of 4 to 8 stands at its use
    pub no_symbol : (a : ℕ) (e : Entry) (u : Use) (n : ℕ) → at_token.taken ≡ some (a, e) → use_here ≡ some u → use_refusal w (uses_of (mentions w text past (p ∷ ps))) u ≡ some n →
        refused_first w text ≡ some (record { number = n; place = p.offset })
    -- or none of these, and one of 9 to 11
    pub no_form : (a : ℕ) (e : Entry) (r : Refusal) → at_token.taken ≡ some (a, e) → ((u : Use) → use_here ≡ some u → use_refusal w (uses_of (mentions w text past (p ∷ ps))) u ≡ none) →
        form_refusal c ifs_here (listed_by use_here) p.token ≡ Some r → refused_first w text ≡ refused_at r p.offset
    -- or none at all, and the reader goes on
    pub goes_on : (a : ℕ) (e : Entry) (b : Table) (r : ℕ) → at_token.taken ≡ some (a, e) → ((u : Use) → use_here ≡ some u → use_refusal w (uses_of (mentions w text past (p ∷ ps))) u ≡ none) →
        Told w text past p ps use_here t b r → b.text.now ≡ text → form_refusal c ifs_here (listed_by use_here) p.token ≡ None →
        Reads w text (p ∷ past) ps (acted room e.action a r at_token.plan)
        (pushed_all return_room (acted room e.action a r at_token.plan).made.count e.states at_token.below) (counted p.token c) b

-- for every text, place in it, and reader that holds what it should
abbrev pub ReadingOn : Type 0
ReadingOn = (w : Words) (text : List ℕ) (past : List Placed) (p : Placed) (ps : List Placed) (y : Plan) (k : List Coded) (c : Counts) (t : Table) →
    Reads w text past (p ∷ ps) y k c t → OneToken w text past p ps y k c t

-- At the end of the tokens a reader without a state has read a program, and else the text breaks off.
pub record Ends : Type 0 where
  pub whole : (w : Words) (text : List ℕ) (past : List Placed) (y : Plan) (c : Counts) (t : Table) → Reads w text past [] y [] c t → refused_first w text ≡ none
  pub broken : (w : Words) (text : List ℕ) (past : List Placed) (y : Plan) (r : Coded) (k : List Coded) (c : Counts) (t : Table) → Reads w text past [] y (r ∷ k) c t →
      refused_first w text ≡ some (record { number = 3; place = length text })
