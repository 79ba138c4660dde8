-- What a reader and a table hold after some of the tokens of a text, and how they take one more.
use Rattle.std.specs.Prelude.{◌≡◌, ℕ, ◌≤◌, Bool, List, [], ◌∷◌, reverse, length, replicate, Some, None, Ok, Err, Option, Result}
use Rattle.std.proofs.Math.Option as maybe
use Rattle.fault.specs.declared.Fault.{Fault}
use Rattle.fault.specs.Refusals.{numbered}
use Rattle.token.specs.Tokens.{Token, Placed}
use Rattle.token.specs.Lexis.{tokens}
use Rattle.token.specs.Reading.{Stands}
use Rattle.arithmetic.specs.Words.{Words}
use Rattle.limits.specs.Uses.{before_of}
use Rattle.limits.specs.Rules.{text_limit, code_limit, tokens_of, Refused}
use Rattle.symbols.specs.declared.table.Table.{Table}
use Rattle.symbols.specs.Table.{Holds}
use Rattle.reading.specs.declared.counts.Counts.{Counts}
use Rattle.reading.specs.Reads as reading
use Rattle.reading.specs.Reads.{refused_first, Reads}
use Rattle.reader.specs.declared.reader.Reader.{Reader}
use Rattle.reader.specs.Views.{plan, rooms, returns, return_room}
use Rattle.reader.specs.Tokens.{form_refusal_by}

-- a refusal with its place, as the definitions have it
abbrev pub refused : Fault → Refused
refused f = record { number = numbered f.refusal; place = f.place }

-- one of the refusals 9 to 11 stands at a token, and is answered with its place, or none does
abbrev pub FormChecked : Counts → ℕ → Bool → ℕ → Option Token → Result (Unit {0}) Fault → Type 0
FormChecked c ifs listed place t (Ok x) = form_refusal_by c ifs listed t ≡ None
FormChecked c ifs listed place t (Err f) = (form_refusal_by c ifs listed t ≡ Some f.refusal) × (f.place ≡ place)

-- The reader, with the room that is wanted, and the table hold what the tokens past make of a text, newest first, before the tokens rest.
pub record After (w : Words) (text : List ℕ) (past rest : List Placed) (r : Reader) (t : Table) : Type 0 where
  pub rooms_are : rooms r ≡ reading.room
  pub return_room_is : return_room r ≡ reading.return_room
  pub reads : Reads w text past rest (plan r) (returns r) r.counts t

-- In each text: a reader that is made over a code of 4,096 zeros, with the room that is wanted, and a table with no uses hold what no token makes.
abbrev pub Begins : List ℕ → Reader → Type 0
Begins code r =
    (w : Words) (text : List ℕ) (t : Table) → code ≡ replicate code_limit 0 → rooms r ≡ reading.room → return_room r ≡ reading.return_room →
    t.text.now ≡ text → Holds w t [] → After w text [] (tokens text) r t

-- after one token more they hold what this makes too, or the answer is the first refusal of 3 to 11, with its place
abbrev pub TakenAt : Words → List ℕ → List Placed → Placed → List Placed → Reader → Table → Result (Unit {0}) Fault → Type 0
TakenAt w text past p ps r t (Ok x) = After w text (p ∷ past) ps r t
TakenAt w text past p ps r t (Err f) = refused_first w text ≡ maybe.some (refused f)

-- A token of the code, at a place and with the word whether OF follows it, is the token p of a text that is short enough, before the tokens ps.
pub record Comes (text : List ℕ) (p : Placed) (ps : List Placed) (place : ℕ) (token : Option Token) (of-next : Bool) : Type 0 where
  pub short : length text ≤ text_limit
  pub token_is : token ≡ Some p.token
  pub place_is : place ≡ p.offset
  pub stands : Stands text p.offset p.token
  pub of_is : of-next ≡ before_of (tokens_of ps)

-- In each text, at each place in it: if the token is the next one there, it is taken.
abbrev pub TokenTaken : Words → Reader → Reader → Table → Table → ℕ → Option Token → Bool → Result (Unit {0}) Fault → Type 0
TokenTaken w a b s t place token of-next x =
    (text : List ℕ) (past : List Placed) (p : Placed) (ps : List Placed) → Comes text p ps place token of-next → After w text past (p ∷ ps) a s → TakenAt w text past p ps b t x

-- after all tokens of a text no state is left and nothing is refused, or the answer is the first refusal of 3 to 11, with its place
abbrev pub EndedAt : Words → List ℕ → Reader → Result (Unit {0}) Fault → Type 0
EndedAt w text r (Ok x) = (refused_first w text ≡ maybe.none) × (returns r ≡ [])
EndedAt w text r (Err f) = refused_first w text ≡ maybe.some (refused f)

-- In each text: if the reader has taken all its tokens, it is told whether the text is refused.
abbrev pub TextEnds : Reader → ℕ → Result (Unit {0}) Fault → Type 0
TextEnds r place x = (w : Words) (text : List ℕ) (past : List Placed) (t : Table) → place ≡ length text → After w text past [] r t → EndedAt w text r x

-- a reader and a table hold what all tokens of a text make, it is not refused, and no state is left, or the answer is the first refusal of 3 to 11, with its place
abbrev pub WholeAt : Words → List ℕ → Reader → Table → Result (Unit {0}) Fault → Type 0
WholeAt w text r t (Ok x) = After w text (reverse (tokens text)) [] r t × (refused_first w text ≡ maybe.none) × (returns r ≡ [])
WholeAt w text r t (Err f) = refused_first w text ≡ maybe.some (refused f)

-- If a text is short enough, and the reader and the table hold what none of its tokens makes, it is taken as a whole.
abbrev pub TextTaken : Words → Reader → Reader → Table → Table → List ℕ → Result (Unit {0}) Fault → Type 0
TextTaken w a b s t text x = length text ≤ text_limit → After w text [] (tokens text) a s → WholeAt w text b t x
