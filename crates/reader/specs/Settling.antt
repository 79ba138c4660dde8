-- What settling a code does, by the symbols that a table has in use, and what is refused before it.
use Rattle.std.specs.Prelude.{◌≡◌, ℕ, ◌/◌, ◌%◌, ◌<◌, ◌≤◌, Bool, true, ◌||◌, ◌==◌, List, [], map, reverse, length, take, Ok, Err, Result}
use Rattle.std.proofs.Math.Option as maybe
use Rattle.std.proofs.Math.Option.{some}
use Rattle.fault.specs.declared.Fault.{Fault}
use Rattle.token.specs.Lexis.{tokens}
use Rattle.token.specs.Tokens as token
use Rattle.token.specs.Tokens.{Token}
use Rattle.trees.specs.Trees.{Program}
use Rattle.arithmetic.specs.Words.{Words}
use Rattle.grammar.specs.Grammar.{Parses}
use Rattle.runs.specs.Code.{code_of}
use Rattle.limits.specs.Uses.{uses}
use Rattle.limits.specs.Rules.{text_limit, code_limit, Clear, Met, tokens_of}
use Rattle.sheets.specs.Images.{refusal_of}
use Rattle.emission.specs.Draft.{Draft, words_of, here}
use Rattle.emission.specs.Table.{translator, translated}
use Rattle.emission.specs.Layouts.{layout}
use Rattle.symbols.specs.declared.table.Table.{Table}
use Rattle.symbols.specs.Mentions.{mentions_before}
use Rattle.symbols.specs.Table.{Holds, size}
use Rattle.assembly.specs.Words.{jump_operation, jump_zero_operation}
use Rattle.assembly.specs.Drawn.{coded}
use Rattle.reading.specs.References.{numbering, Matches, Labelled}
use Rattle.reading.specs.Reads.{refused_first}
use Rattle.reading.specs.Settling.{address_at, settled_word}
use Rattle.reader.specs.declared.reader.Reader.{Reader}
use Rattle.reader.specs.Views.{plan, returns}
use Rattle.reader.specs.Taking.{refused, After}

-- the address of the label with this symbol, if it is in use; else 0
abbrev pub address_by : Table → ℕ → ℕ
address_by t i = address_at (take (size t) t.symbols.now) i

-- a word, settled by the symbols in use
abbrev pub settled_by : Table → ℕ → ℕ
settled_by t v = settled_word (take (size t) t.symbols.now) v

-- a word is a jump to a label
abbrev pub is_jump : ℕ → Bool
is_jump v = v / 4096 == jump_operation || v / 4096 == jump_zero_operation

-- Where the symbol of a jump is in use, what memory holds beyond does not matter; at other words it never does.
abbrev pub InUse : Type 0
InUse = (t : Table) (v : ℕ) → (is_jump v ≡ true → v % 4096 < size t) → settled_by t v ≡ settled_word t.symbols.now v

-- The words of a whole draft, coded and then settled by the symbols in use, are the code of the program.
abbrev pub Settles : Type 0
Settles = (w : Words) (ts : List token.Placed) (address : List Token → ℕ) (t : Table) (d : Draft) (p : Program) →
    translated (layout w (tokens_of ts)) (tokens_of ts) ≡ some (translator [] d) → Parses (tokens_of ts) p → Clear w (tokens_of ts) → Met (tokens_of ts) → here d ≤ code_limit →
    Holds w t (mentions_before address (reverse ts) []) → Matches d.definitions (mentions_before address (reverse ts) []) → Labelled w (uses (tokens_of ts)) (words_of d) →
    map (settled_by t) (map (coded (numbering w (tokens_of ts))) (reverse (words_of d))) ≡ code_of (layout w (tokens_of ts)) p

-- a text has no refusal at all, or the answer is its refusal
abbrev pub RefusalAt : Words → List ℕ → Result (Unit {0}) Fault → Type 0
RefusalAt w text (Ok x) = refusal_of w text ≡ maybe.none
RefusalAt w text (Err f) = refusal_of w text ≡ maybe.some (refused f)

-- In each text that is short enough: if a reader with so many words, without a state, and the table hold what all its tokens make, and
-- none of the refusals 3 to 11 stands, it is told whether the text is refused.
abbrev pub WholeChecked : Table → ℕ → Result (Unit {0}) Fault → Type 0
WholeChecked t count x =
    (w : Words) (text : List ℕ) (r : Reader) → length text ≤ text_limit → After w text (reverse (tokens text)) [] r t → refused_first w text ≡ maybe.none →
    returns r ≡ [] → count ≡ (plan r).made.count → RefusalAt w text x
