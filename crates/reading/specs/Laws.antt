-- The theorems about reading a text.
use Rattle.std.specs.Prelude.{◌≡◌, ℕ, ◌≤◌, min, true, List, [], map, reverse}
use mathlib.Core.List.{reverse_aux}
use Rattle.std.proofs.Math.Option.{some}
use Rattle.token.specs.Tokens as token
use Rattle.token.specs.Tokens.{Token}
use Rattle.trees.specs.Trees.{Name, Program}
use Rattle.arithmetic.specs.Words.{Words}
use Rattle.grammar.specs.Grammar.{Parses}
use Rattle.runs.specs.Code.{code_of}
use Rattle.limits.specs.Uses.{Use, uses_before, uses, is_definition, key, known}
use Rattle.limits.specs.Refusals.{among}
use Rattle.limits.specs.Rules.{code_limit, Clear, Met, tokens_of}
use Rattle.emission.specs.Draft as draft
use Rattle.emission.specs.Draft.{Definition, Draft, words_of, here}
use Rattle.emission.specs.Table.{translator, translated}
use Rattle.emission.specs.Layouts.{layout}
use Rattle.symbols.specs.declared.table.Table.{Table}
use Rattle.symbols.specs.Mentions.{Mention, uses_of, address_in, Accepted, mentions_before}
use Rattle.symbols.specs.Table.{Holds}
use Rattle.assembly.specs.Drawn.{coded}
use Rattle.reading.specs.References.{reference, numbering, Matches, Labelled}
use Rattle.reading.specs.Settling.{settled_word}

-- What is known of a symbol after some tokens is so after all tokens of the text; `past` is newest first.
abbrev pub Stays : Type 0
Stays = (w : Words) (past rest : List Token) (u : Use) → known w (key w u) (uses_before past rest) ≡ true →
    reference w (uses (reverse_aux past rest)) u ≡ reference w (uses_before past rest) u

-- A label that stands before a command has its address in the table.
abbrev pub Placed : Type 0
Placed = (w : Words) (ds : List Definition) (seen : List Mention) → Matches ds seen → Accepted w (uses_of seen) → (l : Name) (e : ℕ) →
    among is_definition l (uses_of seen) ≡ true → address_in seen l ≡ min (draft.address_in ds l e) code_limit

-- The words of a whole draft, coded and then settled by the table of all mentions, are the code of the program.
abbrev pub Resolves : Type 0
Resolves = (w : Words) (ts : List token.Placed) (address : List Token → ℕ) (t : Table) (d : Draft) (p : Program) →
    translated (layout w (tokens_of ts)) (tokens_of ts) ≡ some (translator [] d) → Parses (tokens_of ts) p → Clear w (tokens_of ts) → Met (tokens_of ts) → here d ≤ code_limit →
    Holds w t (mentions_before address (reverse ts) []) → Matches d.definitions (mentions_before address (reverse ts) []) → Labelled w (uses (tokens_of ts)) (words_of d) →
    map (settled_word t.symbols.now) (map (coded (numbering w (tokens_of ts))) (reverse (words_of d))) ≡ code_of (layout w (tokens_of ts)) p
