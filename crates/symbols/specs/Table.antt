-- The table in lent memory: what it holds, and what its calls do.
use Rattle.std.specs.Prelude.{◌≡◌, ℕ, ◌+◌, ◌<◌, ◌≤◌, Bool, true, false, cond, not, ◌&&◌, ◌||◌, List, [], ◌∷◌, map, length, take, drop, ℤ, pos, Some, None, Ok, Err, Option, Result, ◌==◌, nat_le, nat_lt, slice_index_or, slice_set}
use Rattle.std.proofs.Math.Option as maybe
use Rattle.std.specs.Str.{bytes_eq}
use Rattle.token.specs.Lexis.{digit}
use Rattle.token.specs.Numbers.{word, every}
use Rattle.arithmetic.specs.Words.{Words}
use Rattle.fault.specs.declared.Fault.{Fault}
use Rattle.fault.specs.declared.Refusal.{Refusal}
use Rattle.fault.specs.declared.Refusal.TheVariants.{NoProgram, DuplicateLabel, MixedKind, TooManyCells, TooManyLabels}
use Rattle.fault.specs.Refusals.{numbered}
use Rattle.limits.specs.Uses.{Role, number_use, Use, made, In, is_definition, is_label, same_word, key, cells, labels}
use Rattle.limits.specs.Rules.{cell_limit, label_limit, Refused}
use Rattle.limits.specs.Refusals.{unlike}
use Rattle.limits.specs.Symbols.{first_cell, kind_of, cells_before}
use Rattle.symbols.specs.declared.table.Table.{Table}
use Rattle.symbols.specs.declared.kinds.Role.{Role as UseRole}
use Rattle.symbols.specs.declared.kinds.Role.TheVariants as told
use Rattle.symbols.specs.Entries.{Kind, Blank, Variable, Number, Label, Spelling, Symbol, blank, entry, kind_entry, meant, part}
use Rattle.symbols.specs.Mentions.{Mention, uses_of, pending, address_in, Sound, AllSound, entries, index, contents, use_refusal, Accepted, earliest_unmet}

-- how many entries are in use
abbrev pub size : Table → ℕ
size t = t.celled + t.labels

-- the memory that no text outgrows: entries for all variables, numbers and labels, and cells for these and the temporaries
abbrev pub most_symbols : ℕ
most_symbols = 702

abbrev pub most_cells : ℕ
most_cells = 512

-- a table with that much memory holds what the uses that it was told make: none was refused, and symbols and cells follow from them
pub record Holds (w : Words) (t : Table) (seen : List Mention) : Type 0 where
  pub symbols_room : most_symbols ≤ length t.symbols.now
  pub cells_room : most_cells ≤ length t.cells.now
  pub accepted : Accepted w (uses_of seen)
  pub sound : AllSound t.text.now seen
  pub cell_count : t.celled ≡ cells w (uses_of seen)
  pub label_count : t.labels ≡ labels w (uses_of seen)
  pub symbols_are : take (size t) t.symbols.now ≡ map entry (entries w (address_in seen) seen)
  pub cells_are : take t.celled (drop first_cell t.cells.now) ≡ contents w (uses_of seen)

-- What calls keep: the memory that is lent, the text, and what lies beyond the entries and the cells in use; entries only come.
pub record Keeps (a b : Table) : Type 0 where
  pub lent_symbols : b.symbols.ghost_name ≡ a.symbols.ghost_name
  pub lent_cells : b.cells.ghost_name ≡ a.cells.ghost_name
  pub text : b.text ≡ a.text
  pub more_cells : a.celled ≤ b.celled
  pub more_labels : a.labels ≤ b.labels
  pub symbols_size : length b.symbols.now ≡ length a.symbols.now
  pub cells_size : length b.cells.now ≡ length a.cells.now
  pub symbols_beyond : (n : ℕ) → size b ≤ n → drop n b.symbols.now ≡ drop n a.symbols.now
  pub cells_below : take first_cell b.cells.now ≡ take first_cell a.cells.now
  pub cells_beyond : (n : ℕ) → first_cell + b.celled ≤ n → drop n b.cells.now ≡ drop n a.cells.now

-- what a use is told as: its role and spelling, its place, and the address of the label that it may define
abbrev pub mention : Role → List ℕ → ℕ → ℕ → Mention
mention r s p a = record { used = made r s; place = p; address = a }

-- a use is taken: no refusal stands at it, the table holds it too, and the answer is the index of its symbol
pub record Taken (w : Words) (b : Table) (seen : List Mention) (m : Mention) (i : ℕ) : Type 0 where
  pub no_refusal : use_refusal w (uses_of seen) m.used ≡ maybe.none
  pub holds : Holds w b (m ∷ seen)
  pub is_index : i ≡ index w (key w m.used) (uses_of (m ∷ seen))

-- or it is refused, by the lowest refusal that stands at it
abbrev pub Decides : Words → Table → List Mention → Mention → Result ℕ Fault → Type 0
Decides w b seen m (Ok i) = Taken w b seen m i
Decides w b seen m (Err f) = (use_refusal w (uses_of seen) m.used ≡ maybe.some (numbered f.refusal)) × (f.place ≡ m.place)

-- whatever the table was told: an entry in use is answered, or nothing changes
abbrev pub Answers : Table → Table → Result ℕ Fault → Type 0
Answers a b (Ok i) = i < size b
Answers a b (Err f) = b ≡ a

-- the address that a role gives a mention: a definition's own, and any for another role
abbrev pub Gives : UseRole → ℕ → Type 0
Gives (told.Definition a) address = a ≡ address
Gives told.Target address = Unit {0}
Gives told.Listed address = Unit {0}
Gives told.Variable address = Unit {0}

-- a name is told: bytes s, which stand in the text at the place
abbrev pub NameTold : Table → Table → UseRole → Spelling → Result ℕ Fault → Type 0
NameTold a b r at x =
    (w : Words) (seen : List Mention) (s : List ℕ) (address : ℕ) → Holds w a seen → length s ≡ at.length → Gives r address →
    Sound a.text.now (mention (meant r) s at.place address) → Decides w b seen (mention (meant r) s at.place address) x

-- a number is told: digits that stand in the text at the place
abbrev pub DigitsTold : Words → Table → Table → Spelling → Result ℕ Fault → Type 0
DigitsTold w a b at x =
    (seen : List Mention) (s : List ℕ) (address : ℕ) → Holds w a seen → length s ≡ at.length → Sound a.text.now (mention number_use s at.place address) → every digit s ≡ true →
    Decides w b seen (mention number_use s at.place address) x

-- other bytes are no number, and are refused as no program
abbrev pub NoDigitsTold : Table → Spelling → Result ℕ Fault → Type 0
NoDigitsTold a at x = every digit (part a.text.now at) ≡ false → x ≡ Err (record { refusal = NoProgram; place = at.place })

-- a number is told, which has the word v
abbrev pub NumberTold : Table → Table → Spelling → ℤ → Result ℕ Fault → Type 0
NumberTold a b at v x =
    (w : Words) (seen : List Mention) (s : List ℕ) (address : ℕ) → Holds w a seen → length s ≡ at.length → Sound a.text.now (mention number_use s at.place address) → word w s ≡ v →
    Decides w b seen (mention number_use s at.place address) x

-- A table that is just made, with enough memory, holds no uses.
abbrev pub Fresh : Table → Type 0
Fresh t = (w : Words) → most_symbols ≤ length t.symbols.now → most_cells ≤ length t.cells.now → Holds w t []

-- Readings.

-- an entry says what a use means: its kind, and its cell or its address
pub record Describes (w : Words) (seen : List Mention) (u : Use) (e : Symbol) : Type 0 where
  pub kind_is : e.kind ≡ kind_entry (kind_of u.role)
  pub at_is : e.at ≡ cond (is_label u.role) (address_in seen u.spelling) (first_cell + cells_before w (key w u) (uses_of seen))

-- the entry at an index, if it is in use; at the index of a use's symbol it describes the use
abbrev pub EntryRead : Table → ℕ → Option Symbol → Type 0
EntryRead t i None = size t ≤ i
EntryRead t i (Some e) = (i < size t) × (e ≡ slice_index_or t.symbols.now i blank)

abbrev pub Described : Words → List Mention → Use → Option Symbol → Type 0
Described w seen u None = ⊥
Described w seen u (Some e) = Describes w seen u e

abbrev pub UseRead : Table → ℕ → Option Symbol → Type 0
UseRead t i x = (w : Words) (seen : List Mention) (u : Use) → Holds w t seen → In u (uses_of seen) → i ≡ index w (key w u) (uses_of seen) → Described w seen u x

-- refusal 12 at a place, if there is one
abbrev pub refused_12 : Option ℕ → maybe.Option Refused
refused_12 None = maybe.none
refused_12 (Some p) = maybe.some (record { number = 12; place = p })

-- the place of the earliest mention of a label that stands before no command
abbrev pub UnmetRead : Table → Option ℕ → Type 0
UnmetRead t x = (w : Words) (seen : List Mention) → Holds w t seen → refused_12 x ≡ earliest_unmet (uses_of seen) seen

-- Look-ups.

-- an entry of a variable or a label
abbrev pub has_name : Kind → Bool
has_name Blank = false
has_name Variable = true
has_name Number = false
has_name Label = true

abbrev pub of_label : Kind → Bool
of_label Blank = false
of_label Variable = false
of_label Number = false
of_label Label = true

abbrev pub of_number : Kind → Bool
of_number Blank = false
of_number Variable = false
of_number Number = true
of_number Label = false

-- the entry has the name that stands at a place
abbrev pub is_named : List ℕ → Spelling → Symbol → Bool
is_named text at s = has_name s.kind && (s.spelling.length == at.length && bytes_eq (part text s.spelling) (part text at))

-- the entry is that of a number whose cell holds the word
abbrev pub is_valued : List ℤ → ℤ → Symbol → Bool
is_valued cells v s = of_number s.kind && (nat_lt s.at (length cells) && same_word (slice_index_or cells s.at (pos 0)) v)

-- a label that stands before no command yet
abbrev pub is_pending : Symbol → Bool
is_pending s = of_label s.kind && s.at == pending

-- of the first n entries one is the first to answer true, or all answer false, where P relates an entry to its answer
abbrev pub FoundBy : (Symbol → Bool → Type 0) → List Symbol → ℕ → Option ℕ → Type 0
FoundBy P xs n None = (k : ℕ) → k < n → P (slice_index_or xs k blank) false
FoundBy P xs n (Some i) = (i < n) × P (slice_index_or xs i blank) true × ((k : ℕ) → k < i → P (slice_index_or xs k blank) false)

-- one of the first n entries passes a test, or none does
abbrev pub Found : (Symbol → Bool) → List Symbol → ℕ → Option ℕ → Type 0
Found test xs n x = FoundBy (λ e b. test e ≡ b) xs n x

-- Refusals, by what is found.

-- of a name that has the entry s
abbrev pub known_refusal : Role → Symbol → Option Refusal
known_refusal r s =
    cond (is_definition r && (of_label s.kind && not (s.at == pending))) (Some DuplicateLabel)
    (cond (unlike (is_label r) (of_label s.kind)) (Some MixedKind) None)

-- of a name that has none, with so many cells and labels in use
abbrev pub room_refusal : Role → ℕ → ℕ → Option Refusal
room_refusal r c l = cond (is_label r) (cond (nat_le label_limit l) (Some TooManyLabels) None) (cond (nat_le cell_limit c) (Some TooManyCells) None)

-- a refusal at a place of the text
abbrev pub fault_at : ℕ → Refusal → Fault
fault_at p r = record { refusal = r; place = p }

-- there is no memory for one symbol more, a label or one with a cell
abbrev pub is_short : Bool → Table → Bool
is_short label t = nat_le (length t.symbols.now) (size t) || (not label && nat_le (length t.cells.now) (first_cell + t.celled))

-- Changes.

-- the table b is a with other contents
pub record Becomes (a b : Table) (ss : List Symbol) (cs : List ℤ) (c l : ℕ) : Type 0 where
  pub lent_symbols : b.symbols.ghost_name ≡ a.symbols.ghost_name
  pub lent_cells : b.cells.ghost_name ≡ a.cells.ghost_name
  pub text : b.text ≡ a.text
  pub symbols_are : b.symbols.now ≡ ss
  pub cells_are : b.cells.now ≡ cs
  pub celled_are : b.celled ≡ c
  pub labels_are : b.labels ≡ l

abbrev pub cell_symbol : Kind → Spelling → ℕ → Symbol
cell_symbol k s c = record { kind = k; spelling = s; at = first_cell + c }

abbrev pub label_symbol : Spelling → ℕ → Symbol
label_symbol s address = record { kind = Label; spelling = s; at = address }

-- one more symbol with a cell that begins with v; one more label; a label gets its address
abbrev pub AddsCell : Table → Table → Symbol → ℤ → Type 0
AddsCell a b s v = Becomes a b (slice_set a.symbols.now (size a) s) (slice_set a.cells.now (first_cell + a.celled) v) (a.celled + 1) a.labels

abbrev pub AddsLabel : Table → Table → Symbol → Type 0
AddsLabel a b s = Becomes a b (slice_set a.symbols.now (size a) s) a.cells.now a.celled (a.labels + 1)

abbrev pub moved_to : ℕ → Symbol → Symbol
moved_to address s = record { kind = s.kind; spelling = s.spelling; at = address }

abbrev pub PlacesLabel : Table → Table → ℕ → ℕ → Type 0
PlacesLabel a b i address = Becomes a b (slice_set a.symbols.now i (moved_to address (slice_index_or a.symbols.now i blank))) a.cells.now a.celled a.labels

-- where a new label stands: where its role says, or before no command yet
abbrev pub first_address : UseRole → ℕ
first_address (told.Definition a) = a
first_address told.Target = pending
first_address told.Listed = pending
first_address told.Variable = pending

-- a new name; a label stands at the address
abbrev pub AddsName : Table → Table → Role → Spelling → ℕ → Type 0
AddsName a b r s address = cond (is_label r) (AddsLabel a b (label_symbol s address)) (AddsCell a b (cell_symbol Variable s a.celled) (pos 0))
