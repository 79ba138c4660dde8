-- The entries of the table as they stand in memory.
use Rattle.std.specs.Prelude.{ℕ, List, take, drop}
use Rattle.limits.specs.Uses as limits
use Rattle.limits.specs.Symbols.{variable_kind, number_kind, label_kind}
use Rattle.limits.specs.Symbols as table
pub use Rattle.symbols.specs.declared.kinds.Kind.{Kind}
pub use Rattle.symbols.specs.declared.kinds.Kind.TheVariants.{Blank, Variable, Number, Label}
pub use Rattle.symbols.specs.declared.kinds.Spelling.{Spelling}
pub use Rattle.symbols.specs.declared.kinds.Symbol.{Symbol}
pub use Rattle.symbols.specs.declared.kinds.Role.{Role}
use Rattle.symbols.specs.declared.kinds.Role.TheVariants as role

abbrev pub kind_number : Kind → ℕ
kind_number Blank = 0
kind_number Variable = 1
kind_number Number = 2
kind_number Label = 3

-- an entry of memory in which no symbol stands
abbrev pub blank : Symbol
blank = record { kind = Blank; spelling = record { place = 0; length = 0 }; at = 0 }

-- the kind and the entry of a symbol
abbrev pub kind_entry : table.Kind → Kind
kind_entry variable_kind = Variable
kind_entry number_kind = Number
kind_entry label_kind = Label

abbrev pub entry : table.Symbol → Symbol
entry s = record { kind = kind_entry s.kind; spelling = record { place = s.place; length = s.length }; at = s.at }

-- the role of a name, among those of all uses
abbrev pub meant : Role → limits.Role
meant (role.Definition address) = limits.definition
meant role.Target = limits.target
meant role.Listed = limits.listed
meant role.Variable = limits.variable_use

-- the bytes of a spelling, as far as the text has them
abbrev pub part : List ℕ → Spelling → List ℕ
part text s = take s.length (drop s.place text)
