-- What a reader holds, and what calls keep of the memory that it is lent.
use Rattle.std.specs.Prelude.{◌≡◌, ℕ, List, [], reverse, Some, None, Option}
use Rattle.std.proofs.Math.Option as maybe
use Rattle.stack.specs.Entries as stack
use Rattle.emission.specs.Table.{Entry}
use Rattle.trees.specs.declared.relation.Relation.TheVariants.{Greater}
use Rattle.assembly.specs.Plans.{Plan, Rooms, words, work, planned}
use Rattle.assembler.specs.Views as assembler
use Rattle.reading.specs.declared.returns.Return.{Return}
use Rattle.reader.specs.declared.reader.Reader.{Reader}
use Rattle.reader.specs.declared.step.Step.{Step}

abbrev pub plan : Reader → Plan
plan r = assembler.plan r.assembler

abbrev pub rooms : Reader → Rooms
rooms r = assembler.rooms r.assembler

abbrev pub returns : Reader → List Return
returns r = stack.entries r.returns

abbrev pub return_room : Reader → ℕ
return_room r = stack.room r.returns

-- no word of a code yet, and nothing that waits or is kept
abbrev pub nothing_made : List ℕ → Plan
nothing_made code = planned (words code 0) (work [] [] 0) 0 0 Greater

-- it is the same memory, as long as it was
pub record Keeps (a b : Reader) : Type 0 where
  pub assembly : assembler.Keeps a.assembler b.assembler
  pub lent_returns : b.returns.items.ghost_name ≡ a.returns.items.ghost_name
  pub returns_room : stack.room b.returns ≡ stack.room a.returns

-- the entry of the table that a step goes by
abbrev pub entry_of : Step → Entry
entry_of s = record { action = s.action; states = reverse s.states.now }

-- the state that takes a token, if one does, is answered with the address at which it was entered
abbrev pub Answers : maybe.Option (ℕ × Entry) → Option Step → Type 0
Answers o None = o ≡ maybe.none
Answers o (Some s) = o ≡ maybe.some (s.entered, entry_of s)
