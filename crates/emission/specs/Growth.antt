-- What is made is not unmade: how a later draft goes on from an earlier one.
use Rattle.std.specs.Prelude.{◌≡◌, ℕ, pred, ◌<◌, ◌≤◌, Bool, true, false, cond, List, [], ◌∷◌, ◌++◌, length, ◌==◌}
use Rattle.std.proofs.Math.Option.{Option, none, some}
use Rattle.runs.specs.declared.instruction.Instruction.TheVariants.{Bru}
use Rattle.limits.specs.Uses.{In}
use Rattle.emission.specs.Draft.{Word, fixed, Definition, words_of, here}
use Rattle.emission.specs.Table.{State, Next, Start, Label, LetWord, LetName, LetEnd, GoWord, ToWord, ToName, OfWord, OfNames, OfComma, ReadWord, ReadNames, ReadComma, PrintWord, PrintList, LeftSide, RightSide, ThenPart, ElsePart, Operand, AfterOperand, Group, Return, Translator}

-- the word at an address; words are newest first
abbrev pub word_at : ℕ → List Word → Option Word
word_at a [] = none
word_at a (w ∷ ws) = cond (length ws == a) (some w) (word_at a ws)

-- the part of an IF that a state ends, THEN's or ELSE's, has a jump before it that waits for its address
abbrev pub waits : State → Bool
waits Next = false
waits Start = false
waits Label = false
waits LetWord = false
waits LetName = false
waits LetEnd = false
waits GoWord = false
waits ToWord = false
waits ToName = false
waits OfWord = false
waits OfNames = false
waits OfComma = false
waits ReadWord = false
waits ReadNames = false
waits ReadComma = false
waits PrintWord = false
waits PrintList = false
waits LeftSide = false
waits RightSide = false
waits ThenPart = true
waits ElsePart = true
waits Operand = false
waits AfterOperand = false
waits Group = false

-- the addresses of the jumps that wait
abbrev pub waiting : List Return → List ℕ
waiting [] = []
waiting (r ∷ k) = cond (waits r.state) (pred r.address ∷ waiting k) (waiting k)

-- the word at a, before and after: it stays, or it waited and now is a jump that leads somewhere
pub data Stays (jumps : List ℕ) (a : ℕ) (old new : Option Word) : Type 0 where
  as_it_was : new ≡ old → Stays jumps a old new
  lands : In a jumps → (t : ℕ) → new ≡ some (fixed (Bru t)) → Stays jumps a old new

-- later words: no fewer, and each that was there stays
pub record Onward (jumps : List ℕ) (old new : List Word) : Type 0 where
  pub longer : length old ≤ length new
  pub stays : (a : ℕ) → a < length old → Stays jumps a (word_at a old) (word_at a new)

-- a later translator: its words and labels go on from those of the earlier, and no jump of the earlier waits anew
pub record Later (x z : Translator) : Type 0 where
  pub words : Onward (waiting x.stack) (words_of x.made) (words_of z.made)
  pub closing : (a : ℕ) → a < here x.made → In a (waiting z.stack) → In a (waiting x.stack)
  pub newer : List Definition
  pub labels : z.made.definitions ≡ newer ++ x.made.definitions
