-- The theorems about emission.
use Rattle.grammar.specs.declared.state.State.{State as Recognised}
use Rattle.std.specs.Prelude.{◌≡◌, ℕ, suc, ◌<◌, ◌≤◌, true, false, List, [], ◌∷◌, ◌++◌, reverse, length, take, ◌≢◌}
use Rattle.std.proofs.Math.Option.{none, some, map}
use Rattle.std.proofs.Math.ListN.{get_elem?}
use Rattle.token.specs.Tokens.{Token, name, number, other}
use Rattle.trees.specs.Trees.{Name, Program}
use Rattle.runs.specs.declared.instruction.Instruction.TheVariants.{Bru}
use Rattle.runs.specs.Names.{same}
use Rattle.runs.specs.Code.{Layout, instructions, code_of, address_of, program_size}
use Rattle.arithmetic.specs.Words.{Words}
use Rattle.grammar.specs.Tests.{spelling}
use Rattle.grammar.specs.Grammar.{Parses}
use Rattle.limits.specs.Uses.{In, parts}
use Rattle.limits.specs.Rules.{Rule}
use Rattle.emission.specs.Draft.{Word, fixed, idle, Definition, Draft, plain, words_of, here, address_in, label_address, patch, resolved, settled, settled_words}
use Rattle.grammar.specs.Recogniser.{stack_step, reach}
use Rattle.emission.specs.Actions.{Action, perform}
use Rattle.emission.specs.Table.{State, Start, Entry, Return, Translator, translator, follow, draft_step, translated, refuse, leave, enter, move}
use Rattle.emission.specs.Classes.{class, class_move}
use Rattle.emission.specs.Control.{control_of, control_in}
use Rattle.emission.specs.Growth.{word_at, waiting, Later}
use Rattle.emission.specs.Room.{Sized, Within, Below, Operands}
use Rattle.emission.specs.Returns.{AllBelow}

-- a draft is the code of a program: its words, its number of words and its labels' addresses, with nothing left open
pub record Whole (y : Layout) (p : Program) (d : Draft) : Type 0 where
  pub same_instructions : settled d ≡ instructions y p
  pub same_words : settled_words d ≡ code_of y p
  pub same_size : here d ≡ program_size p
  pub same_addresses : (l : Name) → label_address d l ≡ address_of p l
  pub nothing_open : d ≡ plain (idle (words_of d)) d.definitions

-- With any cells for variables and numbers: the translator takes all tokens and leaves its last state exactly if they
-- are a program, and then has made the program's code.
pub record Exact : Type 0 where
  pub sound : (y : Layout) (ts : List Token) (d : Draft) → translated y ts ≡ some (translator [] d) →
      (p : Program) × Parses ts p × Whole y p d
  pub complete : (y : Layout) (ts : List Token) (p : Program) → Parses ts p →
      (d : Draft) × (translated y ts ≡ some (translator [] d)) × Whole y p d

-- The translator takes what the recogniser takes, and its stack is the recogniser's but for the two states that only return.
pub record Follows : Type 0 where
  pub step : (y : Layout) (x : Translator) (t : Token) → map control_in (draft_step y x t) ≡ stack_step (control_in x) t
  pub text : (y : Layout) (ts : List Token) → map control_in (translated y ts) ≡ reach ts
  -- between two tokens the current state is never one of those two
  pub current : (y : Layout) (ts : List Token) (s : Return) (k : List Return) (d : Draft) → translated y ts ≡ some (translator (s ∷ k) d) →
      (r : Recognised) × (control_of s.state ≡ r ∷ [])

-- What the first tokens made, the others leave as it is, but for the jumps of open IFs.
pub record Stable : Type 0 where
  pub step : (y : Layout) (x : Translator) (t : Token) (z : Translator) → draft_step y x t ≡ some z → Later x z
  pub text : (y : Layout) (ts us : List Token) (x z : Translator) → translated y ts ≡ some x → translated y (ts ++ us) ≡ some z → Later x z
  -- a jump that waits leads to 0 until it gets its address
  pub waits : (y : Layout) (ts : List Token) (x : Translator) → translated y ts ≡ some x → (a : ℕ) → In a (waiting x.stack) →
      word_at a (words_of x.made) ≡ some (fixed (Bru 0))

-- A step, by what the table says of the state on top of the stack.
pub record Steps : Type 0 where
  pub refused : (y : Layout) (s : Return) (k : List Return) (d : Draft) (t : Token) → move s.state t ≡ refuse →
      draft_step y (translator (s ∷ k) d) t ≡ none
  pub left : (y : Layout) (s : Return) (k : List Return) (d : Draft) (t : Token) (b : Action) → move s.state t ≡ leave b →
      draft_step y (translator (s ∷ k) d) t ≡ draft_step y (translator k (perform y b s.address [] d)) t
  pub entered : (y : Layout) (s : Return) (k : List Return) (d : Draft) (t : Token) (e : Entry) → move s.state t ≡ enter e →
      draft_step y (translator (s ∷ k) d) t ≡ some (follow y e s.address (spelling t) k d)
  pub ended : (y : Layout) (d : Draft) (t : Token) → draft_step y (translator [] d) t ≡ none
  -- all tokens of a class are treated alike
  pub by_class : (s : State) (t : Token) → class_move s (class t) ≡ move s t

-- The stacks need no more room than operators, parentheses and IFs do; as long as no refusal stands, that is little.
pub record Roomy : Type 0 where
  pub sized : (y : Layout) (ts : List Token) (x : Translator) → translated y ts ≡ some x → Sized (reverse ts) x
  pub within : (y : Layout) (w : Words) (ts : List Token) (k : ℕ) (x : Translator) → ((j n : ℕ) → j < k → Rule w ts j n → ⊥) →
      translated y (take k ts) ≡ some x → Within x
  -- operands are cells of the layout or temporaries
  pub operands : (y : Layout) (b : ℕ) (ts : List Token) (x : Translator) → Below y b → translated y ts ≡ some x → Operands b x.made

-- How a translator stands between two tokens.
pub record Standing : Type 0 where
  -- below the current state there are only states to return to
  pub below : (y : Layout) (ts : List Token) (s : Return) (k : List Return) (d : Draft) → translated y ts ≡ some (translator (s ∷ k) d) → AllBelow k
  -- where a command may start, the stack is as deep as IFs are open
  pub nested : (y : Layout) (ts : List Token) (s : Return) (k : List Return) (d : Draft) → translated y ts ≡ some (translator (s ∷ k) d) → s.state ≡ Start →
      length k ≡ suc (length (parts (reverse ts)))
  -- a state to return to takes no name and no number
  pub no_name : (y : Layout) (k : List Return) (d : Draft) (n : Name) → AllBelow k → draft_step y (translator k d) (name n) ≡ none
  pub no_number : (y : Layout) (k : List Return) (d : Draft) (n : Name) → AllBelow k → draft_step y (translator k d) (number n) ≡ none
  -- a byte that stands in no program is never taken
  pub no_other : (y : Layout) (x : Translator) (b : ℕ) → draft_step y x (other b) ≡ none
  -- one token more
  pub further : (y : Layout) (ts : List Token) (x : Translator) (t : Token) → translated y ts ≡ some x → translated y (ts ++ (t ∷ [])) ≡ draft_step y x t

-- a label has no definition among these
abbrev pub Undefined : Name → List Definition → Type 0
Undefined l ds = (x : Definition) → In x ds → same l x.label ≡ false

-- The address of a label by a list of definitions.
pub record Addresses : Type 0 where
  -- that of its only definition so far, which others do not change
  pub first : (l : Name) (a : ℕ) (ds : List Definition) (e : ℕ) → Undefined l ds → address_in (record { label = l; address = a } ∷ ds) l e ≡ a
  pub stays : (l : Name) (x : Definition) (ds : List Definition) (e : ℕ) → same l x.label ≡ false → address_in (x ∷ ds) l e ≡ address_in ds l e
  -- without one the given address, and with one whatever address is given
  pub undefined : (l : Name) (ds : List Definition) (e : ℕ) → Undefined l ds → address_in ds l e ≡ e
  pub defined : (l : Name) (x : Definition) (ds : List Definition) (e f : ℕ) → In x ds → same l x.label ≡ true → address_in ds l e ≡ address_in ds l f

-- Words by their addresses.
pub record ByAddress : Type 0 where
  pub newest : (w : Word) (ws : List Word) → word_at (length ws) (w ∷ ws) ≡ some w
  pub older : (w : Word) (ws : List Word) (a : ℕ) → a < length ws → word_at a (w ∷ ws) ≡ word_at a ws
  pub beyond : (ws : List Word) (a : ℕ) → length ws ≤ a → word_at a ws ≡ none
  pub inside : (a : ℕ) (ws : List Word) (w : Word) → word_at a ws ≡ some w → a < length ws
  -- a patch is a jump at its address, and changes no other word
  pub patched : (j t : ℕ) (ws : List Word) → j < length ws → word_at j (patch j t ws) ≡ some (fixed (Bru t))
  pub others : (j t : ℕ) (ws : List Word) (a : ℕ) → (a ≢ j) → word_at a (patch j t ws) ≡ word_at a ws
  pub as_many : (j t : ℕ) (ws : List Word) → length (patch j t ws) ≡ length ws
  -- the settled code has at each address the word there
  pub in_place : (d : Draft) (a : ℕ) → get_elem? (settled d) a ≡ map (resolved (label_address d)) (word_at a (words_of d))
