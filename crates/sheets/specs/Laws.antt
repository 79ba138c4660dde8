-- The theorems about a text, its image and its runs.
use Rattle.std.specs.Prelude.{◌≡◌, ℕ, ◌+◌, ◌<◌, ◌≤◌, ◌≢◌, ◌⊎◌, ◌↔◌, List, ◌++◌, length, take, drop, ℤ, pos, slice_index, slice_index_or}
use Rattle.std.proofs.Math.Option.{none, some}
use Rattle.token.specs.Numbers.{word}
use Rattle.trees.specs.Trees.{Program}
use Rattle.arithmetic.specs.Words.{Words, Lawful}
use Rattle.arithmetic.specs.Wrapping.{wrapping}
use Rattle.arithmetic.specs.Stopping.{stopping}
use Rattle.host.specs.Meaning.{Meaning}
use Rattle.grammar.specs.Grammar.{Parses}
use Rattle.limits.specs.Uses.{In}
use Rattle.limits.specs.Rules.{Refused}
use Rattle.limits.specs.Symbols.{Kind, variable_kind, number_kind, label_kind, Symbol}
use Rattle.runs.specs.declared.status.Status.TheVariants.{Running, Corrupt}
use Rattle.runs.specs.Events.{World, Observation, observed, up_to}
use Rattle.runs.specs.Source.{events}
use Rattle.runs.specs.Code.{Layout, program_size, address_of}
use Rattle.runs.specs.Placed.{Placed, Ready}
use Rattle.runs.specs.Statements.{shown, Shows, Costs, Whole}
use Rattle.sheets.specs.Images.{plain_tokens, refusal_of, Refuses, Accepts, layout, Image, image_of, image}
use Rattle.sheets.specs.Runs.{after, carried}

-- what a load of an accepted text leaves
pub record PlacedImage (w : Words) (text : List ℕ) (p : Program) : Type 0 where
  -- the program keeps the limits and its cells are apart; the cells are ready for a run, whatever cells follow them
  pub placed : Placed (layout w (plain_tokens text)) p
  pub ready : Ready w (layout w (plain_tokens text)) p (image_of w text p).cells
  pub ready_before : (others : List ℤ) → Ready w (layout w (plain_tokens text)) p ((image_of w text p).cells ++ others)
  -- the cells are those in use, from 66 to 512
  pub cells_used : length (image_of w text p).cells ≡ (layout w (plain_tokens text)).used
  pub some_cells : 66 ≤ length (image_of w text p).cells
  pub few_cells : length (image_of w text p).cells ≤ 512
  pub few_symbols : length (image_of w text p).symbols ≤ 702
  -- from 1 to 4,096 words of 16 bits
  pub code_size : length (image_of w text p).code ≡ program_size p
  pub some_code : 1 ≤ length (image_of w text p).code
  pub few_words : length (image_of w text p).code ≤ 4096
  pub short_words : (a : ℕ) → slice_index (image_of w text p).code a < 65536

abbrev pub AcceptedIsPlaced : Type 0
AcceptedIsPlaced = (w : Words) (text : List ℕ) (p : Program) → Accepts w text p → PlacedImage w text p

-- the bytes of the text that a symbol points to
abbrev pub spelling_of : List ℕ → Symbol → List ℕ
spelling_of text s = take s.length (drop s.place text)

-- what a symbol leads to in an image, by its kind and the bytes that it points to: the cell of this variable, which holds 0;
-- the cell of this number, which holds its word; the address of this label in the code
abbrev pub Leads : Words → Layout → Program → Image → List ℕ → ℕ → Kind → Type 0
Leads w k p i bytes at variable_kind = (at ≡ k.variable_cell bytes) × (66 ≤ at) × (at < length i.cells) × (slice_index_or i.cells at (pos 0) ≡ pos 0)
Leads w k p i bytes at number_kind = (at ≡ k.literal_cell bytes) × (66 ≤ at) × (at < length i.cells) × (slice_index_or i.cells at (pos 0) ≡ word w bytes)
Leads w k p i bytes at label_kind = (at ≡ address_of p bytes) × (at < length i.code)

-- a symbol's place and length lie within the text, and it leads to what its bytes there name
pub record SymbolStands (w : Words) (text : List ℕ) (p : Program) (s : Symbol) : Type 0 where
  pub within : s.place + s.length ≤ length text
  pub leads : Leads w (layout w (plain_tokens text)) p (image_of w text p) (spelling_of text s) s.at s.kind

abbrev pub SymbolsStand : Type 0
SymbolsStand = (w : Words) (text : List ℕ) (p : Program) → Accepts w text p → (s : Symbol) → In s (image_of w text p).symbols → SymbolStands w text p s

-- The source run of a program on a host and the machine on an image show the same.
pub record RunsAgree (W : World) (p : Program) (i : Image) (h : Meaning) : Type 0 where
  -- after n steps the machine shows just the source run's events whose running cost is at most n, as they stand from some number of source steps on
  pub agree : (n : ℕ) → (j : ℕ) × ((m : ℕ) → j ≤ m → Shows W h (observed (up_to n (events W p h m))) (after W i h n))
  -- a run that closes has one cost and one whole, and the machine shows the whole exactly when the run closes and n is at least its cost
  pub one_cost : (c d : ℕ) → Costs W p h c → Costs W p h d → c ≡ d
  pub one_whole : (o q : Observation) → Whole W p h o → Whole W p h q → o ≡ q
  pub exactly : (n : ℕ) → ((o : Observation) × Whole W p h o × (shown h (after W i h n) ≡ o)) ↔ ((c : ℕ) × Costs W p h c × (c ≤ n))
  -- n instructions are carried out in n steps while the run is open; once it has closed, as many as it cost
  pub counted : (n : ℕ) →
      (((after W i h n).status ≡ Running) × (carried W i h n ≡ n) × ((c : ℕ) → Costs W p h c → n < c)) ⊎
      ((c : ℕ) × Costs W p h c × (c ≤ n) × (carried W i h n ≡ c))
  -- no run becomes corrupt
  pub sound : (n a : ℕ) → (after W i h n).status ≢ Corrupt a

-- a text without refusal: it reads as one program, has one image, and on every host the runs of the two agree
pub record Sheet (W : World) (text : List ℕ) : Type 0 where
  pub program : Program
  pub reads : Parses (plain_tokens text) program
  pub only : (q : Program) → Parses (plain_tokens text) q → q ≡ program
  pub loads : image W.words text ≡ some (image_of W.words text program)
  pub runs : (h : Meaning) → RunsAgree W program (image_of W.words text program) h

-- for every lawful arithmetic, weights of marks, text and host
pub record SheetRunsAgree : Type 0 where
  -- wrapped words and ledger words are lawful
  pub lawful : Lawful wrapping × Lawful stopping
  -- by the rules
  pub accepted : (W : World) → Lawful W.words → (text : List ℕ) (p : Program) → Accepts W.words text p → (h : Meaning) →
      RunsAgree W p (image_of W.words text p) h
  -- and as computed from the text
  pub computed : (W : World) → Lawful W.words → (text : List ℕ) → refusal_of W.words text ≡ none → Sheet W text

-- A text gets one refusal, or is accepted with one program and one image.
pub record OneImage : Type 0 where
  -- one of the two holds, and not both
  pub one_of : (w : Words) (text : List ℕ) → ((r : Refused) × Refuses w text r) ⊎ ((p : Program) × Accepts w text p)
  pub not_both : (w : Words) (text : List ℕ) (r : Refused) (p : Program) → Refuses w text r → Accepts w text p → ⊥
  -- `refusal_of` says which
  pub refuses : (w : Words) (text : List ℕ) (r : Refused) → Refuses w text r ↔ (refusal_of w text ≡ some r)
  pub accepts : (w : Words) (text : List ℕ) → ((p : Program) × Accepts w text p) ↔ (refusal_of w text ≡ none)
  -- there is one refusal at most, and one program at most, whatever the arithmetic
  pub one_refusal : (w : Words) (text : List ℕ) (r q : Refused) → Refuses w text r → Refuses w text q → r ≡ q
  pub one_program : (v w : Words) (text : List ℕ) (p q : Program) → Accepts v text p → Accepts w text q → p ≡ q
  -- `image` finds the image of an accepted text, and a refused text has none
  pub accepted_image : (w : Words) (text : List ℕ) (p : Program) → Accepts w text p → image w text ≡ some (image_of w text p)
  pub image_accepted : (w : Words) (text : List ℕ) (i : Image) → image w text ≡ some i → (p : Program) × Accepts w text p × (i ≡ image_of w text p)
  pub no_image : (w : Words) (text : List ℕ) (r : Refused) → Refuses w text r → image w text ≡ none
