-- The theorems, in the language of runs, events and costs.
use Rattle.std.specs.Prelude.{◌≡◌, ℕ, ◌+◌, ◌<◌, ◌≤◌, ◌≢◌, ◌⊎◌, ◌↔◌, List, length, ℤ, pos, Some, slice_index_or}
use Rattle.trees.specs.Trees.{Name, Program}
use Rattle.arithmetic.specs.Words.{Lawful}
use Rattle.host.specs.Meaning.{Meaning}
use Rattle.runs.specs.Events.{World, Running, Corrupt, Close, close, Observation, observed, Timed, up_to, every, total, remaining, seen}
use Rattle.runs.specs.Source.{events}
use Rattle.runs.specs.Machine.{Instruction, operand, encode, decode, fetch, State, run, count, loaded}
use Rattle.runs.specs.Code.{Layout, program_size, address_of, code_of}
use Rattle.runs.specs.Placed.{Among, Placed, Ready, Written}

-- Machines.

-- the machine after n steps of a program's code
abbrev pub after : World → Layout → Program → List ℤ → Meaning → ℕ → State
after W k p s h n = run W (code_of k p) k.used n (loaded s h)

-- the instructions that it carried out in them
abbrev pub carried : World → Layout → Program → List ℤ → Meaning → ℕ → ℕ
carried W k p s h n = count W (code_of k p) k.used n (loaded s h)

-- what a machine shows of a run that began on the meaning h: the lines gone from the host, the marks added to it, and the status
abbrev pub shown : Meaning → State → Observation
shown h m = seen h m.host m.status

-- the machine shows just this, and its host is what this leaves of h, which had as many lines and as much paper
pub record Shows (W : World) (h : Meaning) (o : Observation) (m : State) : Type 0 where
  pub shown_is : shown h m ≡ o
  pub host_is : m.host ≡ remaining W h o
  pub enough_lines : o.lines ≤ length h.lines
  pub enough_paper : total W o.marks ≤ h.paper

-- Runs.

abbrev pub closing : ℕ → Close → Timed
closing c e = record { cost = c; event = close e }

-- the run closes, and its cost, the running cost of the close, is c; an endless run has no cost
abbrev pub Costs : World → Program → Meaning → ℕ → Type 0
Costs W p h c = (m : ℕ) × (e : Close) × Among (closing c e) (events W p h m)

-- the run closes, and all its events add up to this; an endless run has no whole
abbrev pub Whole : World → Program → Meaning → Observation → Type 0
Whole W p h o = (m : ℕ) × (c : ℕ) × (e : Close) × Among (closing c e) (events W p h m) × (o ≡ observed (every (events W p h m)))

-- of every lawful arithmetic, weights of marks, program with cells to it, and host
abbrev pub EveryRun : (World → Layout → Program → List ℤ → Meaning → Type 0) → Type 0
EveryRun P =
    (W : World) → Lawful W.words → (k : Layout) (p : Program) → Placed k p → (s : List ℤ) → Ready W.words k p s → (h : Meaning) → P W k p s h

-- Theorems.

-- a word means an instruction exactly if it is made from it, with an operand of 12 bits
abbrev pub WordsDecode : Type 0
WordsDecode = (i : Instruction) (n : ℕ) → (decode n ≡ Some i) ↔ ((encode i ≡ n) × (operand i < 4096))

-- the code of a program has its size, and each label an address in it; it has no corrupt word, and no run of it, on any cells, host and arithmetic, becomes corrupt
pub record CodeIsSound : Type 0 where
  pub size : (k : Layout) (p : Program) → length (code_of k p) ≡ program_size p
  pub addresses : (p : Program) (l : Name) → address_of p l < program_size p
  pub words : (k : Layout) (p : Program) → Placed k p → (a : ℕ) → a < length (code_of k p) → (i : Instruction) × (fetch (code_of k p) k.used a ≡ Some i)
  pub runs : (W : World) (k : Layout) (p : Program) → Placed k p → (s : List ℤ) (h : Meaning) (n a : ℕ) → (after W k p s h n).status ≢ Corrupt a

-- the events whose running cost is at most n are all there from some number of source steps on, and no others come later
abbrev pub BudgetedRunsSettle : Type 0
BudgetedRunsSettle =
    (W : World) (p : Program) (h : Meaning) (n : ℕ) → (j : ℕ) × ((m : ℕ) → j ≤ m → up_to n (events W p h m) ≡ up_to n (events W p h j))

-- after n steps the machine shows just the source run's events whose running cost is at most n, as they stand from some number of source steps on
abbrev pub BudgetedRunsAgree : Type 0
BudgetedRunsAgree =
    EveryRun (λ W k p s h. (n : ℕ) → (j : ℕ) × ((m : ℕ) → j ≤ m → Shows W h (observed (up_to n (events W p h m))) (after W k p s h n)))

-- a run that closes has one cost and one whole, and the machine shows the whole exactly when the run closes and n is at least its cost
pub record WholeExactly (W : World) (k : Layout) (p : Program) (s : List ℤ) (h : Meaning) : Type 0 where
  pub one_cost : (c d : ℕ) → Costs W p h c → Costs W p h d → c ≡ d
  pub one_whole : (o q : Observation) → Whole W p h o → Whole W p h q → o ≡ q
  pub exactly : (n : ℕ) → ((o : Observation) × Whole W p h o × (shown h (after W k p s h n) ≡ o)) ↔ ((c : ℕ) × Costs W p h c × (c ≤ n))

abbrev pub WholeRunExactlyWhen : Type 0
WholeRunExactlyWhen = EveryRun WholeExactly

-- n instructions are carried out in n steps while the run is open; once it has closed, as many as it cost
abbrev pub InstructionsCounted : Type 0
InstructionsCounted =
    EveryRun (λ W k p s h. (n : ℕ) →
    (((after W k p s h n).status ≡ Running) × (carried W k p s h n ≡ n) × ((c : ℕ) → Costs W p h c → n < c)) ⊎
    ((c : ℕ) × Costs W p h c × (c ≤ n) × (carried W k p s h n ≡ c)))

-- a run writes no cell but #TEMP, the temporaries and its variables, and it makes cells ready again to set those to 0
pub record OtherCellsStay : Type 0 where
  pub size : (W : World) (k : Layout) (p : Program) → Placed k p → (s : List ℤ) (h : Meaning) (n : ℕ) → length (after W k p s h n).cells ≡ length s
  pub others : (W : World) (k : Layout) (p : Program) → Placed k p → (s : List ℤ) (h : Meaning) (n c : ℕ) → (Written k p c → ⊥) →
      slice_index_or (after W k p s h n).cells c (pos 0) ≡ slice_index_or s c (pos 0)
  pub ready_again : (W : World) (k : Layout) (p : Program) → Placed k p → (s : List ℤ) → Ready W.words k p s → (h : Meaning) (n : ℕ) (t : List ℤ) →
      length t ≡ length s → ((c : ℕ) → Written k p c → slice_index_or t c (pos 0) ≡ pos 0) →
      ((c : ℕ) → (Written k p c → ⊥) → slice_index_or t c (pos 0) ≡ slice_index_or (after W k p s h n).cells c (pos 0)) → Ready W.words k p t

-- whatever the code, n steps and then m are n + m steps, and their counts add up
abbrev pub StepsMayBeCut : Type 0
StepsMayBeCut =
    (W : World) (code : List ℕ) (used n m : ℕ) (s : State) →
    (run W code used (n + m) s ≡ run W code used m (run W code used n s)) ×
    (count W code used (n + m) s ≡ count W code used n s + count W code used m (run W code used n s))
