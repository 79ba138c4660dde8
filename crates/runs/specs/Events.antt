-- What is seen of a run: events, each with its running cost, and the observation that they add up to.
use Rattle.std.specs.Prelude.{ℕ, suc, ◌+◌, ◌-◌, cond, List, [], ◌∷◌, ◌++◌, length, drop, nat_le}
use Rattle.arithmetic.specs.Words.{Words}
use Rattle.host.specs.Meaning.{Meaning, meaning}
pub use Rattle.host.specs.declared.mark.Mark.{Mark}
pub use Rattle.host.specs.declared.mark.Mark.TheVariants.{Number as number, LineEnd as line_end}
pub use Rattle.runs.specs.declared.status.Status.{Status}
pub use Rattle.runs.specs.declared.status.Status.TheVariants.{Running, Stopped, NoLine, NoPaper, Corrupt}

-- what a run depends on besides its program: the arithmetic, and the weight of each mark on the host's paper
pub record World : Type 0 where
  pub words : Words
  pub weight : Mark → ℕ

abbrev pub world : Words → (Mark → ℕ) → World
world w g = record { words = w; weight = g }

-- how a run can close: it came to its end, a line was wanted and none waited, a mark was wanted and there was no paper for it
pub data Close : Type 0 where
  stop : Close
  no_line : Close
  no_paper : Close

-- the status that a close leaves
abbrev pub status_of : Close → Status
status_of stop = Stopped
status_of no_line = NoLine
status_of no_paper = NoPaper

-- a line was taken, a mark was made, the run closed
pub data Event : Type 0 where
  line : Event
  mark : Mark → Event
  close : Close → Event

-- how many lines were taken, the marks in order, and how the run stands
pub record Observation : Type 0 where
  pub lines : ℕ
  pub marks : List Mark
  pub status : Status

-- before anything was seen
abbrev pub nothing : Observation
nothing = record { lines = 0; marks = []; status = Running }

-- one event more
abbrev pub observe : Event → Observation → Observation
observe line o = record { lines = suc o.lines; marks = o.marks; status = o.status }
observe (mark m) o = record { lines = o.lines; marks = o.marks ++ (m ∷ []); status = o.status }
observe (close c) o = record { lines = o.lines; marks = o.marks; status = status_of c }

abbrev pub observed_from : Observation → List Event → Observation
observed_from o [] = o
observed_from o (e ∷ es) = observed_from (observe e o) es

-- what these events add up to, in their order
abbrev pub observed : List Event → Observation
observed es = observed_from nothing es

-- a unit of cost: nothing is seen in it, or it ends with an event
pub data Tick : Type 0 where
  quiet : Tick
  does : Event → Tick

-- an event with its running cost: the units spent up to it, its own included
pub record Timed : Type 0 where
  pub cost : ℕ
  pub event : Event

-- the events among these units, where c units were spent before
abbrev pub timed : ℕ → List Tick → List Timed
timed c [] = []
timed c (quiet ∷ ts) = timed (suc c) ts
timed c (does e ∷ ts) = record { cost = suc c; event = e } ∷ timed (suc c) ts

-- the events whose running cost is at most n
abbrev pub up_to : ℕ → List Timed → List Event
up_to n [] = []
up_to n (t ∷ ts) = cond (nat_le t.cost n) (t.event ∷ up_to n ts) (up_to n ts)

-- all of them
abbrev pub every : List Timed → List Event
every [] = []
every (t ∷ ts) = t.event ∷ every ts

-- the paper that marks take
abbrev pub total : World → List Mark → ℕ
total W [] = 0
total W (m ∷ ms) = W.weight m + total W ms

-- what an observation leaves of a host: its lines are dropped, its marks added, and their weights taken from the paper
abbrev pub remaining : World → Meaning → Observation → Meaning
remaining W h o = meaning (drop o.lines h.lines) (h.marks ++ o.marks) (h.paper - total W o.marks)

-- what is seen of a host since it meant `before`: the count of lines gone, the marks added
abbrev pub seen : Meaning → Meaning → Status → Observation
seen before now s = record {
  lines = length before.lines - length now.lines;
  marks = drop (length before.marks) now.marks;
  status = s;
}
