-- The source run: what a program does, step by step, and the units that each step costs.
use Rattle.std.specs.Prelude.{ℕ, zero, suc, ◌+◌, ◌-◌, ◌*◌, Bool, true, false, cond, List, [], ◌∷◌, ◌++◌, length, replicate, ℤ, pos, negsuc, Some, None, Option, int_lt}
use Rattle.trees.specs.Trees.{Name, Expr, variable, literal, binary, Command, labelled, empty, assign, go_to, go_to_of, read, print, branch, Program, commands}
use Rattle.trees.specs.declared.operator.Operator.{Operator}
use Rattle.trees.specs.declared.operator.Operator.TheVariants.{Plus as plus, Minus as minus, Times as times, Over as over}
use Rattle.trees.specs.declared.relation.Relation.{Relation}
use Rattle.trees.specs.declared.relation.Relation.TheVariants.{Greater as greater, Equal as equal, Less as less}
use Rattle.arithmetic.specs.Words.{Words, is_zero, sum, difference, product, quotient}
use Rattle.host.specs.Meaning.{Meaning, first, taken, fits, marked}
use Rattle.runs.specs.Names.{Store, same, put, zeros}
use Rattle.runs.specs.Events.{World, Mark, number, line_end, stop, no_line, no_paper, line, mark, close, Tick, quiet, does, Timed, timed}

-- Expressions.

abbrev pub decimal_from : ℕ → List ℕ → ℕ
decimal_from n [] = n
decimal_from n (b ∷ bs) = decimal_from (10 * n + (b - 48)) bs

-- the number that these digits write
abbrev pub decimal : List ℕ → ℕ
decimal ds = decimal_from 0 ds

abbrev pub apply : Words → Operator → ℤ → ℤ → ℤ
apply w plus a b = sum w a b
apply w minus a b = difference w a b
apply w times a b = product w a b
apply w over a b = quotient w a b

-- a number means its fitted value
abbrev pub value : Words → Store → Expr → ℤ
value w v (variable x) = v x
value w v (literal ds) = w.fit (pos (decimal ds))
value w v (binary o l r) = apply w o (value w v l) (value w v r)

abbrev pub operators : Expr → ℕ
operators (variable x) = 0
operators (literal ds) = 0
operators (binary o l r) = suc (operators l + operators r)

-- a lone operand costs 1; otherwise each operator costs 3
abbrev pub cost : Expr → ℕ
cost (variable x) = 1
cost (literal ds) = 1
cost (binary o l r) = 3 * suc (operators l + operators r)

-- what a comparison looks at: the second value less the first
abbrev pub compared : Words → ℤ → ℤ → ℤ
compared w first second = difference w second first

-- ">" wants it negative, "=" zero, "<" positive
abbrev pub holds : Relation → ℤ → Bool
holds greater z = int_lt z (pos 0)
holds equal z = is_zero z
holds less z = int_lt (pos 0) z

-- What is still to be run.

-- a command, or the end of a THEN part; when nothing is left, END
pub data Item : Type 0 where
  command : Command → Item
  end_of_then : Item

abbrev pub Continuation : Type 0
Continuation = List Item

abbrev pub in_order : List Command → Continuation
in_order [] = []
in_order (c ∷ cs) = command c ∷ in_order cs

-- what is run from a label on, if it stands in this command, which `after` follows; else `elsewhere`.
-- A THEN or ELSE part is followed by what follows its whole IF
abbrev pub seek : Name → Command → Continuation → Continuation → Continuation
seek l (labelled k c) after elsewhere = cond (same l k) (command c ∷ after) (seek l c after elsewhere)
seek l empty after elsewhere = elsewhere
seek l (assign x e) after elsewhere = elsewhere
seek l (go_to k) after elsewhere = elsewhere
seek l (go_to_of x k ks) after elsewhere = elsewhere
seek l (read xs) after elsewhere = elsewhere
seek l (print es) after elsewhere = elsewhere
seek l (branch r e f c d) after elsewhere = seek l c (end_of_then ∷ after) (seek l d after elsewhere)

-- the command that a label names, with all that follows it; END if it names none
abbrev pub find : Name → List Command → Continuation
find l [] = []
find l (c ∷ cs) = seek l c (in_order cs) (find l cs)

-- the rest of a list that is read or printed; nothing is left of it after its last
abbrev pub then_read : List Name → Continuation → Continuation
then_read [] k = k
then_read (x ∷ xs) k = command (read (x ∷ xs)) ∷ k

abbrev pub then_print : List Expr → Continuation → Continuation
then_print [] k = k
then_print (e ∷ es) k = command (print (e ∷ es)) ∷ k

-- Steps.

abbrev pub quiets : ℕ → List Tick
quiets n = replicate n quiet

-- where a run stands: what is still to be run, the variables, the host; or it has ended
pub data Stage : Type 0 where
  at : Continuation → Store → Meaning → Stage
  ended : Stage

-- one step: the units that it costs, and where it leads
pub record Step : Type 0 where
  pub units : List Tick
  pub next : Stage

-- after n units a mark is made, if there is paper for it, which leaves the host h; else the run closes
abbrev pub making : Bool → Mark → ℕ → Continuation → Store → Meaning → Step
making true m n k v h = record { units = quiets n ++ (does (mark m) ∷ []); next = at k v h }
making false m n k v h = record { units = quiets n ++ (does (close no_paper) ∷ []); next = ended }

-- the line that waits first is taken, fitted, and stored in a second unit
abbrev pub storing : Words → Name → Option ℤ → Continuation → Store → Meaning → Step
storing w x None k v h = record { units = does (close no_line) ∷ []; next = ended }
storing w x (Some z) k v h = record { units = does line ∷ quiet ∷ []; next = at k (put v x (w.fit z)) h }

-- it is taken and dropped
abbrev pub dropping : Option ℤ → Continuation → Store → Meaning → Step
dropping None k v h = record { units = does (close no_line) ∷ []; next = ended }
dropping (Some z) k v h = record { units = does line ∷ []; next = at k v h }

-- the comparison holds, or not, after n units
abbrev pub choosing : Bool → ℕ → Command → Command → Continuation → Store → Meaning → Step
choosing true n c d k v h = record { units = quiets (n + 1); next = at (command c ∷ end_of_then ∷ k) v h }
choosing false n c d k v h = record { units = quiets (n + 2); next = at (command d ∷ k) v h }

-- labels are counted from 0
abbrev pub nth : ℕ → List Name → Option Name
nth n [] = None
nth zero (l ∷ ls) = Some l
nth (suc n) (l ∷ ls) = nth n ls

-- the label that a value picks
abbrev pub picked : ℤ → List Name → Option Name
picked (pos n) ls = nth n ls
picked (negsuc n) ls = None

-- the cost of a pick by this value among n labels: 2 and 2 for each label before the one picked; where none is picked, 2 for each label
abbrev pub pick_cost : ℤ → ℕ → Option Name → ℕ
pick_cost (pos k) n (Some l) = 2 + 2 * k
pick_cost (pos k) n None = 2 * n
pick_cost (negsuc k) n o = 2 * n

module _ (W : World) (program : List Command) where
  -- a mark, by the weight that it has
  abbrev pub marking : Mark → ℕ → Continuation → Store → Meaning → Step
  marking m n k v h = making (fits (W.weight m) h) m n k v (marked (W.weight m) m h)

  -- where a pick leads: to the label, or on
  abbrev pub leading : Option Name → Continuation → Continuation
  leading (Some l) k = find l program
  leading None k = k

  abbrev pub perform : Command → Continuation → Store → Meaning → Step
  perform (labelled l c) k v h = record { units = []; next = at (command c ∷ k) v h }
  perform empty k v h = record { units = []; next = at k v h }
  perform (assign x e) k v h = record { units = quiets (cost e + 1); next = at k (put v x (value W.words v e)) h }
  perform (go_to l) k v h = record { units = quiet ∷ []; next = at (find l program) v h }
  perform (go_to_of x l ls) k v h =
      record { units = quiets (pick_cost (v x) (suc (length ls)) (picked (v x) (l ∷ ls))); next = at (leading (picked (v x) (l ∷ ls)) k) v h }
  perform (read []) k v h = dropping (first h.lines) k v (taken h)
  perform (read (x ∷ xs)) k v h = storing W.words x (first h.lines) (then_read xs k) v (taken h)
  perform (print []) k v h = marking line_end 0 k v h
  perform (print (e ∷ es)) k v h = marking (number (value W.words v e)) (cost e) (command (print []) ∷ then_print es k) v h
  perform (branch r e f c d) k v h =
      choosing (holds r (compared W.words (value W.words v e) (value W.words v f))) (cost e + cost f + 2) c d k v h

  -- END closes the run in one unit; the end of a THEN part costs one
  abbrev pub step : Stage → Step
  step ended = record { units = []; next = ended }
  step (at [] v h) = record { units = does (close stop) ∷ []; next = ended }
  step (at (end_of_then ∷ k) v h) = record { units = quiet ∷ []; next = at k v h }
  step (at (command c ∷ k) v h) = perform c k v h

  -- the units of the first n steps, and where they lead
  abbrev pub units : ℕ → Stage → List Tick
  units zero s = []
  units (suc n) s = (step s).units ++ units n (step s).next

  abbrev pub stage : ℕ → Stage → Stage
  stage zero s = s
  stage (suc n) s = stage n (step s).next

  -- a run begins with the first command, every variable 0
  abbrev pub start : Meaning → Stage
  start h = at (in_order program) zeros h

-- the events of the first n steps of a program's run on a host, each with its running cost
abbrev pub events : World → Program → Meaning → ℕ → List Timed
events W p h n = timed 0 (units W (commands p) n (start W (commands p) h))
