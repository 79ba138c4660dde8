-- A program's code stands where it should, and no run of it becomes corrupt.
use Rattle.std.proofs.Common.{◌≡◌, ℕ, zero, suc, ◌+◌, ◌<◌, ◌≤◌, Bool, true, false, ◌≢◌, ◌⊎◌, List, [], ◌∷◌, length, get_or, set, ℤ, pos, Some, None, Option, sym, refl, ap, ◌∙◌, subst, inl, inr, arith, length-set}
use mathlib.Core.Option.{some}
use native.Mathlib.Decide.{dec_le}
use lib.ListN.{get_elem?, length-map}
use Rattle.std.proofs.lemmas.List.{get_or-set_other}
use Rattle.std.specs.List.{AllByRecursion as All}
use Rattle.trees.specs.Trees.{Name, Command, Program, commands}
use Rattle.host.specs.Meaning.{Meaning, first, fits}
use Rattle.runs.specs.Events.{World, Mark, number, line_end, Status, Running, Stopped, NoLine, NoPaper, Corrupt}
use Rattle.runs.specs.Machine.{Instruction, Bru, Brz, Brn, Brp, Ada, Sub, Mul, Div, Lda, Sta, Read, Convert, Newline, Stop, encode, fetch, State, take_line, make_mark, carry_out, move, step, run, loaded}
use Rattle.runs.specs.Code.{Layout, temp, one, first_temporary, first_free, size, sizes, program_size, address_of, instructions, code_of}
use Rattle.runs.specs.Placed.{variables, literals, wholes, picks, collected, Variable, Literal, Placed, Ready, Written, to_temp, to_temporary, to_variable}
use Rattle.runs.specs.Statements.{after, CodeIsSound, OtherCellsStay}
use Rattle.runs.proofs.Basics.{all_among}
use Rattle.runs.proofs.Laid.{Fetch, Stands, AllAt, none_at, more_at, all_laid}
use Rattle.runs.proofs.Sound.{Bound, at_all, fetched, end_of, codes_size, codes_bound, locate_all_within}

-- a list stands in itself
abbrev Raw : List Instruction → ℕ → List Instruction → Type 0
Raw text a [] = Unit {0}
Raw text a (i ∷ is) = (get_elem? text a ≡ some i) × Raw text (suc a) is

shift : (j : Instruction) (text is : List Instruction) (a : ℕ) → Raw text a is → Raw (j ∷ text) (suc a) is
shift j text [] a s = tt
shift j text (i ∷ is) a s = (s.0, shift j text is (suc a) s.1)

raw_self : (is : List Instruction) → Raw is 0 is
raw_self [] = tt
raw_self (i ∷ is) = (refl, shift i is is 0 (raw_self is))

some_at : (text : List Instruction) (a : ℕ) → a < length text → (i : Instruction) × (get_elem? text a ≡ some i)
some_at [] a h = absurd (omega arith)
some_at (j ∷ text) zero h = (j, refl)
some_at (j ∷ text) (suc a) h = some_at text a (omega arith)

-- the last word is END's
end_fetch : (words : List ℕ) (k : Layout) (to : Name → ℕ) (V : Name → Type 0) (L : List ℕ → Type 0) {a : ℕ} {cs : List Command} →
    AllAt words k to V L a cs → Fetch words k to V L (end_of a cs) Stop
end_fetch words k to V L (none_at f) = f
end_fetch words k to V L (more_at c cs) = end_fetch words k to V L cs

-- the size of a program
end_size : (cs : List Command) (a : ℕ) → end_of a cs ≡ a + sizes cs
end_size [] a = omega arith
end_size (c ∷ cs) a = let i = end_size cs (a + size c) in omega arith

code_length : (k : Layout) (p : Program) → length (code_of k p) ≡ program_size p
code_length k p =
    let a = length-map (instructions k p) encode in
    let b = codes_size k (address_of p) (commands p) 0 in
    let c = end_size (commands p) 0 in
    omega arith

address_within : (p : Program) (l : Name) → address_of p l < program_size p
address_within p l =
    let c = end_size (commands p) 0 in
    let h = locate_all_within l (commands p) 0 (end_of 0 (commands p)) (omega arith) in
    omega arith

-- a status that is not corrupt
abbrev Fine : Status → Type 0
Fine Running = Unit {0}
Fine Stopped = Unit {0}
Fine NoLine = Unit {0}
Fine NoPaper = Unit {0}
Fine (Corrupt a) = ⊥

module _ (W : World) (u E : ℕ) (S : ℕ → Type 0) where
  -- not corrupt, and at an address up to END's
  record Safe (m : State) : Type 0 where
    fine : Fine m.status
    within : m.address ≤ E

  safe_move : (t : Status) (i : Instruction) (m : State) → m.status ≡ t → Bound (suc E) u S i → (m.address < E) ⊎ (i ≡ Stop) → Safe m → Safe (move W t (Some i) m)
  safe_move t i m e b o s = grind arith

module _ (k : Layout) (p : Program) (placed : Placed k p) where
  abbrev end : ℕ
  end = end_of 0 (commands p)

  text_size : length (instructions k p) ≡ suc end
  text_size = let e = codes_size k (address_of p) (commands p) 0 in omega arith

  words_size : length (code_of k p) ≡ length (instructions k p)
  words_size = length-map (instructions k p) encode

  bounded : All (Bound (suc end) k.used (Written k p)) (instructions k p)
  bounded =
      codes_bound k (address_of p) (suc end) placed.fixed (λ l. let h = locate_all_within l (commands p) 0 end (omega arith) in omega arith)
      (Written k p) to_temp (λ t a b. to_temporary a b) (commands p) 0 (omega arith)
      (all_among _ (collected wholes (commands p)) placed.few_operators)
      (all_among _ (collected variables (commands p)) (λ x v. (placed.variable_used x v, to_variable v)))
      (all_among _ (collected literals (commands p)) placed.literal_used)

  fetch_at : (a : ℕ) (i : Instruction) → get_elem? (instructions k p) a ≡ some i → fetch (code_of k p) k.used a ≡ Some i
  fetch_at a i e =
      let s = placed.short in let n = words_size in let u = placed.few in
      fetched (Written k p) (instructions k p) k.used a i (omega arith) (omega arith) (rw text_size bounded) e

  stands : (a : ℕ) (is : List Instruction) → Raw (instructions k p) a is → Stands (code_of k p) k (address_of p) (Variable p) (Literal p) a is
  stands a [] s = tt
  stands a (i ∷ is) s = (fetch_at a i s.0, stands (suc a) is s.1)

  pub laid : AllAt (code_of k p) k (address_of p) (Variable p) (Literal p) 0 (commands p)
  laid =
      all_laid (code_of k p) k (address_of p) (Variable p) (Literal p) (commands p) 0
      (all_among _ (collected variables (commands p)) (λ x a. a))
      (all_among _ (collected literals (commands p)) (λ x a. a))
      (all_among _ (collected wholes (commands p)) placed.few_operators)
      (all_among _ (collected picks (commands p)) placed.few_labels)
      (stands 0 (instructions k p) (raw_self (instructions k p)))

  words_sound : (a : ℕ) → a < length (code_of k p) → (i : Instruction) × (fetch (code_of k p) k.used a ≡ Some i)
  words_sound a l = let n = words_size in let o = some_at (instructions k p) a (omega arith) in (o.0, fetch_at a o.0 o.1)

  -- at an address before END's there is another word, and at END's there is STOP
  placed_at : (a : ℕ) → a ≤ end → (i : Instruction) × (fetch (code_of k p) k.used a ≡ Some i) × Bound (suc end) k.used (Written k p) i × ((a < end) ⊎ (i ≡ Stop))
  placed_at a l =
      let n = text_size in
      let o = some_at (instructions k p) a (omega arith) in
      let f = fetch_at a o.0 o.1 in
      let g = end_fetch (code_of k p) k (address_of p) (Variable p) (Literal p) laid in
      (o.0, f, at_all (Bound (suc end) k.used (Written k p)) (instructions k p) a o.0 o.1 bounded, last a o.0 l f g)
    where
      last : (a : ℕ) (i : Instruction) → a ≤ end → fetch (code_of k p) k.used a ≡ Some i → fetch (code_of k p) k.used end ≡ Some Stop → (a < end) ⊎ (i ≡ Stop)
      last a i l f g = elim (dec_le (suc a) end) [ yes h ↦ inl h | no h ↦ inr (let q : a ≡ end = omega arith in let e : Some i ≡ Some Stop = sym f ∙ ap (fetch (code_of k p) k.used) q ∙ g in cc) ]

  safe_step : (W : World) (m : State) → Safe W k.used end (Written k p) m → Safe W k.used end (Written k p) (step W (code_of k p) k.used m)
  safe_step W m s =
      let o = placed_at m.address s.within in
      subst (λ (x : Option Instruction). Safe W k.used end (Written k p) (move W m.status x m)) (sym o.1) (safe_move W k.used end (Written k p) m.status o.0 m refl o.2 o.3 s)

  safe_run : (W : World) (n : ℕ) (m : State) → Safe W k.used end (Written k p) m → Safe W k.used end (Written k p) (run W (code_of k p) k.used n m)
  safe_run W zero m s = s
  safe_run W (suc n) m s = safe_run W n (step W (code_of k p) k.used m) (safe_step W m s)

  pub never : (W : World) (s : List ℤ) (h : Meaning) (n a : ℕ) → (after W k p s h n).status ≢ Corrupt a
  never W s h n a e = subst Fine e (safe_run W n (loaded s h) (record { fine = tt; within = omega arith })).fine

-- Cells.

-- all cells but those that S allows are as they were
record Spared (S : ℕ → Type 0) (s u : List ℤ) : Type 0 where
  size : length u ≡ length s
  others : (c : ℕ) → (S c → ⊥) → get_or u c (pos 0) ≡ get_or s c (pos 0)

spared_none : (S : ℕ → Type 0) (s : List ℤ) → Spared S s s
spared_none S s = record { size = refl; others = λ c n. refl }

spared_set : (S : ℕ → Type 0) (s u : List ℤ) (a : ℕ) (z : ℤ) → S a → Spared S s u → Spared S s (set u a z)
spared_set S s u a z w k = record {
  size = length-set u a z ∙ k.size;
  others = λ c n. get_or-set_other u a c z (pos 0) (λ e. n (subst S (sym e) w)) ∙ k.others c n;
}

module _ (W : World) (n u : ℕ) (S : ℕ → Type 0) (s : List ℤ) where
  spared_take : (o : Option ℤ) (m : State) → Spared S s m.cells → Spared S s (take_line W.words o m).cells
  spared_take None m k = k
  spared_take (Some z) m k = k

  spared_mark : (b : Bool) (g : ℕ) (x : Mark) (m : State) → Spared S s m.cells → Spared S s (make_mark b g x m).cells
  spared_mark true g x m k = k
  spared_mark false g x m k = k

  spared_do : (i : Instruction) (m : State) → Bound n u S i → Spared S s m.cells → Spared S s (carry_out W i m).cells
  spared_do (Bru a) m b k = k
  spared_do (Brz a) m b k = k
  spared_do (Brn a) m b k = k
  spared_do (Brp a) m b k = k
  spared_do (Ada a) m b k = k
  spared_do (Sub a) m b k = k
  spared_do (Mul a) m b k = k
  spared_do (Div a) m b k = k
  spared_do (Lda a) m b k = k
  spared_do (Sta a) m b k = spared_set S s m.cells a m.accumulator b.1 k
  spared_do Read m b k = spared_take (first m.host.lines) m k
  spared_do Convert m b k = spared_mark (fits (W.weight (number m.accumulator)) m.host) (W.weight (number m.accumulator)) (number m.accumulator) m k
  spared_do Newline m b k = spared_mark (fits (W.weight line_end) m.host) (W.weight line_end) line_end m k
  spared_do Stop m b k = k

  spared_move : (t : Status) (i : Instruction) (m : State) → Bound n u S i → Spared S s m.cells → Spared S s (move W t (Some i) m).cells
  spared_move Running i m b k = spared_do i m b k
  spared_move Stopped i m b k = k
  spared_move NoLine i m b k = k
  spared_move NoPaper i m b k = k
  spared_move (Corrupt a) i m b k = k

module _ (W : World) (k : Layout) (p : Program) (placed : Placed k p) (s : List ℤ) where
  spared_run : (n : ℕ) (m : State) → Safe W k.used (end k p placed) (Written k p) m → Spared (Written k p) s m.cells → Spared (Written k p) s (run W (code_of k p) k.used n m).cells
  spared_run zero m f q = q
  spared_run (suc n) m f q =
      let o = placed_at k p placed m.address f.within in
      spared_run n (step W (code_of k p) k.used m) (safe_step k p placed W m f)
      (subst (λ (x : Option Instruction). Spared (Written k p) s (move W m.status x m).cells) (sym o.1)
      (spared_move W (suc (end k p placed)) k.used (Written k p) s m.status o.0 m o.2 q))

  spared : (h : Meaning) (n : ℕ) → Spared (Written k p) s (after W k p s h n).cells
  spared h n = spared_run n (loaded s h) (record { fine = tt; within = omega arith }) (spared_none (Written k p) s)

  not_written : (c : ℕ) → c ≢ temp → (c < first_temporary) ⊎ (first_free ≤ c) → ((x : Name) → Variable p x → c ≢ k.variable_cell x) → Written k p c → ⊥
  not_written c a b d to_temp = a refl
  not_written c a (inl l) d (to_temporary g h) = omega arith
  not_written c a (inr l) d (to_temporary g h) = omega arith
  not_written c a b d (to_variable {x = x} v) = d x v refl

  ready_again : Ready W.words k p s → (h : Meaning) (n : ℕ) (t : List ℤ) → length t ≡ length s → ((c : ℕ) → Written k p c → get_or t c (pos 0) ≡ pos 0) →
      ((c : ℕ) → (Written k p c → ⊥) → get_or t c (pos 0) ≡ get_or (after W k p s h n).cells c (pos 0)) → Ready W.words k p t
  ready_again r h n t e z o = record {
    all_there = let l = r.all_there in omega arith;
    one_held =
        let d : Written k p one → ⊥ = not_written one (omega arith) (inl (omega arith)) (λ x v q. let l = placed.variable_past x v in omega arith) in
        o one d ∙ (spared h n).others one d ∙ r.one_held;
    variable_zero = λ x v. z (k.variable_cell x) (to_variable v);
    literal_held = λ ds v.
        let l = placed.literal_past ds v in
        let d : Written k p (k.literal_cell ds) → ⊥ = not_written (k.literal_cell ds) (omega arith) (inr l) (λ x u. placed.literal_own ds x v u) in
        o (k.literal_cell ds) d ∙ (spared h n).others (k.literal_cell ds) d ∙ r.literal_held ds v;
  }

pub code_is_sound_lem : CodeIsSound
code_is_sound_lem = record { size = code_length; addresses = address_within; words = words_sound; runs = λ W k p placed. never k p placed W }

pub other_cells_stay_lem : OtherCellsStay
other_cells_stay_lem = record {
  size = λ W k p placed s h n. (spared W k p placed s h n).size;
  others = λ W k p placed s h n. (spared W k p placed s h n).others;
  ready_again = ready_again;
}
