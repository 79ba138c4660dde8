-- Machine steps with what they do, one tick each; and what is seen of n steps of the machine.
use Rattle.std.proofs.Common.{◌≡◌, ℕ, zero, suc, ◌+◌, ◌-◌, ◌<◌, ◌≤◌, Bool, true, cond, List, [], ◌∷◌, ◌++◌, length, take, drop, ℤ, Some, sym, refl, ap, ◌∙◌, subst, append_assoc, arith, length-drop}
use lib.ListN.{replicate-append-replicate}
use Rattle.std.proofs.lemmas.List.{drop_at}
use Rattle.std.proofs.lemmas.Bool.{leb-true}
use Rattle.host.specs.Meaning.{Meaning, meaning, rest, taken, fits, marked}
use Rattle.runs.specs.Events.{World, Mark, Running, status_of, line, mark, close, Observation, observe, Tick, quiet, does, total, remaining}
use Rattle.runs.specs.Source.{quiets}
use Rattle.runs.specs.Machine.{Instruction, State, fetch, carry_out, step, run}
use Rattle.runs.specs.Statements.{shown, Shows}

-- what ticks add to an observation
abbrev pub noted : Tick → Observation → Observation
noted quiet o = o
noted (does e) o = observe e o

abbrev pub all_noted : Observation → List Tick → Observation
all_noted o [] = o
all_noted o (t ∷ ts) = all_noted (noted t o) ts

rest_drop : (n : ℕ) (xs : List ℤ) → rest (drop n xs) ≡ drop (suc n) xs
rest_drop zero [] = refl
rest_drop zero (x ∷ xs) = refl
rest_drop (suc n) [] = refl
rest_drop (suc n) (x ∷ xs) = rest_drop n xs

some_left : (n : ℕ) (xs : List ℤ) (z : ℤ) (zs : List ℤ) → drop n xs ≡ z ∷ zs → n < length xs
some_left n xs z zs e = let l = ap length e in let d = length-drop n xs in omega arith

module _ (W : World) where
  -- what a tick does to the host and the status
  abbrev pub Effect : Tick → State → State → Type 0
  Effect quiet m n = (n.host ≡ m.host) × (n.status ≡ m.status)
  Effect (does line) m n = (z : ℤ) × (zs : List ℤ) × (m.host.lines ≡ z ∷ zs) × (n.host ≡ taken m.host) × (n.status ≡ m.status)
  Effect (does (mark k)) m n = (fits (W.weight k) m.host ≡ true) × (n.host ≡ marked (W.weight k) k m.host) × (n.status ≡ m.status)
  Effect (does (close c)) m n = (n.host ≡ m.host) × (n.status ≡ status_of c)

  total_push : (ms : List Mark) (m : Mark) → total W (ms ++ (m ∷ [])) ≡ total W ms + W.weight m
  total_push [] m = omega arith
  total_push (k ∷ ms) m = let i = total_push ms m in omega arith

  -- the machine's host is what the observation leaves of h, and the status is that of the observation
  pub record Follows (h : Meaning) (o : Observation) (m : State) : Type 0 where
    pub host : m.host ≡ remaining W h o
    pub status : m.status ≡ o.status
    pub lines : o.lines ≤ length h.lines
    pub paper : total W o.marks ≤ h.paper

  marked_is : (g : ℕ) (k : Mark) (m : Meaning) → fits g m ≡ true → marked g k m ≡ meaning m.lines (m.marks ++ (k ∷ [])) (m.paper - g)
  marked_is g k m e = ap (λ (b : Bool). cond b (meaning m.lines (m.marks ++ (k ∷ [])) (m.paper - g)) m) e

  follows_tick : (t : Tick) (h : Meaning) (o : Observation) (m n : State) → Effect t m n → Follows h o m → Follows h (noted t o) n
  follows_tick quiet h o m n e f = record { host = e.0 ∙ f.host; status = e.1 ∙ f.status; lines = f.lines; paper = f.paper }
  follows_tick (does line) h o m n e f = record {
    host = e.3 ∙ ap taken f.host ∙ ap (λ (ls : List ℤ). meaning ls (h.marks ++ o.marks) (h.paper - total W o.marks)) (rest_drop o.lines h.lines);
    status = e.4 ∙ f.status;
    lines = some_left o.lines h.lines e.0 e.1 (ap (λ (x : Meaning). x.lines) (sym f.host) ∙ e.2);
    paper = f.paper;
  }
  follows_tick (does (mark k)) h o m n e f =
      let fit : W.weight k ≤ m.host.paper = leb-true (W.weight k) m.host.paper e.0 in
      let left : m.host.paper ≡ h.paper - total W o.marks = ap (λ (x : Meaning). x.paper) f.host in
      let more : total W (o.marks ++ (k ∷ [])) ≡ total W o.marks + W.weight k = total_push o.marks k in
      let known : total W o.marks ≤ h.paper = f.paper in
      let less : m.host.paper - W.weight k ≡ h.paper - total W (o.marks ++ (k ∷ [])) = omega arith in
      let longer : m.host.marks ++ (k ∷ []) ≡ h.marks ++ (o.marks ++ (k ∷ [])) = ap (λ (x : Meaning). x.marks ++ (k ∷ [])) f.host ∙ append_assoc h.marks o.marks (k ∷ []) in
      record {
        host = e.1 ∙ marked_is (W.weight k) k m.host e.0 ∙ (λ i. meaning (f.host i).lines (longer i) (less i));
        status = e.2 ∙ f.status;
        lines = f.lines;
        paper = omega arith;
      }
  follows_tick (does (close c)) h o m n e f = record { host = e.0 ∙ f.host; status = e.1; lines = f.lines; paper = f.paper }

  pub shown_from : (h : Meaning) (o : Observation) (m : State) → Follows h o m → shown h m ≡ o
  shown_from h o m f =
      let count : length h.lines - length m.host.lines ≡ o.lines =
      let e = ap (λ (x : Meaning). length x.lines) f.host in let d = length-drop o.lines h.lines in let l = f.lines in omega arith in
      let printed : drop (length h.marks) m.host.marks ≡ o.marks =
      ap (λ (x : Meaning). drop (length h.marks) x.marks) f.host ∙ drop_at h.marks o.marks (length h.marks) refl in
      λ i. record { lines = count i; marks = printed i; status = f.status i }

  pub shows : (h : Meaning) (o : Observation) (m : State) → Follows h o m → Shows W h o m
  shows h o m f = record { shown_is = shown_from h o m f; host_is = f.host; enough_lines = f.lines; enough_paper = f.paper }

  module _ (code : List ℕ) (used : ℕ) where
    -- the machine goes through these ticks, one instruction each
    pub data Goes : State → List Tick → State → Type 0 where
      done : {m : State} → Goes m [] m
      tick : {m n : State} {t : Tick} {ts : List Tick} (i : Instruction) → m.status ≡ Running → fetch code used m.address ≡ Some i →
          Effect t m (carry_out W i m) → Goes (carry_out W i m) ts n → Goes m (t ∷ ts) n

    -- a step whose end is known by an equation
    pub tick_to : {m o n : State} {t : Tick} {ts : List Tick} (i : Instruction) → m.status ≡ Running → fetch code used m.address ≡ Some i →
        carry_out W i m ≡ o → Effect t m o → Goes o ts n → Goes m (t ∷ ts) n
    tick_to {m} {n = n} {t = t} {ts = ts} i s f e a g =
        tick i s f (subst (λ (x : State). Effect t m x) (sym e) a) (subst (λ (x : State). Goes x ts n) (sym e) g)

    pub join : {m n o : State} {ts us : List Tick} → Goes m ts n → Goes n us o → Goes m (ts ++ us) o
    join done h = h
    join (tick i s f e g) h = tick i s f e (join g h)

    -- two quiet stretches
    pub quietly : {m n o : State} (i j : ℕ) → Goes m (quiets i) n → Goes n (quiets j) o → Goes m (quiets (i + j)) o
    quietly {m} {n} {o} i j g h = rw (← (replicate-append-replicate i j quiet)) (join g h)

    one_step : (m : State) (i : Instruction) → m.status ≡ Running → fetch code used m.address ≡ Some i → step W code used m ≡ carry_out W i m
    one_step m i s f = rw (s, f)

    -- what is seen of n steps, when the machine goes through ts and is then right about the rest
    pub notes : {m n : State} {ts : List Tick} (h : Meaning) (o : Observation) → Goes m ts n → Follows h o m → (more : List Tick) (N : ℕ) →
        ((M : ℕ) (q : Observation) → N ≡ length ts + M → Follows h q n → Follows h (all_noted q (take M more)) (run W code used M n)) →
        Follows h (all_noted o (take N (ts ++ more))) (run W code used N m)
    notes h o done f more N k = k N o (omega arith) f
    notes h o (tick i s g e r) f more zero k = f
    notes h o (tick {m = m} {t = t} {ts = ts} i s g e r) f more (suc N) k =
        subst (λ (x : State). Follows h (all_noted (noted t o) (take N (ts ++ more))) (run W code used N x)) (sym (one_step m i s g))
        (notes h (noted t o) r (follows_tick t h o m (carry_out W i m) e f) more N (λ M q l. k M q (omega arith)))
