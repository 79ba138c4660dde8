-- A token that a state takes is refused for the use of its name or number, or else by what is counted.
use Rattle.grammar.specs.declared.state.State.{State as Recognised}
use Rattle.std.proofs.Common.{◌≡◌, ℕ, suc, ◌-◌, min, Bool, true, false, cond, ◌&&◌, ◌||◌, leb, List, [], ◌∷◌, ◌++◌, map, reverse, length, sym, refl, ap, ◌∙◌, subst, arith}
use mathlib.Core.Option as option
use mathlib.Core.Option.{Option, none, some, none-ne-some}
use lib.ListN.{length-map}
use Rattle.std.proofs.lemmas.Bool.{false≢true}
use Rattle.std.proofs.lemmas.Bool.Decides.{nat_tests}
use Rattle.std.proofs.lemmas.List.{reverse-reverse}
use Rattle.std.specs.Prelude.{Some, None}
use Rattle.fault.specs.declared.Refusal.{Refusal}
use Rattle.fault.specs.declared.Refusal.TheVariants.{TooManyOperators, TooDeep, TooManyTargets}
use Rattle.fault.specs.Refusals.{numbered}
use Rattle.token.specs.Tokens as token
use Rattle.token.specs.Tokens.{Token, keyword, sign, Placed}
use Rattle.token.specs.declared.kinds.Keyword.TheVariants.{If}
use Rattle.token.specs.declared.kinds.Sign.TheVariants.{Open}
use Rattle.trees.specs.Trees.{Name}
use Rattle.arithmetic.specs.Words.{Words}
use Rattle.runs.specs.Code.{Layout}
use Rattle.grammar.specs.Recogniser.{stack_step, reach}
use Rattle.grammar.specs.Tests.{is}
use Rattle.limits.specs.Uses.{Role, Use, use_of, before_of, name_role, is_listed, is_operator, operators, depth, parts, names}
use Rattle.limits.specs.Rules.{operator_limit, depth_limit, list_limit, tokens_of}
use Rattle.limits.specs.Refusals.{lowest, or_else, limit_checks_at, refused}
use Rattle.limits.specs.States.{state_role}
use Rattle.limits.specs.Pass.{or_fault, pass}
use Rattle.limits.proofs.Configs.{role_by_state}
use Rattle.emission.specs.Actions.{perform}
use Rattle.emission.specs.Draft.{Draft}
use Rattle.emission.specs.declared.state.State.{State}
use Rattle.emission.specs.declared.state.State.TheVariants.{Start}
use Rattle.emission.specs.Table.{Entry, Return, Translator, translator, translated, draft_step, Move, refuse, leave, enter, move}
use Rattle.emission.specs.Classes.{class}
use Rattle.emission.specs.Control.{control_of, control, control_in}
use Rattle.emission.specs.Returns.{comes_back, AllBelow}
use Rattle.emission.proofs.Stepping as stepping
use Rattle.emission.proofs.Controls.{control_step, control_reach}
use Rattle.emission.proofs.Standing.{text_below, text_nested}
use Rattle.emission.proofs.Waits.{text_shown}
use Rattle.symbols.specs.declared.table.Table.{Table}
use Rattle.symbols.specs.Mentions.{uses_of, use_refusal}
use Rattle.symbols.proofs.Exact.{is_long_lem, is_second, is_other, no_cell_left, no_label_left}
use Rattle.symbols.proofs.Whole.{same_uses}
use Rattle.assembly.specs.Plans.{Plan, Rooms, acted}
use Rattle.reading.specs.declared.counts.Counts.{Counts}
use Rattle.reading.specs.declared.returns.Return.{Return as Coded}
use Rattle.reading.specs.Steps.{return_code, Found, leaving}
use Rattle.reading.specs.Counting.{form_refusal, Counted}
use Rattle.reading.specs.Reads.{role_at, current, room, cells_of, symbol_of, label_at, mentions, refused_first, Reads}
use Rattle.reading.specs.TokenLaws.{refused_at, use_by, listed_by, at_token, use_here, ifs_here}
use Rattle.reading.proofs.Leaving.{finding}

-- The stack at a token that one of its states takes.

module _ (l : Layout) (number : Name → ℕ) (q : Rooms) (t : Token) where
  -- the translator takes it too
  abbrev pub Steps : List Return → Draft → Type 0
  Steps k d = (z : Translator) × (draft_step l (translator k d) t ≡ some z)

  -- a state takes it, with an address and an entry
  abbrev Takes : ℕ × Entry → List Return → Plan → Type 0
  Takes v k p = (leaving q (class t) (map return_code k) p).taken ≡ some v

  by_move : (v : ℕ × Entry) (s : Return) (k : List Return) (d : Draft) (p : Plan) (m : Move) → move s.state t ≡ m → Takes v (s ∷ k) p →
      ((e : Draft) (r : Plan) → Takes v k r → Steps k e) → Steps (s ∷ k) d
  by_move v s k d p refuse f h rest = absurd (none-ne-some v (sym (ap (λ (z : Found). z.taken) (finding number l q t s k p refuse f)) ∙ h))
  by_move v s k d p (enter e) f h rest = (_, stepping.entered l s k d t e f)
  by_move v s k d p (leave b) f h rest =
      let x = rest (perform l b s.address [] d) (acted q b (min s.address 65535) 0 p) (sym (ap (λ (z : Found). z.taken) (finding number l q t s k p (leave b) f)) ∙ h) in
      (x.0, stepping.left l s k d t b f ∙ x.1)

  steps : (v : ℕ × Entry) (k : List Return) (d : Draft) (p : Plan) → Takes v k p → Steps k d
  steps v [] d p h = absurd (none-ne-some v h)
  steps v (s ∷ k) d p h = by_move v s k d p (move s.state t) refl h (steps v k)

-- IF is taken by the current state alone, which is the start of a command.

if_token : (t : Token) → is (keyword If) t ≡ true → t ≡ keyword If
if_token t h = grind arith

if_entered : (s : State) (e : Entry) → move s (keyword If) ≡ enter e → s ≡ Start
if_entered s e h = grind arith

not_below : (s : State) → comes_back s ≡ true → s ≡ Start → ⊥
not_below s b e = false≢true (ap comes_back (sym e) ∙ b)

module _ (number : Name → ℕ) (l : Layout) (q : Rooms) where
  -- what a stack comes to at IF
  abbrev At : List Return → Plan → Found
  At k p = leaving q (class (keyword If)) (map return_code k) p

  -- states to return to do not take it
  no_if : (k : List Return) (p : Plan) → AllBelow k → (At k p).taken ≡ none
  no_if [] p b = refl
  no_if (s ∷ k) p b = go (move s.state (keyword If)) refl (λ r. no_if k r b.1)
    where
      go : (m : Move) → move s.state (keyword If) ≡ m → ((r : Plan) → (At k r).taken ≡ none) → (At (s ∷ k) p).taken ≡ none
      go refuse f rest = ap (λ (z : Found). z.taken) (finding number l q (keyword If) s k p refuse f)
      go (enter e) f rest = absurd (not_below s.state b.0 (if_entered s.state e f))
      go (leave a) f rest = ap (λ (z : Found). z.taken) (finding number l q (keyword If) s k p (leave a) f) ∙ rest (acted q a (min s.address 65535) 0 p)

  if_taken : (v : ℕ × Entry) (s : Return) (k : List Return) (p : Plan) → AllBelow k → (At (s ∷ k) p).taken ≡ some v →
      (s.state ≡ Start) × ((At (s ∷ k) p).below ≡ map return_code k)
  if_taken v s k p b h = go (move s.state (keyword If)) refl
    where
      go : (m : Move) → move s.state (keyword If) ≡ m → (s.state ≡ Start) × ((At (s ∷ k) p).below ≡ map return_code k)
      go refuse f = absurd (none-ne-some v (sym (ap (λ (z : Found). z.taken) (finding number l q (keyword If) s k p refuse f)) ∙ h))
      go (enter e) f = (if_entered s.state e f, ap (λ (z : Found). z.below) (finding number l q (keyword If) s k p (enter e) f))
      go (leave a) f =
          absurd (none-ne-some v (sym (ap (λ (z : Found). z.taken) (finding number l q (keyword If) s k p (leave a) f) ∙ no_if k (acted q a (min s.address 65535) 0 p) b) ∙ h))

  -- and below it are as many states as IFs are open, and one more
  ifs_by : (v : ℕ × Entry) (ts : List Token) (k : List Return) (d : Draft) (p : Plan) → translated l ts ≡ some (translator k d) → (At k p).taken ≡ some v →
      length (At k p).below - 1 ≡ length (parts (reverse ts))
  ifs_by v ts [] d p e h = absurd (none-ne-some v h)
  ifs_by v ts (s ∷ k) d p e h =
      let x = if_taken v s k p (text_below l ts s k d e) h in
      let n : length k ≡ suc (length (parts (reverse ts))) = text_nested l ts s k d e x.0 in
      ap (λ (z : List Coded). length z - 1) x.1 ∙ (let m = length-map k return_code in omega arith)

  ifs_are : (v : ℕ × Entry) (t : Token) (ts : List Token) (k : List Return) (d : Draft) (p : Plan) → translated l ts ≡ some (translator k d) →
      (leaving q (class t) (map return_code k) p).taken ≡ some v → is (keyword If) t ≡ true →
      length (leaving q (class t) (map return_code k) p).below - 1 ≡ length (parts (reverse ts))
  ifs_are v t ts k d p e h i =
      subst (λ (u : Token). (leaving q (class u) (map return_code k) p).taken ≡ some v → length (leaving q (class u) (map return_code k) p).below - 1 ≡ length (parts (reverse ts)))
      (sym (if_token t i)) (ifs_by v ts k d p e) h

-- The use of a name that is taken is what the current state says.

same_role : (s : State) (r : Recognised) (b : Bool) → control_of s ≡ r ∷ [] → state_role r b ≡ role_at s b
same_role s r b h = grind arith

module _ (l : Layout) (ts : List Token) (after : List Token) where
  role_by : (k : List Return) (d : Draft) (n : Name) (z : Translator) → translated l ts ≡ some (translator k d) → draft_step l (translator k d) (token.name n) ≡ some z →
      name_role (reverse ts) after ≡ role_at (current (map return_code k)) (before_of after)
  role_by [] d n z e h = absurd (none-ne-some z h)
  role_by (s ∷ k) d n z e h =
      let c = text_shown l ts s k d e in
      let stack : control (s ∷ k) ≡ c.0 ∷ control k = ap (λ (x : List Recognised). x ++ control k) c.1 in
      let there : reach ts ≡ some (c.0 ∷ control k) = sym (control_reach l ts) ∙ (λ i. option.map control_in (e i)) ∙ ap some stack in
      let next : stack_step (c.0 ∷ control k) (token.name n) ≡ some (control_in z) =
      ap (λ (x : List Recognised). stack_step x (token.name n)) (sym stack) ∙ sym (control_step l (translator (s ∷ k) d) (token.name n)) ∙ ap (option.map control_in) h in
      role_by_state ts c.0 (control k) (control_in z) n after there next ∙ same_role s.state c.0 (before_of after) c.1

  use_is : (t : Token) (k : List Return) (d : Draft) (z : Translator) → translated l ts ≡ some (translator k d) → draft_step l (translator k d) t ≡ some z →
      use_of (reverse ts) t after ≡ use_by (role_at (current (map return_code k)) (before_of after)) t
  use_is (token.name n) k d z e h = ap (λ (r : Role). some (record { role = r; spelling = n })) (role_by k d n z e h)
  use_is (token.number n) k d z e h = refl
  use_is (token.keyword j) k d z e h = refl
  use_is (token.sign s) k d z e h = refl
  use_is (token.other b) k d z e h = refl

-- The refusals 4 to 8 come before those of 9 to 11.

-- the lowest of five, or else z
abbrev lowest_or : Bool → Bool → Bool → Bool → Bool → Option ℕ → Option ℕ
lowest_or a b c d e z = cond a (some 4) (cond b (some 5) (cond c (some 6) (cond d (some 7) (cond e (some 8) z))))

first_five : (a b c d e : Bool) (z : Option ℕ) (n : ℕ) → lowest_or a b c d e none ≡ some n → lowest_or a b c d e z ≡ some n
first_five a b c d e z n h = grind arith

no_five : (a b c d e : Bool) (z : Option ℕ) → lowest_or a b c d e none ≡ none → lowest_or a b c d e z ≡ z
no_five a b c d e z h = grind arith

-- The refusals 9 to 11, by the tests.
forms : (a b c d : Bool) (r : Refusal) → cond a (Some TooManyOperators) (cond (b || c) (Some TooDeep) (cond d (Some TooManyTargets) None)) ≡ Some r →
    cond a (some 9) (cond b (some 10) (cond c (some 10) (cond d (some 11) none))) ≡ some (numbered r)
forms a b c d r h = grind arith

-- a count that stays at 65,535 reaches the limit of a list as the full one does
reaches : (n : ℕ) → leb list_limit (min n 65535) ≡ leb list_limit n
reaches n = grind (arith, nat_tests)

-- two counts of IFs that agree where they count
if_so : (b : Bool) (m n : ℕ) → (b ≡ true → m ≡ n) → (b && leb depth_limit m) ≡ (b && leb depth_limit n)
if_so true m n h = ap (leb depth_limit) (h refl)
if_so false m n h = refl

module _ (w : Words) (before : List Token) (t : Token) (rest : List Token) (us : List Use) where
  -- the lowest refusal at the token t, by its use
  abbrev pub Lowest : Option Use → Option ℕ
  Lowest o = lowest (limit_checks_at w before (t ∷ rest) us o)

  -- the lowest of 9 to 11
  abbrev later : Bool → Option ℕ
  later listed =
      cond (is_operator t && leb operator_limit (operators before)) (some 9)
      (cond (is (sign Open) t && leb depth_limit (depth before)) (some 10)
      (cond (is (keyword If) t && leb depth_limit (length (parts before))) (some 10) (cond (listed && leb list_limit (names before)) (some 11) none)))

  -- by a refusal of 4 to 8, if one stands, and else by the others
  by_use : (u : Use) (n : ℕ) → use_refusal w us u ≡ some n → Lowest (some u) ≡ some n
  by_use u n h =
      first_five (is_long_lem w u.role u.spelling) (is_second w us u.role u.spelling) (is_other w us u.role u.spelling) (no_cell_left w us u.role u.spelling)
      (no_label_left w us u.role u.spelling) (later (is_listed u.role)) n h

  no_use : (o : Option Use) → ((u : Use) → o ≡ some u → use_refusal w us u ≡ none) → Lowest o ≡ later (listed_by o)
  no_use none h = refl
  no_use (some u) h =
      no_five (is_long_lem w u.role u.spelling) (is_second w us u.role u.spelling) (is_other w us u.role u.spelling) (no_cell_left w us u.role u.spelling)
      (no_label_left w us u.role u.spelling) (later (is_listed u.role)) (h u refl)

  -- a reader's counts give the same refusal of 9 to 11
  same_forms : (c : Counts) (ifs : ℕ) (listed : Bool) (r : Refusal) → Counted before c → (is (keyword If) t ≡ true → ifs ≡ length (parts before)) →
      form_refusal c ifs listed t ≡ Some r → later listed ≡ some (numbered r)
  same_forms c ifs listed r h i f =
      let x = if_so (is (keyword If) t) ifs (length (parts before)) i in
      let y = ap (leb list_limit) h.names_are ∙ reaches (names before) in
      forms (is_operator t && leb operator_limit (operators before)) (is (sign Open) t && leb depth_limit (depth before))
      (is (keyword If) t && leb depth_limit (length (parts before))) (listed && leb list_limit (names before)) r
      (sym (λ j. cond (is_operator t && leb operator_limit (h.operators_are j)) (Some TooManyOperators)
      (cond ((is (sign Open) t && leb depth_limit (h.depth_is j)) || x j) (Some TooDeep) (cond (listed && y j) (Some TooManyTargets) None))) ∙ f)

-- The pass at the token.

module _ (w : Words) (text : List ℕ) (past : List Placed) (p : Placed) (ps : List Placed) (y : Plan) (k : List Coded) (c : Counts) (t : Table) where
  -- the uses that the table was told
  abbrev pub told : List Use
  told = uses_of (mentions w text past (p ∷ ps))

  -- the stack in memory is that of the translator
  on_stack : (h : Reads w text past (p ∷ ps) y k c t) (v : ℕ × Entry) → (at_token w text past p ps y k c t).taken ≡ some v →
      (leaving room (class p.token) (map return_code h.translator.stack) y).taken ≡ some v
  on_stack h v e = subst (λ (x : List Coded). (leaving room (class p.token) x y).taken ≡ some v) h.returns e

  -- the translator takes the token that a state takes
  pub taken_step : (h : Reads w text past (p ∷ ps) y k c t) (v : ℕ × Entry) → (at_token w text past p ps y k c t).taken ≡ some v →
      Steps (cells_of w text) (symbol_of w text) room p.token h.translator.stack h.translator.made
  taken_step h v e = steps (cells_of w text) (symbol_of w text) room p.token v h.translator.stack h.translator.made y (on_stack h v e)

  -- the use of the token is the one that the current state says
  pub use_taken : (h : Reads w text past (p ∷ ps) y k c t) (v : ℕ × Entry) → (at_token w text past p ps y k c t).taken ≡ some v →
      use_of (tokens_of past) p.token (tokens_of ps) ≡ use_here w text past p ps y k c t
  use_taken h v e =
      let s = taken_step h v e in
      ap (λ (b : List Token). use_of b p.token (tokens_of ps)) (sym (reverse-reverse (tokens_of past)))
      ∙ use_is (cells_of w text) (reverse (tokens_of past)) (tokens_of ps) p.token h.translator.stack h.translator.made s.0 h.reached s.1
      ∙ ap (λ (x : List Coded). use_by (role_at (current x) (before_of (tokens_of ps))) p.token) (sym h.returns)

  -- the text is refused for what stands at the token, or else for what is refused from the next token on
  pub pass_at : (h : Reads w text past (p ∷ ps) y k c t) (v : ℕ × Entry) (z : Translator) → (at_token w text past p ps y k c t).taken ≡ some v →
      draft_step (cells_of w text) h.translator p.token ≡ some z →
      refused_first w text
      ≡ or_else (refused (Lowest w (tokens_of past) p.token (tokens_of ps) told (use_here w text past p ps y k c t)) p.offset)
      (pass w (length text) (control_in z) (p.token ∷ tokens_of past) ps)
  pass_at h v z e f =
      let next : stack_step (control_in h.translator) p.token ≡ some (control_in z) =
      sym (control_step (cells_of w text) h.translator p.token) ∙ ap (option.map control_in) f in
      sym h.passes
      ∙ (λ i. or_fault (next i)
      (λ (x : List Recognised). or_else
      (refused (lowest (limit_checks_at w (tokens_of past) (p.token ∷ tokens_of ps) (sym (same_uses (label_at w text) past (p.token ∷ tokens_of ps)) i) (use_taken h v e i))) p.offset)
      (pass w (length text) x (p.token ∷ tokens_of past) ps)) p.offset)

  -- where the token is refused, the text is refused at its place
  stands : (h : Reads w text past (p ∷ ps) y k c t) (v : ℕ × Entry) (n : ℕ) → (at_token w text past p ps y k c t).taken ≡ some v →
      Lowest w (tokens_of past) p.token (tokens_of ps) told (use_here w text past p ps y k c t) ≡ some n →
      refused_first w text ≡ some (record { number = n; place = p.offset })
  stands h v n e f =
      let s = taken_step h v e in
      pass_at h v s.0 e s.1
      ∙ ap (λ (o : Option ℕ). or_else (refused o p.offset) (pass w (length text) (control_in s.0) (p.token ∷ tokens_of past) ps)) f

  -- where IF is taken, as many IFs are open as the stack says
  pub ifs_open : (h : Reads w text past (p ∷ ps) y k c t) (v : ℕ × Entry) → (at_token w text past p ps y k c t).taken ≡ some v → is (keyword If) p.token ≡ true →
      ifs_here w text past p ps y k c t ≡ length (parts (tokens_of past))
  ifs_open h v e i =
      ap (λ (x : List Coded). length (leaving room (class p.token) x y).below - 1) h.returns
      ∙ ifs_are (symbol_of w text) (cells_of w text) room v p.token (reverse (tokens_of past)) h.translator.stack h.translator.made y h.reached (on_stack h v e) i
      ∙ ap (λ (b : List Token). length (parts b)) (reverse-reverse (tokens_of past))

  -- a refusal of 4 to 8 stands at the use
  pub no_symbol : Reads w text past (p ∷ ps) y k c t → (a : ℕ) (e : Entry) (u : Use) (n : ℕ) → (at_token w text past p ps y k c t).taken ≡ some (a, e) →
      use_here w text past p ps y k c t ≡ some u → use_refusal w told u ≡ some n → refused_first w text ≡ some (record { number = n; place = p.offset })
  no_symbol h a e u n f i r = stands h (a, e) n f (ap (Lowest w (tokens_of past) p.token (tokens_of ps) told) i ∙ by_use w (tokens_of past) p.token (tokens_of ps) told u n r)

  -- or none of these, and one of 9 to 11
  pub no_form : Reads w text past (p ∷ ps) y k c t → (a : ℕ) (e : Entry) (r : Refusal) → (at_token w text past p ps y k c t).taken ≡ some (a, e) →
      ((u : Use) → use_here w text past p ps y k c t ≡ some u → use_refusal w told u ≡ none) →
      form_refusal c (ifs_here w text past p ps y k c t) (listed_by (use_here w text past p ps y k c t)) p.token ≡ Some r → refused_first w text ≡ refused_at r p.offset
  no_form h a e r f none_before g =
      stands h (a, e) (numbered r) f
      (no_use w (tokens_of past) p.token (tokens_of ps) told (use_here w text past p ps y k c t) none_before
      ∙ same_forms w (tokens_of past) p.token (tokens_of ps) told c (ifs_here w text past p ps y k c t) (listed_by (use_here w text past p ps y k c t)) r h.counted (ifs_open h (a, e) f) g)
