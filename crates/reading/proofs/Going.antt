-- One token without refusal: the reader goes on.
use Rattle.std.proofs.Common.{◌≡◌, ℕ, zero, suc, pred, eqb, ◌+◌, ◌-◌, ◌<◌, ◌≤◌, min, Bool, true, false, cond, ◌&&◌, ◌||◌, ◌⊎◌, List, [], ◌∷◌, ◌++◌, map, reverse, length, leb, sym, refl, ap, ◌∙◌, subst, inl, inr, arith}
use mathlib.Core.Option as option
use mathlib.Core.List.{reverse_aux}
use mathlib.Core.Option.{Option, none, some, none-ne-some, some-injective}
use mathlib.Mathlib.Data.List.Basic.{map-reverse_aux}
use lib.ListN.{length-map}
use Rattle.std.proofs.lemmas.Bool.{false≢true, leb-false, lt-leb, or_left, or_right, or_parts}
use Rattle.std.proofs.lemmas.List.{reverse-reverse}
use Rattle.std.specs.Prelude.{Some, None}
use Rattle.std.proofs.lemmas.Grind.{reverse_onto}
use Rattle.fault.specs.declared.Refusal.TheVariants.{TooManyOperators, TooDeep, TooManyTargets}
use Rattle.token.specs.Tokens as token
use Rattle.token.specs.Tokens.{Token, keyword, sign, Placed}
use Rattle.token.specs.declared.kinds.Keyword.TheVariants.{If, Of}
use Rattle.token.specs.declared.kinds.Sign.TheVariants.{Open, Close}
use Rattle.trees.specs.Trees.{Name}
use Rattle.trees.specs.declared.operator.Operator.{Operator}
use Rattle.trees.specs.declared.operator.Operator.TheVariants.{Plus, Minus, Times, Over}
use Rattle.arithmetic.specs.Words.{Words}
use Rattle.runs.specs.Code.{Layout, first_temporary}
use Rattle.runs.specs.declared.instruction.Instruction.TheVariants.{Bru}
use Rattle.grammar.specs.declared.state.State.{State as Recognised}
use Rattle.grammar.specs.Tests.{is, is_name, is_number, is_reserved, spelling}
use Rattle.grammar.specs.Machine.{Rows, stop, on, at_name, at_number, choose, Config}
use Rattle.grammar.specs.Recogniser.{stack_step, reach}
use Rattle.limits.specs.Uses.{is_operator, in_expression, count_if, operators, depth, parts, names, Role, definition, target, listed, variable_use, number_use, Use, made, before_of, name_role, use_of, with_use, uses_before, uses, is_definition, is_listed, Key, label_key, key, known, same_key}
use Rattle.limits.specs.Rules.{operator_limit, depth_limit, list_limit, code_limit, tokens_of}
use Rattle.limits.specs.Refusals.{lowest, or_else, used_so, limit_checks, refused}
use Rattle.limits.specs.Pass.{or_fault, pass}
use Rattle.limits.specs.States.{state_role}
use Rattle.limits.proofs.Configs.{depth_step, parts_step, role_by_state}
use Rattle.limits.proofs.Pasts.{past_of}
use Rattle.limits.proofs.Keys.{same_key_complete}
use Rattle.emission.specs.Room.{Sized}
use Rattle.emission.specs.Layouts.{layout}
use Rattle.emission.specs.Table.{to, Entry, table, returning, Return, all_entered, Translator, translator, translated, follow, draft_step, Move, refuse, leave, enter, move}
use Rattle.emission.specs.Draft.{Word, fixed, jump, jump_zero, Mark, pending, parenthesis, work, Draft, Definition, words_of, here, patch, operation, reduce, reduced, any, binds, loaded, left_off}
use Rattle.emission.specs.Actions.{operate, perform}
use Rattle.emission.specs.Control.{control_of, control, control_in}
use Rattle.emission.specs.Returns.{comes_back, AllBelow}
use Rattle.emission.specs.declared.action.Action.{Action}
use Rattle.emission.specs.declared.action.Action.TheVariants.{Nothing, DefineLabel, SetTarget, StoreTarget, KeepName, JumpToName, LoadName, FirstLabel, FurtherLabel, ReadName, SkipLine, PrintValue, EndLine, PushVariable, PushNumber, OpenGroup, CloseGroup, Operate, EndExpression, Compare, BeginThen, BeginElse, EndElse, EndProgram}
use Rattle.emission.specs.declared.state.State.{State}
use Rattle.emission.specs.declared.state.State.TheVariants.{Next, Start, Label, LetWord, LetName, LetEnd, GoWord, ToWord, ToName, OfWord, OfNames, OfComma, ReadWord, ReadNames, ReadComma, PrintWord, PrintList, LeftSide, RightSide, ThenPart, ElsePart, Operand, AfterOperand, Group}
use Rattle.emission.specs.Classes.{class}
use Rattle.emission.proofs.Pasts as pasts
use Rattle.emission.proofs.Stepping as stepping
use Rattle.emission.proofs.Rooms.{text_sized, operators_step}
use Rattle.emission.proofs.Image.{image}
use Rattle.emission.proofs.Controls.{control_step, control_reach}
use Rattle.emission.proofs.Waits.{text_shown}
use Rattle.emission.proofs.Standing.{text_below, text_nested, further}
use Rattle.emission.proofs.Tables.{by_class}
use Rattle.symbols.specs.Mentions.{Mention, uses_of, use_refusal, with_mention}
use Rattle.symbols.specs.Table.{Holds}
use Rattle.symbols.specs.Laws.{symbol_refusal, form_checks_at}
use Rattle.symbols.specs.declared.table.Table.{Table}
use Rattle.symbols.proofs.Whole.{same_uses, lowest_is}
use Rattle.assembly.specs.Drawn.{Drawn, Refers, Fits, Few}
use Rattle.assembly.specs.Plans.{Plan, Rooms, acted}
use Rattle.assembly.proofs.Acting.{acts}
use Rattle.reading.specs.declared.returns.Return.{Return as Coded}
use Rattle.reading.specs.References.{reference, numbering, Matches, another_use, both, Labelled}
use Rattle.reading.specs.TokenLaws.{use_by, listed_by, Told, at_token, use_here, ifs_here}
use Rattle.reading.specs.Reads.{role_at, current, room, return_room, all_tokens, words_by, cells_of, symbol_of, label_at, mentions, refused_first, KeptNext, KnownNext, Reads}
use Rattle.reading.specs.Steps.{return_code, Found, found, after_move, leaving, pushed_all, Kept, Takes, Refuses}
use Rattle.reading.specs.declared.counts.Counts.{Counts}
use Rattle.reading.specs.Counting.{counted, form_refusal, Counted}
use Rattle.reading.proofs.Staying.{stays}
use Rattle.reading.proofs.Leaving.{entry_of, no_entry, of_left, not_below, leaves}

-- Entries.

-- what takes a token is an entry of some state
entry_from : (q : Rooms) (t : Token) (ks : List Coded) (p : Plan) (a : ℕ) (e : Entry) → (leaving q (class t) ks p).taken ≡ some (a, e) → (s : State) × (move s t ≡ enter e)
entry_from q t [] p a e h = absurd (none-ne-some (a, e) h)
entry_from q t (r ∷ ks) p a e h =
    go (move r.state t) (λ b. entry_from q t ks (acted q b r.address 0 p) a e) refl
    (sym (ap (λ (m : Move). (after_move m r.address ks p (λ b. leaving q (class t) ks (acted q b r.address 0 p))).taken) (by_class r.state t)) ∙ h)
  where
    go : (m : Move) → ((b : Action) → (leaving q (class t) ks (acted q b r.address 0 p)).taken ≡ some (a, e) → (s : State) × (move s t ≡ enter e)) → move r.state t ≡ m →
        (after_move m r.address ks p (λ b. leaving q (class t) ks (acted q b r.address 0 p))).taken ≡ some (a, e) → (s : State) × (move s t ≡ enter e)
    go refuse ih f g = absurd (none-ne-some (a, e) g)
    go (leave b) ih f g = ih b g
    go (enter x) ih f g = (r.state, f ∙ ap enter (ap (λ (z : ℕ × Entry). z.1) (some-injective (r.address, x) (a, e) g)))

-- the actions that need not know what a name refers to, and define no label
abbrev pub plain_action : Action → Bool
plain_action Nothing = true
plain_action DefineLabel = false
plain_action SetTarget = false
plain_action StoreTarget = false
plain_action KeepName = false
plain_action JumpToName = false
plain_action LoadName = true
plain_action FirstLabel = false
plain_action FurtherLabel = false
plain_action ReadName = false
plain_action SkipLine = false
plain_action PrintValue = true
plain_action EndLine = false
plain_action PushVariable = false
plain_action PushNumber = false
plain_action OpenGroup = true
plain_action CloseGroup = true
plain_action (Operate o) = true
plain_action EndExpression = false
plain_action (Compare x) = true
plain_action BeginThen = true
plain_action BeginElse = true
plain_action EndElse = false
plain_action EndProgram = true

-- a keyword or a sign is taken by such an action
abbrev PlainRows : Rows Entry → Type 0
PlainRows stop = Unit {0}
PlainRows (on u e z) = (plain_action e.action ≡ true) × PlainRows z
PlainRows (at_name f z) = PlainRows z
PlainRows (at_number f z) = PlainRows z

plain_rows : (s : State) → PlainRows (table s)
plain_rows s = grind arith

module _ (t : Token) (e : Entry) (n : (is_name t || is_number t) ≡ false) where
  chosen_plain : (R : Rows Entry) → PlainRows R → choose R t ≡ some e → plain_action e.action ≡ true
  chosen_plain stop h f = absurd (none-ne-some e f)
  chosen_plain (on u x z) h f = pick (is u t) (chosen_plain z h.1) f
    where
      pick : (b : Bool) → (choose z t ≡ some e → plain_action e.action ≡ true) → cond b (some x) (choose z t) ≡ some e → plain_action e.action ≡ true
      pick true ih g = ap (λ (v : Entry). plain_action v.action) (sym (some-injective x e g)) ∙ h.0
      pick false ih g = ih g
  chosen_plain (at_name x z) h f = chosen_plain z h (sym (ap (λ b. cond b (some (x (spelling t))) (choose z t)) (or_parts (is_name t) (is_number t) n).0) ∙ f)
  chosen_plain (at_number x z) h f = chosen_plain z h (sym (ap (λ b. cond b (some (x (spelling t))) (choose z t)) (or_parts (is_name t) (is_number t) n).1) ∙ f)

  pub plain_entry : (s : State) → move s t ≡ enter e → plain_action e.action ≡ true
  plain_entry s f = chosen_plain (table s) (plain_rows s) (entry_of s t e f)

-- Counts.

-- no refusal of 9 to 11
pub record NoForm (c : Counts) (ifs : ℕ) (l : Bool) (t : Token) : Type 0 where
  pub operators_fit : is_operator t ≡ true → c.operators < operator_limit
  pub depth_fits : is (sign Open) t ≡ true → c.depth < depth_limit
  pub ifs_fit : is (keyword If) t ≡ true → ifs < depth_limit
  pub list_fits : l ≡ true → c.names < list_limit

no_form_of : (c : Counts) (ifs : ℕ) (l : Bool) (t : Token) → form_refusal c ifs l t ≡ None → NoForm c ifs l t
no_form_of c ifs l t e =
    let x = go (is_operator t) (leb operator_limit c.operators) (is (sign Open) t) (leb depth_limit c.depth) (is (keyword If) t) (leb depth_limit ifs) l (leb list_limit c.names) e in
    record {
      operators_fit = λ q. leb-false operator_limit c.operators (x.0 q);
      depth_fits = λ q. leb-false depth_limit c.depth (x.1 q);
      ifs_fit = λ q. leb-false depth_limit ifs (x.2 q);
      list_fits = λ q. leb-false list_limit c.names (x.3 q);
    }
  where
    go : (a b c d e f g h : Bool) → cond (a && b) (Some TooManyOperators) (cond ((c && d) || (e && f)) (Some TooDeep) (cond (g && h) (Some TooManyTargets) None)) ≡ None →
        (a ≡ true → b ≡ false) × (c ≡ true → d ≡ false) × (e ≡ true → f ≡ false) × (g ≡ true → h ≡ false)
    go a b c d e f g h q = (grind arith, grind arith, grind arith, grind arith)

counted_more : (past : List Token) (c : Counts) (t : Token) → Counted past c → (is_operator t ≡ true → c.operators < operator_limit) →
    (is (sign Open) t ≡ true → c.depth < depth_limit) → (is (keyword If) t ≡ true → length (parts past) < depth_limit) → Counted (t ∷ past) (counted t c)
counted_more past c t h o d i = record {
  operators_are = ops (is_operator t) (in_expression t);
  depth_is = deep (is (sign Open) t) (is (sign Close) t) (in_expression t);
  names_are = named (is_reserved t) (is_name t);
  few_operators = operators_step t past h.few_operators (λ e. let x = o e in let y = h.operators_are in omega arith);
  few_open = depth_step t past h.few_open (λ e. let x = d e in let y = h.depth_is in omega arith);
  few_ifs = parts_step t past h.few_ifs i;
}
  where
    ops : (a b : Bool) → cond a (min (c.operators + 1) 65535) (cond b c.operators 0) ≡ cond a (suc (operators past)) (cond b (operators past) 0)
    ops a b = let x = h.operators_are in let l = h.few_operators in grind arith

    deep : (a b z : Bool) → cond a (min (c.depth + 1) 65535) (cond b (c.depth - 1) (cond z c.depth 0)) ≡ cond a (suc (depth past)) (cond b (pred (depth past)) (cond z (depth past) 0))
    deep a b z = let x = h.depth_is in let l = h.few_open in grind arith

    named : (a b : Bool) → cond a 0 (cond b (min (c.names + 1) 65535) c.names) ≡ min (cond a 0 (count_if b (names past))) 65535
    named a b = let x = h.names_are in grind arith

-- Roles.

abbrev RoleOf : List Recognised → Bool → Role → Type 0
RoleOf [] o x = Unit {0}
RoleOf (r ∷ rs) o x = state_role r o ≡ x

role_of : (s : State) (o : Bool) → RoleOf (control_of s) o (role_at s o)
role_of s o = grind arith

-- the use of a token that a translator takes is what its current state says
use_is : (y : Layout) (past rest : List Token) (t : Token) (s : Return) (k : List Return) (d : Draft) (z : Translator) →
    translated y (reverse past) ≡ some (translator (s ∷ k) d) → draft_step y (translator (s ∷ k) d) t ≡ some z →
    use_of past t rest ≡ use_by (role_at s.state (before_of rest)) t
use_is y past rest (token.name n) s k d z e f =
    let c = text_shown y (reverse past) s k d e in
    let g : control (s ∷ k) ≡ c.0 ∷ control k = ap (λ z. z ++ control k) c.1 in
    let q : reach (reverse past) ≡ some (c.0 ∷ control k) = sym (control_reach y (reverse past)) ∙ ap (option.map control_in) e ∙ ap (λ (l : List Recognised). some l) g in
    let v : stack_step (c.0 ∷ control k) (token.name n) ≡ some (control_in z) =
    ap (λ z. stack_step z (token.name n)) (sym g) ∙ sym (control_step y (translator (s ∷ k) d) (token.name n)) ∙ ap (option.map control_in) f in
    let x = role_by_state (reverse past) c.0 (control k) (control_in z) n rest q v in
    let r : state_role c.0 (before_of rest) ≡ role_at s.state (before_of rest) =
    subst (λ (l : List Recognised). RoleOf l (before_of rest) (role_at s.state (before_of rest))) c.1 (role_of s.state (before_of rest)) in
    ap (λ (b : List Token). some (made (name_role b rest) n)) (sym (reverse-reverse past)) ∙ ap (λ (v : Role). some (made v n)) (x ∙ r)
use_is y past rest (token.number n) s k d z e f = refl
use_is y past rest (keyword j) s k d z e f = refl
use_is y past rest (sign j) s k d z e f = refl
use_is y past rest (token.other b) s k d z e f = refl

-- The IFs that are open where one more begins.

no_if_below : (q : Rooms) (k : List Return) (p : Plan) → AllBelow k → (leaving q 9 (map return_code k) p).taken ≡ none
no_if_below q [] p b = refl
no_if_below q (r ∷ k) p b = go r.state b.0 (λ p. no_if_below q k p b.1)
  where
    go : (s : State) → comes_back s ≡ true → ((p : Plan) → (leaving q 9 (map return_code k) p).taken ≡ none) →
        (leaving q 9 (record { state = s; address = min r.address 65535 } ∷ map return_code k) p).taken ≡ none
    go s e ih = grind arith

if_starts : (q : Rooms) (s : Return) (k : List Return) (p : Plan) (a : ℕ) (e : Entry) → AllBelow k → (leaving q 9 (map return_code (s ∷ k)) p).taken ≡ some (a, e) →
    (s.state ≡ Start) × ((leaving q 9 (map return_code (s ∷ k)) p).below ≡ map return_code k)
if_starts q s k p a e b = go s.state (λ x. no_if_below q k x b)
  where
    go : (r : State) → ((x : Plan) → (leaving q 9 (map return_code k) x).taken ≡ none) → (leaving q 9 (record { state = r; address = min s.address 65535 } ∷ map return_code k) p).taken ≡ some (a, e) →
        (r ≡ Start) × ((leaving q 9 (record { state = r; address = min s.address 65535 } ∷ map return_code k) p).below ≡ map return_code k)
    go r ih h = grind arith

if_is : (t : Token) → is (keyword If) t ≡ true → class t ≡ 9
if_is t e = grind arith

-- What a name or a number refers to.

-- a label by its symbol, a variable or a number by its cell
abbrev pub Means : (Name → ℕ) → Layout → Role → Name → ℕ → Type 0
Means number y definition n r = r ≡ number n
Means number y target n r = r ≡ number n
Means number y listed n r = r ≡ number n
Means number y variable_use n r = r ≡ y.variable_cell n
Means number y number_use n r = r ≡ y.literal_cell n

abbrev pub UseMeans : (Name → ℕ) → Layout → Option Use → ℕ → Type 0
UseMeans number y none r = Unit {0}
UseMeans number y (some u) r = Means number y u.role u.spelling r

means_of : (w : Words) (ts : List Token) (q : Role) (n : Name) (r : ℕ) → r ≡ reference w (uses ts) (made q n) → Means (numbering w ts) (layout w ts) q n r
means_of w ts q n r e = grind arith

abbrev Entered : (Entry → Type 0) → Option Entry → Type 0
Entered P none = Unit {0}
Entered P (some e) = P e

module _ (number : Name → ℕ) (y : Layout) (d : Draft) (p : Plan) (n : Name) (r : ℕ) where
  name_refers : (s : State) (o : Bool) → Entered (λ e. Means number y (role_at s o) n r → Refers number y e.action n r d p) (choose (table s) (token.name n))
  name_refers s o = grind arith

  number_refers : (s : State) → Entered (λ e. r ≡ y.literal_cell n → Refers number y e.action n r d p) (choose (table s) (token.number n))
  number_refers s = grind arith

  plain_refers : (b : Action) → plain_action b ≡ true → (b ≡ LoadName → p.kept ≡ y.variable_cell d.kept) → Refers number y b n r d p
  plain_refers b e l = grind arith

-- what the action of an entry needs to know, at the token that the entry takes
refers_at : (number : Name → ℕ) (y : Layout) (t : Token) (s q : State) (o : Bool) (e : Entry) (r : ℕ) (d : Draft) (p : Plan) → move q t ≡ enter e →
    ((is_name t || is_number t) ≡ true → move s t ≡ enter e) → UseMeans number y (use_by (role_at s o) t) r → (e.action ≡ LoadName → p.kept ≡ y.variable_cell d.kept) →
    Refers number y e.action (spelling t) r d p
refers_at number y (token.name n) s q o e r d p f g m l =
    subst (Entered (λ x. Means number y (role_at s o) n r → Refers number y x.action n r d p)) (entry_of s (token.name n) e (g refl)) (name_refers number y d p n r s o) m
refers_at number y (token.number n) s q o e r d p f g m l =
    subst (Entered (λ x. r ≡ y.literal_cell n → Refers number y x.action n r d p)) (entry_of s (token.number n) e (g refl)) (number_refers number y d p n r s) m
refers_at number y (keyword j) s q o e r d p f g m l = plain_refers number y d p [] r e.action (plain_entry (keyword j) e refl q f) l
refers_at number y (sign j) s q o e r d p f g m l = plain_refers number y d p [] r e.action (plain_entry (sign j) e refl q f) l
refers_at number y (token.other b) s q o e r d p f g m l = plain_refers number y d p [] r e.action (plain_entry (token.other b) e refl q f) l

-- No refusal stands at the token.

no_symbol_left : (w : Words) (us vs : List Use) (o : Option Use) → us ≡ vs → ((u : Use) → o ≡ some u → use_refusal w us u ≡ none) → symbol_refusal w vs o ≡ none
no_symbol_left w us vs none e f = refl
no_symbol_left w us vs (some u) e f = ap (λ z. use_refusal w z u) (sym e) ∙ f u refl

both_not : (a : Bool) (m n : ℕ) → (a ≡ true → n < m) → (a && leb m n) ≡ false
both_not true m n f = lt-leb m n (f refl)
both_not false m n f = refl

no_form_left : (past rest : List Token) (c : Counts) (ifs : ℕ) (t : Token) (o : Option Use) → Counted past c → NoForm c ifs (listed_by o) t →
    (is (keyword If) t ≡ true → ifs ≡ length (parts past)) → lowest (form_checks_at past (t ∷ rest) o) ≡ none
no_form_left past rest c ifs t o h f i =
    let x : (is_operator t && leb operator_limit (operators past)) ≡ false = both_not (is_operator t) operator_limit (operators past) (λ e. let z = f.operators_fit e in let v = h.operators_are in omega arith) in
    let y : (is (sign Open) t && leb depth_limit (depth past)) ≡ false = both_not (is (sign Open) t) depth_limit (depth past) (λ e. let z = f.depth_fits e in let v = h.depth_is in omega arith) in
    let z : (is (keyword If) t && leb depth_limit (length (parts past))) ≡ false = both_not (is (keyword If) t) depth_limit (length (parts past)) (λ e. let z = f.ifs_fit e in let v = i e in omega arith) in
    (λ j. cond (x j) (some 9) (cond (y j) (some 10) (cond (z j) (some 10) (cond (so o f.list_fits j) (some 11) none))))
  where
    so : (o : Option Use) → (listed_by o ≡ true → c.names < list_limit) → used_so (λ r s. is_listed r && leb list_limit (names past)) o ≡ false
    so none g = refl
    so (some u) g = both_not (is_listed u.role) list_limit (names past) (λ e. let z = g e in let v = h.names_are in omega arith)

-- The name that is kept after GO TO.

abbrev IsNamed : List Token → Type 0
IsNamed [] = ⊥
IsNamed (t ∷ b) = is_name t ≡ true

abbrev Named : List Token → List Return → Type 0
Named b [] = Unit {0}
Named b (r ∷ k) = r.state ≡ ToName → IsNamed b

named : (y : Layout) (c : Config) → Named (past_of c) (image y c).stack
named y c = grind arith

abbrev top_state : List Return → State
top_state [] = Next
top_state (r ∷ k) = r.state

-- only the state after TO keeps a name
abbrev KeepsName : State → Entry → Type 0
KeepsName s e = (a : ℕ) (k : List Return) → top_state (all_entered a e.states ++ k) ≡ ToName → (s ≡ ToWord) × (e ≡ to KeepName ToName)

keeps_name : (s : State) (n : Name) → Entered (KeepsName s) (choose (table s) (token.name n))
keeps_name s n = grind arith

kept_entry : (t : Token) (s : State) (e : Entry) (a : ℕ) (k : List Return) → is_name t ≡ true → (is_name t ≡ true → move s t ≡ enter e) → top_state (all_entered a e.states ++ k) ≡ ToName →
    (s ≡ ToWord) × (e ≡ to KeepName ToName)
kept_entry (token.name n) s e a k i f g = subst (Entered (KeepsName s)) (entry_of s (token.name n) e (f refl)) (keeps_name s n) a k g
kept_entry (token.number n) s e a k i f g = absurd (false≢true i)
kept_entry (keyword j) s e a k i f g = absurd (false≢true i)
kept_entry (sign j) s e a k i f g = absurd (false≢true i)
kept_entry (token.other b) s e a k i f g = absurd (false≢true i)

-- it is a variable if OF comes next, and else a label
kept_means : (number : Name → ℕ) (y : Layout) (t : Token) (o : Bool) (r : ℕ) → is_name t ≡ true → UseMeans number y (use_by (role_at ToWord o) t) r →
    (o ≡ true → r ≡ y.variable_cell (spelling t)) × (o ≡ false → r ≡ number (spelling t))
kept_means number y (token.name n) true r i m = (λ e. m, λ e. absurd (false≢true (sym e)))
kept_means number y (token.name n) false r i m = (λ e. absurd (false≢true e), λ e. m)
kept_means number y (token.number n) o r i m = absurd (false≢true i)
kept_means number y (keyword j) o r i m = absurd (false≢true i)
kept_means number y (sign j) o r i m = absurd (false≢true i)
kept_means number y (token.other b) o r i m = absurd (false≢true i)

known_newest : (w : Words) (k : Key) (u : Use) (us : List Use) → key w u ≡ k → known w k (u ∷ us) ≡ true
known_newest w k u us e = or_left (same_key k (key w u)) (known w k us) (same_key_complete k (key w u) (sym e))

kept_known : (w : Words) (t : Token) (us : List Use) → is_name t ≡ true → known w (label_key (spelling t)) (with_use (use_by (role_at ToWord false) t) us) ≡ true
kept_known w (token.name n) us i = known_newest w (label_key n) (made target n) us refl
kept_known w (token.number n) us i = absurd (false≢true i)
kept_known w (keyword j) us i = absurd (false≢true i)
kept_known w (sign j) us i = absurd (false≢true i)
kept_known w (token.other b) us i = absurd (false≢true i)

-- What is told to the table.

told_holds : (w : Words) (text : List ℕ) (past : List Placed) (p : Placed) (ps : List Placed) (o : Option Use) (a b : Table) (r : ℕ) → Told w text past p ps o a b r →
    Holds w a (mentions w text past (p ∷ ps)) → Holds w b (with_mention p.offset (label_at w text (tokens_of past)) o (mentions w text past (p ∷ ps)))
told_holds w text past p ps none a b r e h = subst (λ (z : Table). Holds w z (mentions w text past (p ∷ ps))) (sym e) h
told_holds w text past p ps (some u) a b r e h = e.0

-- Definitions.

abbrev defines : Action → Bool
defines Nothing = false
defines DefineLabel = true
defines SetTarget = false
defines StoreTarget = false
defines KeepName = false
defines JumpToName = false
defines LoadName = false
defines FirstLabel = false
defines FurtherLabel = false
defines ReadName = false
defines SkipLine = false
defines PrintValue = false
defines EndLine = false
defines PushVariable = false
defines PushNumber = false
defines OpenGroup = false
defines CloseGroup = false
defines (Operate o) = false
defines EndExpression = false
defines (Compare x) = false
defines BeginThen = false
defines BeginElse = false
defines EndElse = false
defines EndProgram = false

module _ (y : Layout) where
  others_define_none : (b : Action) (a : ℕ) (n : Name) (d : Draft) → defines b ≡ false → (perform y b a n d).definitions ≡ d.definitions
  others_define_none b a n d e = grind arith

plain_defines : (b : Action) → plain_action b ≡ true → defines b ≡ false
plain_defines b e = grind arith

returning_defines : (s : State) (b : Action) → returning s ≡ some b → defines b ≡ false
returning_defines s b e = grind arith

-- Steps: what each action at a token keeps.

module _ (y : Layout) (t : Token) (Q : Draft → Type 0)
    (returned : (s : State) (b : Action) → comes_back s ≡ true → returning s ≡ some b → (a : ℕ) (d : Draft) → Q d → Q (perform y b a [] d))
    (taken : (s : State) (e : Entry) → move s t ≡ enter e → (a : ℕ) (d : Draft) → Q d → Q (perform y e.action a (spelling t) d)) where
  keeps_by : (s : Return) (k : List Return) (d : Draft) (z : Translator) → ((b : Action) → move s.state t ≡ leave b → Q d → Q (perform y b s.address [] d)) →
      ((x : Draft) → draft_step y (translator k x) t ≡ some z → Q x → Q z.made) → draft_step y (translator (s ∷ k) d) t ≡ some z → Q d → Q z.made
  keeps_by s k d z top ih e q = go (move s.state t) refl
    where
      go : (m : Move) → move s.state t ≡ m → Q z.made
      go refuse f = absurd (none-ne-some z (sym (stepping.refused y s k d t f) ∙ e))
      go (leave b) f = ih (perform y b s.address [] d) (sym (stepping.left y s k d t b f) ∙ e) (top b f q)
      go (enter v) f =
          subst (λ (u : Translator). Q u.made) (some-injective (follow y v s.address (spelling t) k d) z (sym (stepping.entered y s k d t v f) ∙ e)) (taken s.state v f s.address d q)

  keeps_below : (k : List Return) → AllBelow k → (d : Draft) (z : Translator) → draft_step y (translator k d) t ≡ some z → Q d → Q z.made
  keeps_below [] below d z e q = absurd (none-ne-some z e)
  keeps_below (s ∷ k) below d z e q =
      keeps_by s k d z (λ b f. returned s.state b below.0 (no_entry s.state t b f).1 s.address d) (λ x. keeps_below k below.1 x z) e q

  keeps : (s : Return) (k : List Return) → AllBelow k → (d : Draft) (z : Translator) → ((b : Action) → move s.state t ≡ leave b → Q d → Q (perform y b s.address [] d)) →
      draft_step y (translator (s ∷ k) d) t ≡ some z → Q d → Q z.made
  keeps s k below d z top e q = keeps_by s k d z top (λ x. keeps_below k below x z) e q

-- only a name or a number may change the definitions
same_definitions : (y : Layout) (t : Token) (s : Return) (k : List Return) (d : Draft) (z : Translator) → (is_name t || is_number t) ≡ false → AllBelow k →
    draft_step y (translator (s ∷ k) d) t ≡ some z → z.made.definitions ≡ d.definitions
same_definitions y t s k d z n below e =
    keeps y t (λ (x : Draft). x.definitions ≡ d.definitions)
    (λ q b c r a x h. others_define_none y b a [] x (returning_defines q b r) ∙ h)
    (λ q v f a x h. others_define_none y v.action a (spelling t) x (plain_defines v.action (plain_entry t v n q f)) ∙ h)
    s k below d z (λ b f h. others_define_none y b s.address [] d (returning_defines s.state b (no_entry s.state t b f).1) ∙ h) e refl

-- Definitions and mentions.

module _ (y : Layout) (d : Draft) (place address : ℕ) (seen : List Mention) (m : Matches d.definitions seen) (at : address ≡ min (here d) code_limit) (n : Name) (a : ℕ) where
  abbrev mentioned : Role → Mention
  mentioned r = record { used = made r n; place = place; address = address }

  or_variable : (o : Bool) → is_definition (cond o variable_use target) ≡ false
  or_variable true = refl
  or_variable false = refl

  name_matches : (s : State) (o : Bool) → Entered (λ e. Matches (perform y e.action a n d).definitions (mentioned (role_at s o) ∷ seen)) (choose (table s) (token.name n))
  name_matches Next o = tt
  name_matches Start o = both (mentioned definition) (here d) refl at m
  name_matches Label o = tt
  name_matches LetWord o = another_use (mentioned variable_use) refl m
  name_matches LetName o = tt
  name_matches LetEnd o = tt
  name_matches GoWord o = tt
  name_matches ToWord o = another_use (mentioned (cond o variable_use target)) (or_variable o) m
  name_matches ToName o = tt
  name_matches OfWord o = another_use (mentioned listed) refl m
  name_matches OfNames o = tt
  name_matches OfComma o = another_use (mentioned listed) refl m
  name_matches ReadWord o = another_use (mentioned variable_use) refl m
  name_matches ReadNames o = tt
  name_matches ReadComma o = another_use (mentioned variable_use) refl m
  name_matches PrintWord o = another_use (mentioned variable_use) refl m
  name_matches PrintList o = tt
  name_matches LeftSide o = tt
  name_matches RightSide o = tt
  name_matches ThenPart o = tt
  name_matches ElsePart o = tt
  name_matches Operand o = another_use (mentioned variable_use) refl m
  name_matches AfterOperand o = tt
  name_matches Group o = tt

  number_matches : (s : State) → Entered (λ e. Matches (perform y e.action a n d).definitions (mentioned number_use ∷ seen)) (choose (table s) (token.number n))
  number_matches Next = tt
  number_matches Start = tt
  number_matches Label = tt
  number_matches LetWord = tt
  number_matches LetName = tt
  number_matches LetEnd = tt
  number_matches GoWord = tt
  number_matches ToWord = tt
  number_matches ToName = tt
  number_matches OfWord = tt
  number_matches OfNames = tt
  number_matches OfComma = tt
  number_matches ReadWord = tt
  number_matches ReadNames = tt
  number_matches ReadComma = tt
  number_matches PrintWord = another_use (mentioned number_use) refl m
  number_matches PrintList = tt
  number_matches LeftSide = tt
  number_matches RightSide = tt
  number_matches ThenPart = tt
  number_matches ElsePart = tt
  number_matches Operand = another_use (mentioned number_use) refl m
  number_matches AfterOperand = tt
  number_matches Group = tt

module _ (y : Layout) (d after_left : Draft) (place address : ℕ) (seen : List Mention) (m : Matches d.definitions seen) (at : address ≡ min (here d) code_limit) (s : State) (o : Bool) (e : Entry) (a : ℕ) where
  matches_at : (t : Token) → ((is_name t || is_number t) ≡ true → (move s t ≡ enter e) × (after_left ≡ d)) →
      ((is_name t || is_number t) ≡ false → (perform y e.action a (spelling t) after_left).definitions ≡ d.definitions) →
      Matches (perform y e.action a (spelling t) after_left).definitions (with_mention place address (use_by (role_at s o) t) seen)
  matches_at (token.name n) f g =
      subst (λ (x : Draft). Matches (perform y e.action a n x).definitions (record { used = made (role_at s o) n; place = place; address = address } ∷ seen)) (sym (f refl).1)
      (subst (Entered (λ v. Matches (perform y v.action a n d).definitions (record { used = made (role_at s o) n; place = place; address = address } ∷ seen)))
      (entry_of s (token.name n) e (f refl).0) (name_matches y d place address seen m at n a s o))
  matches_at (token.number n) f g =
      subst (λ (x : Draft). Matches (perform y e.action a n x).definitions (record { used = made number_use n; place = place; address = address } ∷ seen)) (sym (f refl).1)
      (subst (Entered (λ v. Matches (perform y v.action a n d).definitions (record { used = made number_use n; place = place; address = address } ∷ seen)))
      (entry_of s (token.number n) e (f refl).0) (number_matches y d place address seen m at n a s))
  matches_at (keyword j) f g = subst (λ (ds : List Definition). Matches ds seen) (sym (g refl)) m
  matches_at (sign j) f g = subst (λ (ds : List Definition). Matches ds seen) (sym (g refl)) m
  matches_at (token.other b) f g = subst (λ (ds : List Definition). Matches ds seen) (sym (g refl)) m

-- The labels of jumps.

module _ (w : Words) (us : List Use) where
  words_behind : (v : Word) (ws : List Word) → Labelled w us (v ∷ ws) → Labelled w us ws
  words_behind (fixed i) ws h = h
  words_behind (jump l) ws h = h.1
  words_behind (jump_zero l) ws h = h.1

  word_before : (v : Word) (ws vs : List Word) → Labelled w us (v ∷ ws) → Labelled w us vs → Labelled w us (v ∷ vs)
  word_before (fixed i) ws vs h g = g
  word_before (jump l) ws vs h g = (h.0, g)
  word_before (jump_zero l) ws vs h g = (h.0, g)

  labelled_patch : (j t : ℕ) (ws : List Word) → Labelled w us ws → Labelled w us (patch j t ws)
  unfolding patch
  labelled_patch j t [] h = h
  labelled_patch j t (v ∷ ws) h = go (eqb (length ws) j) (labelled_patch j t ws (words_behind v ws h))
    where
      go : (b : Bool) → Labelled w us (patch j t ws) → Labelled w us (cond b (fixed (Bru t) ∷ ws) (v ∷ patch j t ws))
      go true ih = words_behind v ws h
      go false ih = word_before v ws (patch j t ws) h ih

  labelled_reduce : (p : Operator → Bool) (ms : List Mark) (cs : List ℕ) (n : ℕ) (ws : List Word) → Labelled w us ws → Labelled w us (reduce p ms cs n ws).words
  labelled_reduce p [] cs n ws h = h
  labelled_reduce p (parenthesis ∷ ms) cs n ws h = h
  labelled_reduce p (pending o ∷ ms) [] n ws h = h
  labelled_reduce p (pending o ∷ ms) (r ∷ []) n ws h = h
  labelled_reduce p (pending o ∷ ms) (r ∷ l ∷ cs) n ws h = go (p o) (labelled_reduce p ms ((first_temporary + n) ∷ cs) (suc n) (operation o l r n ws) h)
    where
      go : (b : Bool) → Labelled w us (reduce p ms ((first_temporary + n) ∷ cs) (suc n) (operation o l r n ws)).words →
          Labelled w us (cond b (reduce p ms ((first_temporary + n) ∷ cs) (suc n) (operation o l r n ws)) (work (pending o ∷ ms) (r ∷ l ∷ cs) n ws)).words
      go true ih = ih
      go false ih = h

  labelled_loaded : (cs : List ℕ) (n : ℕ) (ws : List Word) → Labelled w us ws → Labelled w us (loaded cs n ws)
  labelled_loaded [] n ws h = h
  labelled_loaded (c ∷ cs) zero ws h = h
  labelled_loaded (c ∷ cs) (suc n) ws h = h

  labelled_off : (ms : List Mark) (cs : List ℕ) (n : ℕ) (ws : List Word) → Labelled w us ws → Labelled w us (left_off ms cs n ws).words
  labelled_off [] cs n ws h = labelled_loaded cs n ws h
  labelled_off (parenthesis ∷ ms) cs n ws h = h
  labelled_off (pending o ∷ ms) cs n ws h = h

  -- what an action must know, so that the labels of its jumps are among the uses
  abbrev Needs : Action → Name → Draft → Type 0
  Needs Nothing n d = Unit {0}
  Needs DefineLabel n d = Unit {0}
  Needs SetTarget n d = Unit {0}
  Needs StoreTarget n d = Unit {0}
  Needs KeepName n d = Unit {0}
  Needs JumpToName n d = known w (label_key d.kept) us ≡ true
  Needs LoadName n d = Unit {0}
  Needs FirstLabel n d = known w (label_key n) us ≡ true
  Needs FurtherLabel n d = known w (label_key n) us ≡ true
  Needs ReadName n d = Unit {0}
  Needs SkipLine n d = Unit {0}
  Needs PrintValue n d = Unit {0}
  Needs EndLine n d = Unit {0}
  Needs PushVariable n d = Unit {0}
  Needs PushNumber n d = Unit {0}
  Needs OpenGroup n d = Unit {0}
  Needs CloseGroup n d = Unit {0}
  Needs (Operate o) n d = Unit {0}
  Needs EndExpression n d = Unit {0}
  Needs (Compare x) n d = Unit {0}
  Needs BeginThen n d = Unit {0}
  Needs BeginElse n d = Unit {0}
  Needs EndElse n d = Unit {0}
  Needs EndProgram n d = Unit {0}

  module _ (y : Layout) where
    labelled_operate : (o : Operator) (d : Draft) → Labelled w us (words_of d) → Labelled w us (words_of (operate o d))
    labelled_operate Plus d h = labelled_reduce any d.making.marks d.making.cells d.making.temporaries d.making.words h
    labelled_operate Minus d h = labelled_reduce any d.making.marks d.making.cells d.making.temporaries d.making.words h
    labelled_operate Times d h = labelled_reduce binds d.making.marks d.making.cells d.making.temporaries d.making.words h
    labelled_operate Over d h = labelled_reduce binds d.making.marks d.making.cells d.making.temporaries d.making.words h

    labelled_perform : (b : Action) (a : ℕ) (n : Name) (d : Draft) → Needs b n d → Labelled w us (words_of d) → Labelled w us (words_of (perform y b a n d))
    labelled_perform Nothing a n d m h = h
    labelled_perform DefineLabel a n d m h = h
    labelled_perform SetTarget a n d m h = h
    labelled_perform StoreTarget a n d m h = h
    labelled_perform KeepName a n d m h = h
    labelled_perform JumpToName a n d m h = (m, h)
    labelled_perform LoadName a n d m h = h
    labelled_perform FirstLabel a n d m h = (m, h)
    labelled_perform FurtherLabel a n d m h = (m, h)
    labelled_perform ReadName a n d m h = h
    labelled_perform SkipLine a n d m h = h
    labelled_perform PrintValue a n d m h = h
    labelled_perform EndLine a n d m h = h
    labelled_perform PushVariable a n d m h = h
    labelled_perform PushNumber a n d m h = h
    labelled_perform OpenGroup a n d m h = h
    labelled_perform CloseGroup a n d m h = h
    labelled_perform (Operate o) a n d m h = labelled_operate o d h
    labelled_perform EndExpression a n d m h =
        let v = reduced any d.making in
        labelled_off v.marks v.cells v.temporaries v.words (labelled_reduce any d.making.marks d.making.cells d.making.temporaries d.making.words h)
    labelled_perform (Compare x) a n d m h = h
    labelled_perform BeginThen a n d m h = h
    labelled_perform BeginElse a n d m h = labelled_patch (pred a) (suc (here d)) (fixed (Bru 0) ∷ words_of d) h
    labelled_perform EndElse a n d m h = labelled_patch (pred a) (here d) (words_of d) h
    labelled_perform EndProgram a n d m h = h

  abbrev ReturnNeeds : Draft → Option Action → Type 0
  ReturnNeeds d none = Unit {0}
  ReturnNeeds d (some b) = Needs b [] d

  return_needs : (d : Draft) (s : State) → (s ≡ ToName → known w (label_key d.kept) us ≡ true) → ReturnNeeds d (returning s)
  return_needs d s l = grind arith

  plain_needs : (d : Draft) (n : Name) (b : Action) → plain_action b ≡ true → Needs b n d
  plain_needs d n b e = grind arith

module _ (w : Words) (us : List Use) (d : Draft) (n : Name) where
  name_needs : (s : State) (o : Bool) → Entered (λ e. Needs w (made (role_at s o) n ∷ us) e.action n d) (choose (table s) (token.name n))
  name_needs s o = grind (arith, known_newest w (label_key n) (made listed n) us refl)

  number_needs : (s : State) → Entered (λ e. Needs w (made number_use n ∷ us) e.action n d) (choose (table s) (token.number n))
  number_needs s = grind arith

-- a use more
known_more : (w : Words) (k : Key) (o : Option Use) (us : List Use) → known w k us ≡ true → known w k (with_use o us) ≡ true
known_more w k none us h = h
known_more w k (some u) us h = or_right (same_key k (key w u)) (known w k us) h

labelled_more : (w : Words) (o : Option Use) (us : List Use) (ws : List Word) → Labelled w us ws → Labelled w (with_use o us) ws
labelled_more w o us [] h = h
labelled_more w o us (fixed i ∷ ws) h = labelled_more w o us ws h
labelled_more w o us (jump l ∷ ws) h = (known_more w (label_key l) o us h.0, labelled_more w o us ws h.1)
labelled_more w o us (jump_zero l ∷ ws) h = (known_more w (label_key l) o us h.0, labelled_more w o us ws h.1)

-- at a keyword or a sign
same_labelled : (w : Words) (us : List Use) (y : Layout) (t : Token) (s : Return) (k : List Return) (d : Draft) (z : Translator) → (is_name t || is_number t) ≡ false → AllBelow k →
    (s.state ≡ ToName → is (keyword Of) t ≡ false → known w (label_key d.kept) us ≡ true) →
    draft_step y (translator (s ∷ k) d) t ≡ some z → Labelled w us (words_of d) → Labelled w us (words_of z.made)
same_labelled w us y t s k d z n below l e =
    keeps y t (λ (x : Draft). Labelled w us (words_of x))
    (λ q b c r a x. labelled_perform w us y b a [] x (subst (ReturnNeeds w us x) r (return_needs w us x q (λ f. absurd (not_below q c f)))))
    (λ q v f a x. labelled_perform w us y v.action a (spelling t) x (plain_needs w us x (spelling t) v.action (plain_entry t v n q f)))
    s k below d z (λ b f. labelled_perform w us y b s.address [] d (subst (ReturnNeeds w us d) (no_entry s.state t b f).1 (return_needs w us d s.state (λ g. l g (of_left s.state t b g f))))) e

module _ (w : Words) (us : List Use) (y : Layout) (d after_left : Draft) (s : State) (o : Bool) (e : Entry) (a : ℕ) where
  labelled_at : (t : Token) → Labelled w (with_use (use_by (role_at s o) t) us) (words_of d) → ((is_name t || is_number t) ≡ true → (move s t ≡ enter e) × (after_left ≡ d)) →
      ((is_name t || is_number t) ≡ false → Labelled w (with_use (use_by (role_at s o) t) us) (words_of (perform y e.action a (spelling t) after_left))) →
      Labelled w (with_use (use_by (role_at s o) t) us) (words_of (perform y e.action a (spelling t) after_left))
  labelled_at (token.name n) h f g =
      subst (λ (x : Draft). Labelled w (made (role_at s o) n ∷ us) (words_of (perform y e.action a n x))) (sym (f refl).1)
      (labelled_perform w (made (role_at s o) n ∷ us) y e.action a n d
      (subst (Entered (λ v. Needs w (made (role_at s o) n ∷ us) v.action n d)) (entry_of s (token.name n) e (f refl).0) (name_needs w us d n s o)) h)
  labelled_at (token.number n) h f g =
      subst (λ (x : Draft). Labelled w (made number_use n ∷ us) (words_of (perform y e.action a n x))) (sym (f refl).1)
      (labelled_perform w (made number_use n ∷ us) y e.action a n d
      (subst (Entered (λ v. Needs w (made number_use n ∷ us) v.action n d)) (entry_of s (token.number n) e (f refl).0) (number_needs w us d n s)) h)
  labelled_at (keyword j) h f g = g refl
  labelled_at (sign j) h f g = g refl
  labelled_at (token.other b) h f g = g refl

-- what is kept, and among the uses, if the current state is the one after a name that is kept
kept_case : (w : Words) (text : List ℕ) (rest : List Token) (k : List Return) (d : Draft) (p : Plan) →
    (top_state k ≡ ToName → (before_of rest ≡ true → p.kept ≡ (cells_of w text).variable_cell d.kept) × (before_of rest ≡ false → p.kept ≡ symbol_of w text d.kept)) →
    KeptNext w text rest k d p
kept_case w text rest [] d p f = tt
kept_case w text [] (s ∷ k) d p f = tt
kept_case w text (t ∷ rest) (s ∷ k) d p f = record { as_variable = λ a b. (f a).0 b; as_label = λ a b. (f a).1 b }

known_case : (w : Words) (text : List ℕ) (rest : List Token) (k : List Return) (n : Name) (us : List Use) →
    (top_state k ≡ ToName → before_of rest ≡ false → known w (label_key n) us ≡ true) → KnownNext w text rest k n us
known_case w text rest [] n us f = tt
known_case w text [] (s ∷ k) n us f = tt
known_case w text (t ∷ rest) (s ∷ k) n us f = f

-- then the last token is that name
is_named : (b : List Token) (t : Token) (k : List Return) → Named (t ∷ b) k → top_state k ≡ ToName → is_name t ≡ true
is_named b t [] f e = cc
is_named b t (r ∷ k) f e = f e

-- The reader.

-- A reader that holds what it should, at one token more: its stack is not empty, and each field of `Reads` for the reader after it.
module _ (w : Words) (text : List ℕ) (past : List Placed) (p : Placed) (ps : List Placed) (y : Plan) (k : List Coded) (c : Counts) (t : Table)
    (h : Reads w text past (p ∷ ps) y k c t) where
  abbrev d : Draft
  d = h.translator.made

  module _ (s : Return) (ks : List Return) (si : h.translator.stack ≡ s ∷ ks) where
    reached : translated (cells_of w text) (reverse (tokens_of past)) ≡ some (translator (s ∷ ks) d)
    reached = h.reached ∙ ap (λ (st : List Return). some (translator st d)) si

    returns : k ≡ map return_code (s ∷ ks)
    returns = h.returns ∙ ap (map return_code) si

    kept : Kept (symbol_of w text) (cells_of w text) p.token s d y
    kept = subst (λ (st : List Return). KeptNext w text (p.token ∷ tokens_of ps) st d y) si h.kept

    known_next : s.state ≡ ToName → is (keyword Of) p.token ≡ false → known w (label_key d.kept) (uses_before (tokens_of past) (p.token ∷ tokens_of ps)) ≡ true
    known_next = subst (λ (st : List Return). KnownNext w text (p.token ∷ tokens_of ps) st d.kept (uses_before (tokens_of past) (p.token ∷ tokens_of ps))) si h.known_next

    all_below : AllBelow ks
    all_below = text_below (cells_of w text) (reverse (tokens_of past)) s ks d reached

    -- there is room for the draft
    sized : Sized (tokens_of past) (translator (s ∷ ks) d)
    sized = subst (λ (b : List Token). Sized b (translator (s ∷ ks) d)) (reverse-reverse (tokens_of past)) (text_sized (cells_of w text) (reverse (tokens_of past)) (translator (s ∷ ks) d) reached)

    fits : Fits room d
    fits = let a = sized.cells in let b = sized.marks in let e = h.counted.few_operators in let f = h.counted.few_open in record { cells = omega arith; marks = omega arith }

    few : Few d
    few = let a = sized.temporaries in let b = sized.marks in let e = h.counted.few_operators in let f = h.counted.few_open in omega arith

    way : Takes (symbol_of w text) (cells_of w text) room p.token s ks d y ⊎ Refuses (symbol_of w text) (cells_of w text) room p.token (s ∷ ks) d y
    way = leaves.found (symbol_of w text) (cells_of w text) room p.token s ks d y h.drawn fits few all_below kept

    -- where IF comes, below the start of its command is a return for each open IF and one more
    open_ifs : (a : ℕ) (e : Entry) → (leaving room (class p.token) k y).taken ≡ some (a, e) → is (keyword If) p.token ≡ true →
        length (leaving room (class p.token) k y).below ≡ suc (length (parts (tokens_of past)))
    open_ifs a e g i =
        let m : leaving room (class p.token) k y ≡ leaving room 9 (map return_code (s ∷ ks)) y = (λ j. leaving room (if_is p.token i j) (returns j) y) in
        let x = if_starts room s ks y a e all_below (ap (λ (z : Found). z.taken) (sym m) ∙ g) in
        let n = text_nested (cells_of w text) (reverse (tokens_of past)) s ks d reached x.0 in
        ap (λ (z : Found). length z.below) m ∙ ap length x.1 ∙ length-map ks return_code ∙ n ∙ ap (λ (b : List Token). suc (length (parts b))) (reverse-reverse (tokens_of past))

    -- a state takes the token
    module _ (x : Takes (symbol_of w text) (cells_of w text) room p.token s ks d y) where
      abbrev after_token : Draft
      after_token = perform (cells_of w text) x.entry.action x.address (spelling p.token) x.after

      abbrev next : Translator
      next = follow (cells_of w text) x.entry x.address (spelling p.token) x.below x.after

      abbrev used : Option Use
      used = use_by (role_at s.state (before_of (tokens_of ps))) p.token

      found_is : leaving room (class p.token) k y ≡ found (some (min x.address 65535, x.entry)) (map return_code x.below) x.plan
      found_is = (λ j. leaving room (class p.token) (returns j) y) ∙ x.finds

      -- the entry is one of the table
      from_state : (q : State) × (move q p.token ≡ enter x.entry)
      from_state = entry_from room p.token (map return_code (s ∷ ks)) y (min x.address 65535) x.entry (ap (λ (z : Found). z.taken) x.finds)

      used_is : use_of (tokens_of past) p.token (tokens_of ps) ≡ used
      used_is = use_is (cells_of w text) (tokens_of past) (tokens_of ps) p.token s ks d next reached x.steps

      reached_next : translated (cells_of w text) (reverse (p.token ∷ tokens_of past)) ≡ some next
      reached_next =
          ap (translated (cells_of w text)) (reverse_onto (tokens_of past) p.token [])
          ∙ further (cells_of w text) (reverse (tokens_of past)) (translator (s ∷ ks) d) p.token reached ∙ x.steps

      open_here : is (keyword If) p.token ≡ true → length (leaving room (class p.token) k y).below ≡ suc (length (parts (tokens_of past)))
      open_here = open_ifs (min x.address 65535) x.entry (ap (λ (z : Found). z.taken) found_is)

      sized_next : Sized (p.token ∷ tokens_of past) next
      sized_next = subst (λ (b : List Token). Sized b next) (reverse-reverse (p.token ∷ tokens_of past)) (text_sized (cells_of w text) (reverse (p.token ∷ tokens_of past)) next reached_next)

      same_mentions : uses_of (mentions w text past (p ∷ ps)) ≡ uses_before (tokens_of past) (p.token ∷ tokens_of ps)
      same_mentions = same_uses (label_at w text) past (p.token ∷ tokens_of ps)

      -- no refusal of 9 to 11
      module _ (f : NoForm c (length (leaving room (class p.token) k y).below - 1) (listed_by used) p.token) where
        counted_next : Counted (p.token ∷ tokens_of past) (counted p.token c)
        counted_next = counted_more (tokens_of past) c p.token h.counted f.operators_fit f.depth_fits (λ i. let a = open_here i in let b = f.ifs_fit i in omega arith)

        fits_next : Fits room after_token
        fits_next =
            let a = sized_next.cells in let b = sized_next.marks in let e = counted_next.few_operators in let g = counted_next.few_open in
            record { cells = omega arith; marks = omega arith }

        deep_next : length next.stack ≤ 72
        deep_next = let a = sized_next.stack in let e = counted_next.few_ifs in let g = counted_next.few_open in omega arith

        drawn_next : (r : ℕ) → UseMeans (symbol_of w text) (cells_of w text) used r → Drawn (symbol_of w text) after_token (acted room x.entry.action (min x.address 65535) r x.plan)
        drawn_next r m =
            acts (cells_of w text) (symbol_of w text) room x.entry.action x.address (spelling p.token) r x.after x.plan x.drawn
            (refers_at (symbol_of w text) (cells_of w text) p.token s.state from_state.0 (before_of (tokens_of ps)) x.entry r x.after x.plan from_state.1 (λ e. (x.direct e).0) m x.loads)
            x.few fits_next

        returns_next : (r : ℕ) → UseMeans (symbol_of w text) (cells_of w text) used r →
            pushed_all return_room (acted room x.entry.action (min x.address 65535) r x.plan).made.count x.entry.states (map return_code x.below) ≡ map return_code next.stack
        returns_next r m =
            ap (λ (n : ℕ). pushed_all return_room n x.entry.states (map return_code x.below)) (drawn_next r m).words.count
            ∙ leaves.entered return_room (here after_token) x.entry.states x.below deep_next

        passes_next : ((u : Use) → used ≡ some u → use_refusal w (uses_of (mentions w text past (p ∷ ps))) u ≡ none) →
            pass w (length text) (control_in next) (p.token ∷ tokens_of past) ps ≡ refused_first w text
        passes_next clear =
            let q : stack_step (control_in (translator (s ∷ ks) d)) p.token ≡ some (control_in next) =
            sym (control_step (cells_of w text) (translator (s ∷ ks) d) p.token) ∙ ap (option.map control_in) x.steps in
            let a : symbol_refusal w (uses_before (tokens_of past) (p.token ∷ tokens_of ps)) (use_of (tokens_of past) p.token (tokens_of ps)) ≡ none =
            ap (symbol_refusal w (uses_before (tokens_of past) (p.token ∷ tokens_of ps))) used_is
            ∙ no_symbol_left w (uses_of (mentions w text past (p ∷ ps))) (uses_before (tokens_of past) (p.token ∷ tokens_of ps)) used same_mentions clear in
            let b : lowest (form_checks_at (tokens_of past) (p.token ∷ tokens_of ps) (use_of (tokens_of past) p.token (tokens_of ps))) ≡ none =
            ap (λ o. lowest (form_checks_at (tokens_of past) (p.token ∷ tokens_of ps) o)) used_is
            ∙ no_form_left (tokens_of past) (tokens_of ps) c (length (leaving room (class p.token) k y).below - 1) p.token used h.counted f (λ i. let z = open_here i in omega arith) in
            let l : lowest (limit_checks w (tokens_of past) (p.token ∷ tokens_of ps)) ≡ none = lowest_is w (tokens_of past) (p.token ∷ tokens_of ps) ∙ (λ j. or_else (a j) (b j)) in
            let m : pass w (length text) (control_in (translator (s ∷ ks) d)) (tokens_of past) (p ∷ ps) ≡ pass w (length text) (control_in next) (p.token ∷ tokens_of past) ps =
            (λ j. or_fault (q j) (λ (v : List Recognised). or_else (refused (lowest (limit_checks w (tokens_of past) (p.token ∷ tokens_of ps))) p.offset) (pass w (length text) v (p.token ∷ tokens_of past) ps)) p.offset)
            ∙ ap (λ o. or_else (refused o p.offset) (pass w (length text) (control_in next) (p.token ∷ tokens_of past) ps)) l in
            sym m ∙ ap (λ (st : List Return). pass w (length text) (control st) (tokens_of past) (p ∷ ps)) (sym si) ∙ h.passes

        -- what the token refers to, when the table was told
        all_is : reverse_aux (p.token ∷ tokens_of past) (tokens_of ps) ≡ all_tokens w text
        all_is = sym (map-reverse_aux (λ (q : Placed). q.token) past (p ∷ ps)) ∙ ap tokens_of h.whole

        refers_to : (u : Use) → use_of (tokens_of past) p.token (tokens_of ps) ≡ some u →
            reference w (u ∷ uses_of (mentions w text past (p ∷ ps))) u ≡ reference w (uses (all_tokens w text)) u
        refers_to u e =
            let v : uses_before (p.token ∷ tokens_of past) (tokens_of ps) ≡ u ∷ uses_of (mentions w text past (p ∷ ps)) = (λ j. with_use (e j) (sym same_mentions j)) in
            ap (λ (us : List Use). reference w us u) (sym v)
            ∙ sym (stays w (p.token ∷ tokens_of past) (tokens_of ps) u (ap (known w (key w u)) v ∙ known_newest w (key w u) u (uses_of (mentions w text past (p ∷ ps))) refl))
            ∙ ap (λ (ts : List Token). reference w (uses ts) u) all_is

        told_means : (o : Option Use) (b : Table) (r : ℕ) → use_of (tokens_of past) p.token (tokens_of ps) ≡ o → Told w text past p ps o t b r → UseMeans (symbol_of w text) (cells_of w text) o r
        told_means none b r e m = tt
        told_means (some u) b r e m = means_of w (all_tokens w text) u.role u.spelling r (m.1 ∙ refers_to u e)

        holds_next : (b : Table) (r : ℕ) → Told w text past p ps used t b r → Holds w b (mentions w text (p ∷ past) ps)
        holds_next b r m =
            subst (λ (o : Option Use). Holds w b (with_mention p.offset (label_at w text (tokens_of past)) o (mentions w text past (p ∷ ps)))) (sym used_is)
            (told_holds w text past p ps used t b r m h.holds)

        matches_next : Matches after_token.definitions (mentions w text (p ∷ past) ps)
        matches_next =
            subst (λ (o : Option Use). Matches after_token.definitions (with_mention p.offset (label_at w text (tokens_of past)) o (mentions w text past (p ∷ ps)))) (sym used_is)
            (matches_at (cells_of w text) d x.after p.offset (label_at w text (tokens_of past)) (mentions w text past (p ∷ ps)) h.matches
            (ap (λ (z : Option Translator). min (words_by w text z) code_limit) reached) s.state (before_of (tokens_of ps)) x.entry x.address p.token
            (λ e. ((x.direct e).0, (x.direct e).3)) (λ e. same_definitions (cells_of w text) p.token s ks d next e all_below x.steps))

        labelled_next : Labelled w (uses_before (p.token ∷ tokens_of past) (tokens_of ps)) (words_of after_token)
        labelled_next =
            let us = uses_before (tokens_of past) (p.token ∷ tokens_of ps) in
            let l : Labelled w (with_use used us) (words_of d) = labelled_more w used us (words_of d) h.labelled in
            subst (λ (o : Option Use). Labelled w (with_use o us) (words_of after_token)) (sym used_is)
            (labelled_at w us (cells_of w text) d x.after s.state (before_of (tokens_of ps)) x.entry x.address p.token l (λ e. ((x.direct e).0, (x.direct e).3))
            (λ e. same_labelled w (with_use used us) (cells_of w text) p.token s ks d next e all_below (λ a b. known_more w (label_key d.kept) used us (known_next a b)) x.steps l))

        -- a name is kept only after GO TO
        named_next : top_state next.stack ≡ ToName → is_name p.token ≡ true
        named_next =
            is_named (tokens_of past) p.token next.stack
            (subst (λ (b : List Token). Named b next.stack) (reverse-reverse (p.token ∷ tokens_of past))
            (pasts.reached (cells_of w text) (λ b v. Named b v.stack) (named (cells_of w text)) (reverse (p.token ∷ tokens_of past)) next reached_next))

        keeping : top_state next.stack ≡ ToName → (s.state ≡ ToWord) × (x.entry ≡ to KeepName ToName)
        keeping e =
            kept_entry p.token s.state x.entry (here after_token) x.below (named_next e) (λ i. (x.direct (or_left (is_name p.token) (is_number p.token) i)).0) e

        keeps_spelling : top_state next.stack ≡ ToName → after_token.kept ≡ spelling p.token
        keeps_spelling e = ap (λ (v : Entry). (perform (cells_of w text) v.action x.address (spelling p.token) x.after).kept) (keeping e).1

        kept_next : (r : ℕ) → UseMeans (symbol_of w text) (cells_of w text) used r →
            KeptNext w text (tokens_of ps) next.stack after_token (acted room x.entry.action (min x.address 65535) r x.plan)
        kept_next r m =
            kept_case w text (tokens_of ps) next.stack after_token (acted room x.entry.action (min x.address 65535) r x.plan)
            (λ e.
            let n : (acted room x.entry.action (min x.address 65535) r x.plan).kept ≡ r = ap (λ (v : Entry). (acted room v.action (min x.address 65535) r x.plan).kept) (keeping e).1 in
            let v = kept_means (symbol_of w text) (cells_of w text) p.token (before_of (tokens_of ps)) r (named_next e)
            (subst (λ (q : State). UseMeans (symbol_of w text) (cells_of w text) (use_by (role_at q (before_of (tokens_of ps))) p.token) r) (keeping e).0 m) in
            (λ b. n ∙ v.0 b ∙ ap (cells_of w text).variable_cell (sym (keeps_spelling e)), λ b. n ∙ v.1 b ∙ ap (symbol_of w text) (sym (keeps_spelling e))))

        name_known : KnownNext w text (tokens_of ps) next.stack after_token.kept (uses_before (p.token ∷ tokens_of past) (tokens_of ps))
        name_known =
            known_case w text (tokens_of ps) next.stack after_token.kept (uses_before (p.token ∷ tokens_of past) (tokens_of ps))
            (λ e b.
            let q : use_of (tokens_of past) p.token (tokens_of ps) ≡ use_by (role_at ToWord false) p.token = used_is ∙ (λ j. use_by (role_at ((keeping e).0 j) (b j)) p.token) in
            (λ j. known w (label_key (keeps_spelling e j)) (with_use (q j) (uses_before (tokens_of past) (p.token ∷ tokens_of ps))))
            ∙ kept_known w p.token (uses_before (tokens_of past) (p.token ∷ tokens_of ps)) (named_next e))

        reads_next : (b : Table) (r : ℕ) → ((u : Use) → used ≡ some u → use_refusal w (uses_of (mentions w text past (p ∷ ps))) u ≡ none) → Told w text past p ps used t b r → b.text.now ≡ text →
            Reads w text (p ∷ past) ps (acted room x.entry.action (min x.address 65535) r x.plan)
            (pushed_all return_room (acted room x.entry.action (min x.address 65535) r x.plan).made.count x.entry.states (map return_code x.below)) (counted p.token c) b
        reads_next b r clear told same =
            let m = told_means used b r used_is told in
            record {
              whole = h.whole;
              translator = next;
              reached = reached_next;
              drawn = drawn_next r m;
              returns = returns_next r m;
              kept = kept_next r m;
              known_next = name_known;
              counted = counted_next;
              text_is = same;
              holds = holds_next b r told;
              matches = matches_next;
              labelled = labelled_next;
              passes = passes_next clear;
            }

-- Without refusal the reader goes on.
module _ (w : Words) (text : List ℕ) (past : List Placed) (p : Placed) (ps : List Placed) (y : Plan) (k : List Coded) (c : Counts) (t : Table) where
  -- the reader after an entry that is found
  abbrev ReadsNext : Table → ℕ → ℕ × Entry → Found → Type 0
  ReadsNext b r v f =
      Reads w text (p ∷ past) ps (acted room v.1.action v.0 r f.plan) (pushed_all return_room (acted room v.1.action v.0 r f.plan).made.count v.1.states f.below) (counted p.token c) b

  pub goes_on : Reads w text past (p ∷ ps) y k c t → (a : ℕ) (e : Entry) (b : Table) (r : ℕ) → (at_token w text past p ps y k c t).taken ≡ some (a, e) →
      ((u : Use) → use_here w text past p ps y k c t ≡ some u → use_refusal w (uses_of (mentions w text past (p ∷ ps))) u ≡ none) →
      Told w text past p ps (use_here w text past p ps y k c t) t b r → b.text.now ≡ text →
      form_refusal c (ifs_here w text past p ps y k c t) (listed_by (use_here w text past p ps y k c t)) p.token ≡ None →
      Reads w text (p ∷ past) ps (acted room e.action a r (at_token w text past p ps y k c t).plan)
      (pushed_all return_room (acted room e.action a r (at_token w text past p ps y k c t).plan).made.count e.states (at_token w text past p ps y k c t).below) (counted p.token c) b
  goes_on h a e b r taken clear told same form = go h.translator.stack refl
    where
      go : (st : List Return) → h.translator.stack ≡ st → ReadsNext b r (a, e) (at_token w text past p ps y k c t)
      go [] q = absurd (none-ne-some (a, e) (sym (ap (λ (z : List Coded). (leaving room (class p.token) z y).taken) (h.returns ∙ ap (map return_code) q)) ∙ taken))
      go (s ∷ ks) q = by (way w text past p ps y k c t h s ks q)
        where
          by : Takes (symbol_of w text) (cells_of w text) room p.token s ks h.translator.made y ⊎ Refuses (symbol_of w text) (cells_of w text) room p.token (s ∷ ks) h.translator.made y →
              ReadsNext b r (a, e) (at_token w text past p ps y k c t)
          by (inr x) = absurd (none-ne-some (a, e) (sym (ap (λ (z : List Coded). (leaving room (class p.token) z y).taken) (returns w text past p ps y k c t h s ks q) ∙ x.finds) ∙ taken))
          by (inl x) =
              let f = found_is w text past p ps y k c t h s ks q x in
              let v : (min x.address 65535, x.entry) ≡ (a, e) = some-injective (min x.address 65535, x.entry) (a, e) (sym (ap (λ (z : Found). z.taken) f) ∙ taken) in
              let u : use_here w text past p ps y k c t ≡ use_by (role_at s.state (before_of (tokens_of ps))) p.token =
              ap (λ (z : List Coded). use_by (role_at (current z) (before_of (tokens_of ps))) p.token) (returns w text past p ps y k c t h s ks q) in
              let n = no_form_of c (ifs_here w text past p ps y k c t) (listed_by (use_by (role_at s.state (before_of (tokens_of ps))) p.token)) p.token
              (subst (λ (o : Option Use). form_refusal c (ifs_here w text past p ps y k c t) (listed_by o) p.token ≡ None) u form) in
              subst (λ (z : ℕ × Entry). ReadsNext b r z (at_token w text past p ps y k c t)) v
              (subst (ReadsNext b r (min x.address 65535, x.entry)) (sym f)
              (reads_next w text past p ps y k c t h s ks q x n b r (λ z g. clear z (u ∙ g)) (subst (λ (o : Option Use). Told w text past p ps o t b r) u told) same))
