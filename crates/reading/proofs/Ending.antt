-- Where the tokens end, or none of the states takes the next one; and what is known of the use of a token that is taken.
use Rattle.grammar.specs.declared.state.State.{State as Recognised}
use Rattle.grammar.specs.Recogniser.{accepting, stack_step, reach}
use Rattle.std.proofs.Common.{◌≡◌, ℕ, min, Bool, true, cond, ◌||◌, ◌⊎◌, List, [], ◌∷◌, ◌++◌, map, reverse, length, sym, refl, ap, ◌∙◌, subst, inl, inr, arith}
use mathlib.Core.Option as maybe
use mathlib.Core.Option.{Option, none, some, none-ne-some}
use Rattle.std.proofs.lemmas.List.{reverse-reverse}
use Rattle.token.specs.Tokens as token
use Rattle.token.specs.Tokens.{Token, Placed}
use Rattle.trees.specs.Trees.{Name}
use Rattle.arithmetic.specs.Words.{Words}
use Rattle.runs.specs.Code.{Layout}
use Rattle.grammar.specs.Tests.{is_name, is_number}
use Rattle.limits.specs.Uses.{Role, Use, made, use_of, before_of, name_role}
use Rattle.limits.specs.Rules.{code_limit, tokens_of}
use Rattle.limits.specs.Refusals.{lowest, or_else, limit_checks, refused}
use Rattle.limits.specs.Pass.{or_fault, pass}
use Rattle.limits.specs.States.{state_role}
use Rattle.limits.proofs.Configs.{role_by_state}
use Rattle.emission.specs.declared.state.State.{State}
use Rattle.emission.specs.Draft.{Draft, words_of}
use Rattle.emission.specs.Table.{Entry, Return, Translator, translator, draft_step, translated}
use Rattle.emission.specs.Classes.{class}
use Rattle.emission.specs.Control.{control_of, control, control_in}
use Rattle.emission.specs.Room.{Sized}
use Rattle.emission.proofs.Controls.{control_step, control_reach}
use Rattle.emission.proofs.Rooms.{text_sized}
use Rattle.emission.proofs.Standing.{text_below}
use Rattle.emission.proofs.Waits.{text_shown}
use Rattle.symbols.specs.declared.table.Table.{Table}
use Rattle.assembly.specs.Plans.{Plan}
use Rattle.assembly.specs.Drawn.{Fits, Few}
use Rattle.reading.specs.declared.counts.Counts.{Counts}
use Rattle.reading.specs.declared.returns.Return.{Return as Coded}
use Rattle.reading.specs.Steps.{return_code, Found, leaving, Takes, Refuses}
use Rattle.reading.specs.Reads.{role_at, current, room, cells_of, symbol_of, words_by, label_at, refused_first, KeptNext, Reads}
use Rattle.reading.specs.TokenLaws.{use_by, at_token, use_here, Ends}
use Rattle.reading.proofs.Leaving.{leaves}

-- At the end.

-- a stack that stands in memory without a state has none
ends_whole : (w : Words) (text : List ℕ) (past : List Placed) (y : Plan) (c : Counts) (t : Table) → Reads w text past [] y [] c t → refused_first w text ≡ none
ends_whole w text past y c t h = go h.translator.stack h.returns h.passes
  where
    go : (s : List Return) → [] ≡ map return_code s → pass w (length text) (control s) (tokens_of past) [] ≡ refused_first w text → refused_first w text ≡ none
    go [] e p = sym p
    go (r ∷ s) e p = cc

-- and one with a state has one that the recogniser has too
ends_broken : (w : Words) (text : List ℕ) (past : List Placed) (y : Plan) (r : Coded) (k : List Coded) (c : Counts) (t : Table) → Reads w text past [] y (r ∷ k) c t →
    refused_first w text ≡ some (record { number = 3; place = length text })
ends_broken w text past y r k c t h = go h.translator.stack refl h.returns h.passes
  where
    go : (s : List Return) → h.translator.stack ≡ s → r ∷ k ≡ map return_code s → pass w (length text) (control s) (tokens_of past) [] ≡ refused_first w text →
        refused_first w text ≡ some (record { number = 3; place = length text })
    go [] q e p = cc
    go (s ∷ j) q e p =
        let x = text_shown (cells_of w text) (reverse (tokens_of past)) s j h.translator.made (h.reached ∙ ap (λ (z : List Return). some (translator z h.translator.made)) q) in
        sym p ∙ ap (λ (z : List Recognised). cond (accepting (some (z ++ control j))) none (some (record { number = 3; place = length text }))) x.1

pub ends : Ends
ends = record { whole = ends_whole; broken = ends_broken }

-- At a token.

-- the role of a name that comes at a state of the recogniser
same_role : (s : State) (r : Recognised) (b : Bool) → control_of s ≡ r ∷ [] → role_at s b ≡ state_role r b
same_role s r b e = grind arith

-- a token with a use is a name or a number
has_use : (r : Role) (t : Token) (u : Use) → use_by r t ≡ some u → (is_name t || is_number t) ≡ true
has_use r (token.name n) u e = refl
has_use r (token.number n) u e = refl
has_use r (token.keyword j) u e = cc
has_use r (token.sign s) u e = cc
has_use r (token.other b) u e = cc

-- A reader that holds what the tokens past make, at the token p, before the tokens ps.
module _ (w : Words) (text : List ℕ) (past : List Placed) (p : Placed) (ps : List Placed) (y : Plan) (k : List Coded) (c : Counts) (t : Table)
    (h : Reads w text past (p ∷ ps) y k c t) where
  abbrev number : Name → ℕ
  number = symbol_of w text

  abbrev cells : Layout
  cells = cells_of w text

  -- the tokens past in their order, and those that come next
  abbrev before : List Token
  before = reverse (tokens_of past)

  abbrev after : List Token
  after = tokens_of ps

  abbrev made_here : Draft
  made_here = h.translator.made

  abbrev found_in : List Coded → Found
  found_in z = leaving room (class p.token) z y

  -- What waits in the draft fits the rooms, as few operators and parentheses are open.
  sized : Sized (tokens_of past) h.translator
  sized = rw reverse-reverse at (text_sized cells before h.translator h.reached)

  fits : Fits room made_here
  fits =
      let s = sized in let n = h.counted.few_operators in let d = h.counted.few_open in
      record { cells = omega (arith, s.cells); marks = omega (arith, s.marks) }

  few : Few made_here
  few = let s = sized in let n = h.counted.few_operators in let d = h.counted.few_open in omega (arith, s.marks, s.temporaries)

  -- Where there is a current state s, above the states j.
  module _ (s : Return) (j : List Return) (q : h.translator.stack ≡ s ∷ j) where
    reached_here : translated cells before ≡ some (translator (s ∷ j) made_here)
    reached_here = h.reached ∙ ap (λ (z : List Return). some (translator z made_here)) q

    returns_here : k ≡ map return_code (s ∷ j)
    returns_here = h.returns ∙ ap (map return_code) q

    found_here : found_in k ≡ found_in (map return_code (s ∷ j))
    found_here = ap found_in returns_here

    -- one of them takes the token, or none does
    comes : Takes number cells room p.token s j made_here y ⊎ Refuses number cells room p.token (s ∷ j) made_here y
    comes =
        leaves.found number cells room p.token s j made_here y h.drawn fits few (text_below cells before s j made_here reached_here)
        (subst (λ (z : List Return). KeptNext w text (p.token ∷ after) z made_here y) q h.kept)

    none_taken : (found_in k).taken ≡ none → draft_step cells (translator (s ∷ j) made_here) p.token ≡ none
    none_taken e = elim comes [
      | inl x ↦ absurd (none-ne-some _ (sym e ∙ ap (λ (f : Found). f.taken) (found_here ∙ x.finds)))
      | inr x ↦ x.steps
    ]

    some_taken : (a : ℕ) (e : Entry) → (found_in k).taken ≡ some (a, e) → Takes number cells room p.token s j made_here y
    some_taken a e f = elim comes [
      | inl x ↦ x
      | inr x ↦ absurd (none-ne-some _ (sym x.finds ∙ ap (λ (z : Found). z.taken) (sym found_here) ∙ f))
    ]

    -- it is a state of the recogniser
    shown : (r : Recognised) × (control_of s.state ≡ r ∷ [])
    shown = text_shown cells before s j made_here reached_here

    recognised_here : reach before ≡ some (shown.0 ∷ control j)
    recognised_here = sym (control_reach cells before) ∙ ap (maybe.map control_in) reached_here ∙ ap (λ (z : List Recognised). some (z ++ control j)) shown.1

    -- a name that is taken has its role
    name_here : (n : Name) (z : Translator) → p.token ≡ token.name n → draft_step cells (translator (s ∷ j) made_here) p.token ≡ some z →
        name_role (tokens_of past) after ≡ role_at (current k) (before_of after)
    name_here n z v x =
        let step : stack_step (shown.0 ∷ control j) (token.name n) ≡ some (control_in z) =
        (λ i. stack_step (sym shown.1 i ++ control j) (sym v i)) ∙ sym (control_step cells (translator (s ∷ j) made_here) p.token) ∙ ap (maybe.map control_in) x in
        ap (λ (b : List Token). name_role b after) (sym (reverse-reverse (tokens_of past)))
        ∙ role_by_state before shown.0 (control j) (control_in z) n after recognised_here step
        ∙ sym (same_role s.state shown.0 (before_of after) shown.1)
        ∙ ap (λ (z : List Coded). role_at (current z) (before_of after)) (sym returns_here)

  -- If no state takes the token, the recogniser does not either.
  refused_step : (found_in k).taken ≡ none → draft_step cells h.translator p.token ≡ none
  refused_step e = go h.translator.stack refl
    where
      go : (z : List Return) → h.translator.stack ≡ z → draft_step cells (translator z made_here) p.token ≡ none
      go [] q = refl
      go (s ∷ j) q = none_taken s j q e

  pub no_program : (at_token w text past p ps y k c t).taken ≡ none → refused_first w text ≡ some (record { number = 3; place = p.offset })
  no_program e =
      let f : stack_step (control_in h.translator) p.token ≡ none = sym (control_step cells h.translator p.token) ∙ ap (maybe.map control_in) (refused_step e) in
      sym h.passes
      ∙ ap (λ (o : Option (List Recognised)). or_fault o
      (λ (next : List Recognised). or_else (refused (lowest (limit_checks w (tokens_of past) (p.token ∷ after))) p.offset) (pass w (length text) next (p.token ∷ tokens_of past) ps))
      p.offset) f

  -- If one does, there is a current state.
  with_state : {A : Type 0} (a : ℕ) (e : Entry) → (found_in k).taken ≡ some (a, e) → ((s : Return) (j : List Return) → h.translator.stack ≡ s ∷ j → A) → A
  with_state {A} a e f g = go h.translator.stack refl h.returns
    where
      go : (z : List Return) → h.translator.stack ≡ z → k ≡ map return_code z → A
      go [] q r = absurd (none-ne-some _ (sym (ap (λ (i : List Coded). (found_in i).taken) r) ∙ f))
      go (s ∷ j) q r = g s j q

  pub role_is : (a : ℕ) (e : Entry) → (at_token w text past p ps y k c t).taken ≡ some (a, e) → use_of (tokens_of past) p.token (tokens_of ps) ≡ use_here w text past p ps y k c t
  role_is a e f = go p.token refl
    where
      go : (u : Token) → p.token ≡ u → use_of (tokens_of past) u after ≡ use_by (role_at (current k) (before_of after)) u
      go (token.name n) v = ap (λ (r : Role). some (made r n)) (with_state a e f (λ s j q. let x = some_taken s j q a e f in name_here s j q n _ v x.steps))
      go (token.number n) v = refl
      go (token.keyword i) v = refl
      go (token.sign i) v = refl
      go (token.other b) v = refl

  -- A name or a number is taken before anything is left.
  pub address_is : (a : ℕ) (e : Entry) (u : Use) → (at_token w text past p ps y k c t).taken ≡ some (a, e) → use_here w text past p ps y k c t ≡ some u →
      min (at_token w text past p ps y k c t).plan.made.count code_limit ≡ label_at w text (tokens_of past)
  address_is a e u f v = with_state a e f (λ s j q.
      let x = some_taken s j q a e f in
      let d = x.direct (has_use (role_at (current k) (before_of after)) p.token u v) in
      let l : (found_in k).plan ≡ y = ap (λ (z : Found). z.plan) (found_here s j q ∙ x.finds) ∙ d.4 in
      let n : (found_in k).plan.made.count ≡ min (length (words_of made_here)) 65535 = ap (λ (z : Plan). z.made.count) l ∙ h.drawn.words.count in
      let o : label_at w text (tokens_of past) ≡ min (length (words_of made_here)) code_limit = ap (λ (z : Option Translator). min (words_by w text z) code_limit) h.reached in
      omega arith)
