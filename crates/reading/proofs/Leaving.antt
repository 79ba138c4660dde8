-- One token at the stack of returns: states are left until one takes it.
use Rattle.std.proofs.Common.{◌≡◌, ℕ, ◌≤◌, min, Bool, true, false, cond, ◌||◌, ◌⊎◌, List, [], ◌∷◌, ◌++◌, map, length, sym, refl, ap, ◌∙◌, subst, inl, inr, arith}
use mathlib.Core.Option.{Option, none, some, none-ne-some}
use lib.ListN.{length-map}
use Rattle.std.proofs.lemmas.Bool.{false≢true}
use Rattle.token.specs.Tokens as token
use Rattle.token.specs.Tokens.{Token, keyword}
use Rattle.token.specs.declared.kinds.Keyword.TheVariants.{Of}
use Rattle.trees.specs.Trees.{Name}
use Rattle.runs.specs.Code.{Layout}
use Rattle.grammar.specs.Tests.{is, is_name, is_number, spelling}
use Rattle.grammar.specs.Machine.{Rows, stop, on, at_name, at_number, choose}
use Rattle.emission.specs.Draft.{Draft, any, reduced}
use Rattle.emission.specs.declared.action.Action.{Action}
use Rattle.emission.specs.declared.action.Action.TheVariants.{LoadName}
use Rattle.emission.specs.Actions.{perform}
use Rattle.emission.specs.declared.state.State.{State}
use Rattle.emission.specs.declared.state.State.TheVariants.{Next, Start, Label, LetWord, LetName, LetEnd, GoWord, ToWord, ToName, OfWord, OfNames, OfComma, ReadWord, ReadNames, ReadComma, PrintWord, PrintList, LeftSide, RightSide, ThenPart, ElsePart, Operand, AfterOperand, Group}
use Rattle.emission.specs.Table.{Entry, table, returning, Return, translator, all_entered, draft_step, Move, refuse, leave, enter, decided, move}
use Rattle.emission.specs.Classes.{class}
use Rattle.emission.specs.Returns.{comes_back, AllBelow}
use Rattle.emission.proofs.Stepping as stepping
use Rattle.emission.proofs.Standing.{no_name, no_number}
use Rattle.emission.proofs.Tables.{by_class}
use Rattle.assembly.specs.Plans.{Plan, Rooms, pushed, acted}
use Rattle.assembly.specs.Drawn.{Drawn, Refers, Fits, Few}
use Rattle.assembly.proofs.Acting.{acts}
use Rattle.assembly.proofs.Reducing.{pushed_is}
use Rattle.reading.specs.Steps.{return_code, Found, after_move, leaving, pushed_all, Kept, Takes, Refuses}
use Rattle.reading.specs.StepLaws.{Leaves}
use Rattle.reading.proofs.Bounded.{Bounded, bounded, fitting, bounded_reduced, bounded_ended}

-- A move, by the rows and by what the state does when it returns.

pub entry_of : (s : State) (t : Token) (e : Entry) → move s t ≡ enter e → choose (table s) t ≡ some e
entry_of s t e = go (choose (table s) t) (returning s)
  where
    go : (o : Option Entry) (r : Option Action) → decided o r ≡ enter e → o ≡ some e
    go o r h = grind arith

pub no_entry : (s : State) (t : Token) (b : Action) → move s t ≡ leave b → (choose (table s) t ≡ none) × (returning s ≡ some b)
no_entry s t b = go (choose (table s) t) (returning s)
  where
    go : (o : Option Entry) (r : Option Action) → decided o r ≡ leave b → (o ≡ none) × (r ≡ some b)
    go (some x) r h = (cc, cc)
    go none (some c) h = (refl, cc)
    go none none h = (refl, cc)

-- Only the state after the name of GO TO loads the name that is kept.

abbrev Loads : State → Rows Entry → Type 0
Loads s stop = Unit {0}
Loads s (on w e z) = (e.action ≡ LoadName → s ≡ ToName) × Loads s z
Loads s (at_name f z) = ((n : Name) → (f n).action ≡ LoadName → s ≡ ToName) × Loads s z
Loads s (at_number f z) = ((n : Name) → (f n).action ≡ LoadName → s ≡ ToName) × Loads s z

loads : (s : State) → Loads s (table s)
loads Next = (λ h. cc, (λ h. cc, tt))
loads Start = (λ n h. cc, (λ h. cc, (λ h. cc, (λ h. cc, (λ h. cc, (λ h. cc, tt))))))
loads Label = (λ h. cc, tt)
loads LetWord = (λ n h. cc, tt)
loads LetName = (λ h. cc, tt)
loads LetEnd = tt
loads GoWord = (λ h. cc, tt)
loads ToWord = (λ n h. cc, tt)
loads ToName = (λ h. refl, tt)
loads OfWord = (λ n h. cc, tt)
loads OfNames = (λ h. cc, tt)
loads OfComma = (λ n h. cc, tt)
loads ReadWord = (λ n h. cc, tt)
loads ReadNames = (λ h. cc, tt)
loads ReadComma = (λ n h. cc, tt)
loads PrintWord = (λ n h. cc, (λ n h. cc, (λ h. cc, tt)))
loads PrintList = (λ h. cc, tt)
loads LeftSide = (λ h. cc, (λ h. cc, (λ h. cc, tt)))
loads RightSide = (λ h. cc, tt)
loads ThenPart = (λ h. cc, tt)
loads ElsePart = tt
loads Operand = (λ n h. cc, (λ n h. cc, (λ h. cc, tt)))
loads AfterOperand = (λ h. cc, (λ h. cc, (λ h. cc, (λ h. cc, tt))))
loads Group = (λ h. cc, tt)

module _ (s : State) (t : Token) (e : Entry) (l : e.action ≡ LoadName) where
  pick : (b : Bool) (x : Entry) (o : Option Entry) → (x.action ≡ LoadName → s ≡ ToName) → (o ≡ some e → s ≡ ToName) → cond b (some x) o ≡ some e → s ≡ ToName
  pick true x o f g h = f (cc)
  pick false x o f g h = g h

  chosen : (R : Rows Entry) → Loads s R → choose R t ≡ some e → s ≡ ToName
  chosen stop h f = absurd (none-ne-some e f)
  chosen (on w x z) h f = pick (is w t) x (choose z t) h.0 (chosen z h.1) f
  chosen (at_name x z) h f = pick (is_name t) (x (spelling t)) (choose z t) (h.0 (spelling t)) (chosen z h.1) f
  chosen (at_number x z) h f = pick (is_number t) (x (spelling t)) (choose z t) (h.0 (spelling t)) (chosen z h.1) f

  pub loads_there : move s t ≡ enter e → s ≡ ToName
  loads_there f = chosen (table s) (loads s) (entry_of s t e f)

-- That state takes OF, and is left only at another token.

pub of_taken : (s : State) (t : Token) (e : Entry) → s ≡ ToName → move s t ≡ enter e → is (keyword Of) t ≡ true
of_taken s t e a f = go (is (keyword Of) t) _ (ap (λ (r : State). choose (table r) t) (sym a) ∙ entry_of s t e f)
  where
    go : (b : Bool) (x : Entry) → cond b (some x) none ≡ some e → b ≡ true
    go true x h = refl
    go false x h = cc

pub of_left : (s : State) (t : Token) (b : Action) → s ≡ ToName → move s t ≡ leave b → is (keyword Of) t ≡ false
of_left s t b a f = go (is (keyword Of) t) _ (ap (λ (r : State). choose (table r) t) (sym a) ∙ (no_entry s t b f).0)
  where
    go : (c : Bool) (x : Entry) → cond c (some x) none ≡ none → c ≡ false
    go true x h = cc
    go false x h = refl

-- it is never returned to
pub not_below : (s : State) → comes_back s ≡ true → s ≡ ToName → ⊥
not_below s b e = false≢true (ap comes_back (sym e) ∙ b)

module _ (number : Name → ℕ) (y : Layout) (q : Rooms) where
  -- What a state does when it returns: it needs to know at most the label that is kept, and nothing is pushed.
  module _ (a : ℕ) (d : Draft) (p : Plan) (small : Bounded q d.making) where
    abbrev Returns : Option Action → Type 0
    Returns none = Unit {0}
    Returns (some b) = Refers number y b [] 0 d p × Bounded q (perform y b a [] d).making

    returns : (s : State) → (s ≡ ToName → p.kept ≡ number d.kept) → Returns (returning s)
    returns Next l = tt
    returns Start l = (tt, small)
    returns Label l = tt
    returns LetWord l = tt
    returns LetName l = tt
    returns LetEnd l = (tt, small)
    returns GoWord l = tt
    returns ToWord l = tt
    returns ToName l = (l refl, small)
    returns OfWord l = tt
    returns OfNames l = (tt, small)
    returns OfComma l = tt
    returns ReadWord l = (tt, small)
    returns ReadNames l = (tt, small)
    returns ReadComma l = tt
    returns PrintWord l = (tt, small)
    returns PrintList l = (tt, small)
    returns LeftSide l = tt
    returns RightSide l = tt
    returns ThenPart l = tt
    returns ElsePart l = (tt, small)
    returns Operand l = tt
    returns AfterOperand l = (tt, bounded_ended q (reduced any d.making) (bounded_reduced q any d.making small))
    returns Group l = tt

  module _ (t : Token) where
    -- a stack of states to return to takes no name and no number
    no_reading : (k : List Return) (d : Draft) → AllBelow k → (is_name t || is_number t) ≡ true → draft_step y (translator k d) t ≡ none
    no_reading k d below e = go t e
      where
        go : (u : Token) → (is_name u || is_number u) ≡ true → draft_step y (translator k d) u ≡ none
        go (token.name n) h = no_name y k d n below
        go (token.number n) h = no_number y k d n below
        go (token.keyword j) h = absurd (false≢true h)
        go (token.sign j) h = absurd (false≢true h)
        go (token.other b) h = absurd (false≢true h)

    -- what a stack comes to at the token
    abbrev Comes : List Return → Draft → Plan → Type 0
    Comes [] d p = Refuses number y q t [] d p
    Comes (s ∷ k) d p = Takes number y q t s k d p ⊎ Refuses number y q t (s ∷ k) d p

    -- what is found by the move of the state on top
    pub finding : (s : Return) (k : List Return) (p : Plan) (m : Move) → move s.state t ≡ m →
        leaving q (class t) (map return_code (s ∷ k)) p
        ≡ after_move m (min s.address 65535) (map return_code k) p (λ b. leaving q (class t) (map return_code k) (acted q b (min s.address 65535) 0 p))
    finding s k p m e =
        ap (λ (x : Move). after_move x (min s.address 65535) (map return_code k) p (λ b. leaving q (class t) (map return_code k) (acted q b (min s.address 65535) 0 p)))
        (by_class s.state t ∙ e)

    -- a state is left: it comes to what the stack below comes to
    none_below : (s : Return) (k : List Return) (d : Draft) (p : Plan) (b : Action) → move s.state t ≡ leave b →
        Refuses number y q t k (perform y b s.address [] d) (acted q b (min s.address 65535) 0 p) → Refuses number y q t (s ∷ k) d p
    none_below s k d p b f x = record {
      steps = stepping.left y s k d t b f ∙ x.steps;
      finds = ap (λ (z : Found). z.taken) (finding s k p (leave b) f) ∙ x.finds;
    }

    left : (s : Return) (k : List Return) (d : Draft) (p : Plan) (b : Action) → move s.state t ≡ leave b → AllBelow k →
        Comes k (perform y b s.address [] d) (acted q b (min s.address 65535) 0 p) → Comes (s ∷ k) d p
    left s [] d p b f below x = inr (none_below s [] d p b f x)
    left s (r ∷ k) d p b f below (inr x) = inr (none_below s (r ∷ k) d p b f x)
    left s (r ∷ k) d p b f below (inl x) = inl (record {
      address = x.address;
      entry = x.entry;
      below = x.below;
      after = x.after;
      plan = x.plan;
      steps = stepping.left y s (r ∷ k) d t b f ∙ x.steps;
      finds = finding s (r ∷ k) p (leave b) f ∙ x.finds;
      drawn = x.drawn;
      fits = x.fits;
      few = x.few;
      loads = x.loads;
      direct = λ e. absurd (none-ne-some _ (sym (no_reading (r ∷ k) (perform y b s.address [] d) below e) ∙ x.steps));
    })

    -- a state above states to return to, of which it is known what they come to
    from_state : (s : Return) (k : List Return) (d : Draft) (p : Plan) → Drawn number d p → Fits q d → Few d → AllBelow k → Kept number y t s d p →
        ((e : Draft) (r : Plan) → Drawn number e r → Fits q e → Few e → Comes k e r) → Comes (s ∷ k) d p
    from_state s k d p h fits few below kept rest = go (move s.state t) refl
      where
        known : (b : Action) → move s.state t ≡ leave b → Refers number y b [] 0 d p × Bounded q (perform y b s.address [] d).making
        known b f =
            subst (Returns s.address d p (bounded fits few)) (no_entry s.state t b f).1
            (returns s.address d p (bounded fits few) s.state (λ e. kept.as_label e (of_left s.state t b e f)))

        go : (m : Move) → move s.state t ≡ m → Comes (s ∷ k) d p
        go refuse f = inr (record { steps = stepping.refused y s k d t f; finds = ap (λ (z : Found). z.taken) (finding s k p refuse f) })
        go (enter e) f = inl (record {
          address = s.address;
          entry = e;
          below = k;
          after = d;
          plan = p;
          steps = stepping.entered y s k d t e f;
          finds = finding s k p (enter e) f;
          drawn = h;
          fits = fits;
          few = few;
          loads = λ l. let a = loads_there s.state t e l f in kept.as_variable a (of_taken s.state t e a f);
          direct = λ _. (f, refl, refl, refl, refl);
        })
        go (leave b) f =
            let x = known b f in
            left s k d p b f below
            (rest (perform y b s.address [] d) (acted q b (min s.address 65535) 0 p)
            (acts y number q b s.address [] 0 d p h x.0 few (fitting x.1)) (fitting x.1) x.1.2)

    -- states to return to need nothing that is kept
    from_below : (k : List Return) → AllBelow k → (d : Draft) (p : Plan) → Drawn number d p → Fits q d → Few d → Comes k d p
    from_below [] below d p h fits few = record { steps = refl; finds = refl }
    from_below (s ∷ k) below d p h fits few =
        from_state s k d p h fits few below.1
        (record { as_variable = λ e _. absurd (not_below s.state below.0 e); as_label = λ e _. absurd (not_below s.state below.0 e) })
        (from_below k below.1)

-- The states of an entry are pushed one by one.
entered : (n a : ℕ) (ss : List State) (k : List Return) → length (all_entered a ss ++ k) ≤ n →
    pushed_all n (min a 65535) ss (map return_code k) ≡ map return_code (all_entered a ss ++ k)
entered n a [] k h = refl
entered n a (s ∷ ss) k h =
    ap (pushed n (record { state = s; address = min a 65535 })) (entered n a ss k (omega arith))
    ∙ pushed_is n (record { state = s; address = min a 65535 }) (map return_code (all_entered a ss ++ k)) (simp length-map h)

pub leaves : Leaves
leaves = record {
  found = λ number y q t s k d p h fits few below kept. from_state number y q t s k d p h fits few below kept (from_below number y q t k below);
  entered = entered;
}
