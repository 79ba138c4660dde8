-- Each step goes on from the draft before it.
use Rattle.std.proofs.Common.{◌≡◌, ℕ, suc, pred, ◌+◌, ◌<◌, ◌≤◌, Bool, true, false, cond, T, eqb, ◌⊎◌, List, [], ◌∷◌, ◌++◌, length, sym, refl, ap, ◌∙◌, subst, inl, inr, append_assoc, arith, eqb→eq}
use mathlib.Core.List.{reverse_aux}
use mathlib.Core.Option.{Option, none, some, some-injective, none-ne-some}
use Rattle.std.proofs.lemmas.Bool.{cond-true, cond-false, eq-eqb, ne_eqb}
use Rattle.token.specs.Tokens.{Token}
use Rattle.trees.specs.Trees.{Name}
use Rattle.trees.specs.declared.operator.Operator.{Operator}
use Rattle.trees.specs.declared.operator.Operator.TheVariants.{Plus as plus, Minus as minus, Times as times, Over as over}
use Rattle.runs.specs.declared.instruction.Instruction.TheVariants.{Bru}
use Rattle.runs.specs.Code.{Layout, first_temporary}
use Rattle.grammar.specs.Tests.{is, is_name, is_number, spelling}
use Rattle.grammar.specs.Machine.{Rows, stop, on, at_name, at_number, choose, go_on}
use Rattle.grammar.proofs.Theorems.{run_append}
use Rattle.limits.specs.Uses.{In, at_head, in_tail}
use Rattle.emission.specs.Draft.{Word, fixed, Mark, pending, parenthesis, Work, work, Definition, Draft, words_of, here, patch, operation, any, binds, reduce, reduced, ended, left_off}
use Rattle.emission.specs.Actions.{Action, Nothing, DefineLabel, SetTarget, StoreTarget, KeepName, JumpToName, LoadName, FirstLabel, FurtherLabel, ReadName, SkipLine, PrintValue, EndLine, PushVariable, PushNumber, OpenGroup, CloseGroup, Operate, EndExpression, Compare, BeginThen, BeginElse, EndElse, EndProgram, perform}
use Rattle.emission.specs.Table.{State, Entry, table, returning, Return, entered, all_entered, Translator, translator, follow, above, if_returning, draft_rows, translator_rows, draft_step, outset, translated}
use Rattle.emission.specs.Growth.{word_at, waits, waiting, Stays, as_it_was, lands, Onward, Later}
use Rattle.emission.proofs.Sizes.{patch_length}

-- Words.
-- the word at an address, in longer words
pub at_older : (w : Word) (ws : List Word) (a : ℕ) → a < length ws → word_at a (w ∷ ws) ≡ word_at a ws
at_older w ws a h = cond-false (eqb (length ws) a) (some w) (word_at a ws) (ne_eqb (length ws) a (λ q. omega arith))

pub at_newest : (w : Word) (ws : List Word) → word_at (length ws) (w ∷ ws) ≡ some w
at_newest w ws = cond-true (eqb (length ws) (length ws)) (some w) (word_at (length ws) ws) (eq-eqb (length ws) (length ws) refl)

pub at_within : (a : ℕ) (ws : List Word) (w : Word) → word_at a ws ≡ some w → a < length ws
at_within a [] w e = absurd (none-ne-some w e)
at_within a (v ∷ ws) w e = go (eqb (length ws) a) refl e (at_within a ws w)
  where
    go : (b : Bool) → eqb (length ws) a ≡ b → cond b (some v) (word_at a ws) ≡ some w → (word_at a ws ≡ some w → a < length ws) → a < suc (length ws)
    go true q f ih = let r : length ws ≡ a = eqb→eq (length ws) a (rw q tt) in omega arith
    go false q f ih = let r = ih f in omega arith

module _ {jumps : List ℕ} where
  stays_more : {a : ℕ} {u v w : Option Word} → Stays jumps a u v → Stays jumps a v w → Stays jumps a u w
  stays_more (as_it_was p) (as_it_was q) = as_it_was (q ∙ p)
  stays_more (lands i t p) (as_it_was q) = lands i t (q ∙ p)
  stays_more (as_it_was p) (lands i t q) = lands i t q
  stays_more (lands j s p) (lands i t q) = lands i t q

  pub onward_same : (ws : List Word) → Onward jumps ws ws
  onward_same ws = record { longer = omega arith; stays = λ a h. as_it_was refl }

  pub onward_more : {us vs ws : List Word} → Onward jumps us vs → Onward jumps vs ws → Onward jumps us ws
  onward_more {us} {vs} {ws} p q = record {
    longer = let g = p.longer in let h = q.longer in omega arith;
    stays = λ a h. let g = p.longer in stays_more (p.stays a h) (q.stays a (omega arith));
  }

  pub onward_word : (w : Word) (ws : List Word) → Onward jumps ws (w ∷ ws)
  onward_word w ws = record { longer = omega arith; stays = λ a h. as_it_was (at_older w ws a h) }

  pub onward_words : (vs ws : List Word) → Onward jumps ws (reverse_aux vs ws)
  onward_words [] ws = onward_same ws
  onward_words (v ∷ vs) ws = onward_more (onward_word v ws) (onward_words vs (v ∷ ws))

  onward_operation : (o : Operator) (l r n : ℕ) (ws : List Word) → Onward jumps ws (operation o l r n ws)
  onward_operation o l r n ws = onward_more (onward_word _ ws) (onward_more (onward_word _ _) (onward_word _ _))

  onward_reduce : (p : Operator → Bool) (ms : List Mark) (cs : List ℕ) (n : ℕ) (ws : List Word) → Onward jumps ws (reduce p ms cs n ws).words
  onward_reduce p [] cs n ws = onward_same ws
  onward_reduce p (parenthesis ∷ ms) cs n ws = onward_same ws
  onward_reduce p (pending o ∷ ms) [] n ws = onward_same ws
  onward_reduce p (pending o ∷ ms) (r ∷ []) n ws = onward_same ws
  onward_reduce p (pending o ∷ ms) (r ∷ l ∷ cs) n ws =
      go (p o) (onward_reduce p ms ((first_temporary + n) ∷ cs) (suc n) (operation o l r n ws))
    where
      go : (b : Bool) → Onward jumps (operation o l r n ws) (reduce p ms ((first_temporary + n) ∷ cs) (suc n) (operation o l r n ws)).words →
          Onward jumps ws (cond b (reduce p ms ((first_temporary + n) ∷ cs) (suc n) (operation o l r n ws)) (work (pending o ∷ ms) (r ∷ l ∷ cs) n ws)).words
      go true h = onward_more (onward_operation o l r n ws) h
      go false h = onward_same ws

  onward_reduced : (p : Operator → Bool) (w : Work) → Onward jumps w.words (reduced p w).words
  onward_reduced p w = onward_reduce p w.marks w.cells w.temporaries w.words

  onward_ended : (ms : List Mark) (cs : List ℕ) (n : ℕ) (ws : List Word) → Onward jumps ws (left_off ms cs n ws).words
  onward_ended ms cs n ws = grind arith

  onward_off : (w : Work) → Onward jumps w.words (ended w).words
  onward_off w = onward_ended w.marks w.cells w.temporaries w.words

-- a patch changes the word at its address, and no other
pub in_split : (x z : ℕ) (zs : List ℕ) → In x (z ∷ zs) → (x ≡ z) ⊎ In x zs
in_split x z zs at_head = inl refl
in_split x z zs (in_tail i) = inr i

pub in_none : (x : ℕ) → In x [] → ⊥
in_none x i = elim i [ ]

in_first : (x z : ℕ) (zs : List ℕ) → In x (z ∷ []) → In x (z ∷ zs)
in_first x z zs i = elim (in_split x z [] i) [ inl e ↦ subst (λ (n : ℕ). In x (n ∷ zs)) e at_head | inr j ↦ absurd (in_none x j) ]

in_sole : (a j : ℕ) → j ≡ a → In a (j ∷ [])
in_sole a j e = subst (λ (n : ℕ). In a (n ∷ [])) (sym e) at_head

patched : (j t : ℕ) (a : ℕ) (ws : List Word) → Stays (j ∷ []) a (word_at a ws) (word_at a (patch j t ws))
unfolding patch
patched j t a [] = as_it_was refl
patched j t a (w ∷ ws) = go (eqb (length ws) j) refl (eqb (length ws) a) refl (patched j t a ws)
  where
    go : (b : Bool) → eqb (length ws) j ≡ b → (c : Bool) → eqb (length ws) a ≡ c → Stays (j ∷ []) a (word_at a ws) (word_at a (patch j t ws)) →
        Stays (j ∷ []) a (word_at a (w ∷ ws)) (word_at a (cond b (fixed (Bru t) ∷ ws) (w ∷ patch j t ws)))
    go true e true f h =
        let p : length ws ≡ j = eqb→eq (length ws) j (rw e tt) in
        let q : length ws ≡ a = eqb→eq (length ws) a (rw f tt) in
        lands (in_sole a j (sym p ∙ q)) t (rw f)
    go true e false f h = as_it_was (rw f)
    go false e true f h = as_it_was (rw (patch_length j t ws, f))
    go false e false f h = rw (patch_length j t ws, f) h

onward_patch : (j t : ℕ) (ws : List Word) → Onward (j ∷ []) ws (patch j t ws)
onward_patch j t ws = record { longer = let e = patch_length j t ws in omega arith; stays = λ a h. patched j t a ws }

widen_stays : {js ks : List ℕ} {a : ℕ} {u v : Option Word} → (In a js → In a ks) → Stays js a u v → Stays ks a u v
widen_stays h (as_it_was p) = as_it_was p
widen_stays h (lands i t p) = lands (h i) t p

widen : {js ks : List ℕ} {us vs : List Word} → ((a : ℕ) → In a js → In a ks) → Onward js us vs → Onward ks us vs
widen h p = record { longer = p.longer; stays = λ a l. widen_stays (h a) (p.stays a l) }

-- Actions.
record Grows (jumps : List ℕ) (d e : Draft) : Type 0 where
  words : Onward jumps (words_of d) (words_of e)
  newer : List Definition
  labels : e.definitions ≡ newer ++ d.definitions

-- those that give a waiting jump its address, and those that end with a jump that waits
abbrev landing : Action → Bool
landing Nothing = false
landing DefineLabel = false
landing SetTarget = false
landing StoreTarget = false
landing KeepName = false
landing JumpToName = false
landing LoadName = false
landing FirstLabel = false
landing FurtherLabel = false
landing ReadName = false
landing SkipLine = false
landing PrintValue = false
landing EndLine = false
landing PushVariable = false
landing PushNumber = false
landing OpenGroup = false
landing CloseGroup = false
landing (Operate o) = false
landing EndExpression = false
landing (Compare r) = false
landing BeginThen = false
landing BeginElse = true
landing EndElse = true
landing EndProgram = false

abbrev jumping : Action → Bool
jumping Nothing = false
jumping DefineLabel = false
jumping SetTarget = false
jumping StoreTarget = false
jumping KeepName = false
jumping JumpToName = false
jumping LoadName = false
jumping FirstLabel = false
jumping FurtherLabel = false
jumping ReadName = false
jumping SkipLine = false
jumping PrintValue = false
jumping EndLine = false
jumping PushVariable = false
jumping PushNumber = false
jumping OpenGroup = false
jumping CloseGroup = false
jumping (Operate o) = false
jumping EndExpression = false
jumping (Compare r) = false
jumping BeginThen = true
jumping BeginElse = true
jumping EndElse = false
jumping EndProgram = false

abbrev landed : Action → ℕ → List ℕ
landed b a = cond (landing b) (pred a ∷ []) []

grows_words : {jumps : List ℕ} (d e : Draft) → Onward jumps (words_of d) (words_of e) → e.definitions ≡ d.definitions → Grows jumps d e
grows_words d e h p = record { words = h; newer = []; labels = p }

pick : (P : Translator → Type 0) (b : Bool) (x z : Translator) (o : Option Translator) → P x → (o ≡ some z → P z) → cond b (some x) o ≡ some z → P z
pick P true x z o p f e = subst P (some-injective x z e) p
pick P false x z o p f e = f e

module _ (y : Layout) where
  performed : (b : Action) (a : ℕ) (n : Name) (d : Draft) → Grows (landed b a) d (perform y b a n d)
  performed Nothing a n d = grows_words d (perform y Nothing a n d) (onward_same _) refl
  performed DefineLabel a n d = record { words = onward_same _; newer = record { label = n; address = here d } ∷ []; labels = refl }
  performed SetTarget a n d = grows_words d (perform y SetTarget a n d) (onward_same _) refl
  performed StoreTarget a n d = grows_words d (perform y StoreTarget a n d) (onward_word _ _) refl
  performed KeepName a n d = grows_words d (perform y KeepName a n d) (onward_same _) refl
  performed JumpToName a n d = grows_words d (perform y JumpToName a n d) (onward_word _ _) refl
  performed LoadName a n d = grows_words d (perform y LoadName a n d) (onward_word _ _) refl
  performed FirstLabel a n d = grows_words d (perform y FirstLabel a n d) (onward_word _ _) refl
  performed FurtherLabel a n d = grows_words d (perform y FurtherLabel a n d) (onward_more (onward_word _ _) (onward_word _ _)) refl
  performed ReadName a n d = grows_words d (perform y ReadName a n d) (onward_more (onward_word _ _) (onward_word _ _)) refl
  performed SkipLine a n d = grows_words d (perform y SkipLine a n d) (onward_word _ _) refl
  performed PrintValue a n d = grows_words d (perform y PrintValue a n d) (onward_more (onward_word _ _) (onward_word _ _)) refl
  performed EndLine a n d = grows_words d (perform y EndLine a n d) (onward_word _ _) refl
  performed PushVariable a n d = grows_words d (perform y PushVariable a n d) (onward_same _) refl
  performed PushNumber a n d = grows_words d (perform y PushNumber a n d) (onward_same _) refl
  performed OpenGroup a n d = grows_words d (perform y OpenGroup a n d) (onward_same _) refl
  performed CloseGroup a n d = grows_words d (perform y CloseGroup a n d) (onward_same _) refl
  performed (Operate plus) a n d = grows_words d (perform y (Operate plus) a n d) (onward_reduced any d.making) refl
  performed (Operate minus) a n d = grows_words d (perform y (Operate minus) a n d) (onward_reduced any d.making) refl
  performed (Operate times) a n d = grows_words d (perform y (Operate times) a n d) (onward_reduced binds d.making) refl
  performed (Operate over) a n d = grows_words d (perform y (Operate over) a n d) (onward_reduced binds d.making) refl
  performed EndExpression a n d = grows_words d (perform y EndExpression a n d) (onward_more (onward_reduced any d.making) (onward_off (reduced any d.making))) refl
  performed (Compare r) a n d = grows_words d (perform y (Compare r) a n d) (onward_word _ _) refl
  performed BeginThen a n d = grows_words d (perform y BeginThen a n d) (onward_more (onward_word _ _) (onward_more (onward_word _ _) (onward_word _ _))) refl
  performed BeginElse a n d = grows_words d (perform y BeginElse a n d) (onward_more (onward_word (fixed (Bru 0)) (words_of d)) (onward_patch (pred a) _ _)) refl
  performed EndElse a n d = grows_words d (perform y EndElse a n d) (onward_patch (pred a) _ _) refl
  performed EndProgram a n d = grows_words d (perform y EndProgram a n d) (onward_word _ _) refl

  -- one that ends with a jump adds a word
  jumped : (b : Action) (a : ℕ) (n : Name) (d : Draft) → T (jumping b) → here d < here (perform y b a n d)
  jumped b a n d h = grind (arith, patch_length)

  -- Entries: a state gives an address only to a jump of its own, and one that waits is put on the stack only behind a jump.
  abbrev any_waits : List State → Bool
  any_waits [] = false
  any_waits (s ∷ ss) = cond (waits s) true (any_waits ss)

  abbrev implies : Bool → Bool → Bool
  implies b c = cond b c true

  record Orderly (s : State) (e : Entry) : Type 0 where
    own : T (implies (landing e.action) (waits s))
    behind : T (implies (any_waits e.states) (jumping e.action))

  abbrev Entries : (Entry → Type 0) → Rows Entry → Type 0
  Entries P stop = Unit {0}
  Entries P (on w e z) = P e × Entries P z
  Entries P (at_name f z) = ((n : Name) → P (f n)) × Entries P z
  Entries P (at_number f z) = ((n : Name) → P (f n)) × Entries P z

  orderly : (s : State) → Entries (Orderly s) (table s)
  orderly s = grind arith

  abbrev Returns : State → Option Action → Type 0
  Returns s none = Unit {0}
  Returns s (some b) = T (implies (landing b) (waits s))

  orderly_return : (s : State) → Returns s (returning s)
  orderly_return s = grind arith

  -- Steps.
  in_below : (s : State) (a : ℕ) (k : List Return) (x : ℕ) → In x (waiting k) → In x (waiting (entered a s ∷ k))
  in_below s a k x i = go (waits s)
    where
      go : (b : Bool) → In x (cond b (pred a ∷ waiting k) (waiting k))
      go true = in_tail i
      go false = i

  in_own : (s : State) (a : ℕ) (k : List Return) (b : Action) → T (implies (landing b) (waits s)) → (x : ℕ) → In x (landed b a) → In x (waiting (entered a s ∷ k))
  in_own s a k b h x i = go (landing b) (waits s) h i
    where
      go : (c w : Bool) → T (implies c w) → In x (cond c (pred a ∷ []) []) → In x (cond w (pred a ∷ waiting k) (waiting k))
      go true true t j = in_first x (pred a) (waiting k) j
      go true false t j = absurd t
      go false w t j = absurd (in_none x j)

  -- a jump that waits on the new stack is one of the old stack, or the last word
  in_new : (h : ℕ) (ss : List State) (k : List Return) (x : ℕ) → In x (waiting (all_entered h ss ++ k)) → (T (any_waits ss) → x ≡ pred h → ⊥) → In x (waiting k)
  in_new h [] k x i f = i
  in_new h (s ∷ ss) k x i f = go (waits s) i (λ j g. in_new h ss k x j g) f
    where
      go : (b : Bool) → In x (cond b (pred h ∷ waiting (all_entered h ss ++ k)) (waiting (all_entered h ss ++ k))) →
          (In x (waiting (all_entered h ss ++ k)) → (T (any_waits ss) → x ≡ pred h → ⊥) → In x (waiting k)) →
          (T (cond b true (any_waits ss)) → x ≡ pred h → ⊥) → In x (waiting k)
      go true i ih f = elim (in_split x (pred h) (waiting (all_entered h ss ++ k)) i) [ inl e ↦ absurd (f tt e) | inr j ↦ ih j (λ t e. f tt e) ]
      go false i ih f = ih i f

  module _ (s : State) (a : ℕ) (k : List Return) (d : Draft) where
    followed : (e : Entry) → Orderly s e → (n : Name) → Later (translator (entered a s ∷ k) d) (follow y e a n k d)
    followed e o n =
        let g = performed e.action a n d in
        record {
          words = widen (in_own s a k e.action o.own) g.words;
          closing = λ x l i. in_below s a k x (in_new (here (perform y e.action a n d)) e.states k x i (last x l (any_waits e.states) (jumping e.action) o.behind (jumped e.action a n d)));
          newer = g.newer;
          labels = g.labels;
        }
      where
        last : (x : ℕ) → x < here d → (b c : Bool) → T (implies b c) → (T c → here d < here (perform y e.action a n d)) → T b → x ≡ pred (here (perform y e.action a n d)) → ⊥
        last x l b c t f u p = grind arith

    returned : (b : Action) → T (implies (landing b) (waits s)) → (z : Translator) → Later (translator k (perform y b a [] d)) z → Later (translator (entered a s ∷ k) d) z
    returned b o z l =
        let g = performed b a [] d in
        let n : here d ≤ here (perform y b a [] d) = g.words.longer in
        record {
          words = onward_more (widen (in_own s a k b o) g.words) (widen (in_below s a k) l.words);
          closing = λ x h i. in_below s a k x (l.closing x (omega arith) i);
          newer = l.newer ++ g.newer;
          labels = l.labels ∙ ap (λ ds. l.newer ++ ds) g.labels ∙ sym (append_assoc l.newer g.newer d.definitions);
        }

  abbrev pub Results : (Translator → Type 0) → Rows Translator → Type 0
  Results P stop = Unit {0}
  Results P (on w x z) = P x × Results P z
  Results P (at_name f z) = ((n : Name) → P (f n)) × Results P z
  Results P (at_number f z) = ((n : Name) → P (f n)) × Results P z

  results_map : (P Q : Translator → Type 0) → ((x : Translator) → P x → Q x) → (R : Rows Translator) → Results P R → Results Q R
  results_map P Q f stop h = tt
  results_map P Q f (on w x z) h = (f x h.0, results_map P Q f z h.1)
  results_map P Q f (at_name g z) h = ((λ n. f (g n) (h.0 n)), results_map P Q f z h.1)
  results_map P Q f (at_number g z) h = ((λ n. f (g n) (h.0 n)), results_map P Q f z h.1)

  results_above : (s : State) (a : ℕ) (k : List Return) (d : Draft) (R : Rows Entry) (z : Rows Translator) → Entries (Orderly s) R →
      Results (Later (translator (entered a s ∷ k) d)) z → Results (Later (translator (entered a s ∷ k) d)) (above y R a k d z)
  results_above s a k d stop z o h = h
  results_above s a k d (on w e r) z o h = (followed s a k d e o.0 [], results_above s a k d r z o.1 h)
  results_above s a k d (at_name f r) z o h = ((λ n. followed s a k d (f n) (o.0 n) n), results_above s a k d r z o.1 h)
  results_above s a k d (at_number f r) z o h = ((λ n. followed s a k d (f n) (o.0 n) n), results_above s a k d r z o.1 h)

  results : (k : List Return) (d : Draft) → Results (Later (translator k d)) (draft_rows y k d)
  results [] d = tt
  results (r ∷ k) d = results_above r.state r.address k d (table r.state) _ (orderly r.state) (go (returning r.state) (orderly_return r.state) (results k))
    where
      go : (o : Option Action) → Returns r.state o → ((e : Draft) → Results (Later (translator k e)) (draft_rows y k e)) →
          Results (Later (translator (r ∷ k) d)) (if_returning o (λ b. draft_rows y k (perform y b r.address [] d)))
      go none h ih = tt
      go (some b) h ih =
          results_map (Later (translator k (perform y b r.address [] d))) (Later (translator (r ∷ k) d))
          (λ z l. returned r.state r.address k d b h z l) (draft_rows y k (perform y b r.address [] d)) (ih (perform y b r.address [] d))

  pub chosen : (P : Translator → Type 0) (R : Rows Translator) → Results P R → (t : Token) (z : Translator) → choose R t ≡ some z → P z
  chosen P stop h t z e = absurd (none-ne-some z e)
  chosen P (on w x r) h t z e = pick P (is w t) x z (choose r t) h.0 (chosen P r h.1 t z) e
  chosen P (at_name f r) h t z e = pick P (is_name t) (f (spelling t)) z (choose r t) (h.0 (spelling t)) (chosen P r h.1 t z) e
  chosen P (at_number f r) h t z e = pick P (is_number t) (f (spelling t)) z (choose r t) (h.0 (spelling t)) (chosen P r h.1 t z) e

  pub step_later : (x : Translator) (t : Token) (z : Translator) → draft_step y x t ≡ some z → Later x z
  step_later x t z e = chosen (Later x) (translator_rows y x) (results x.stack x.made) t z e

  later_same : (x : Translator) → Later x x
  later_same x = record { words = onward_same (words_of x.made); closing = λ a h i. i; newer = []; labels = refl }

  later_more : (w x z : Translator) → Later w x → Later x z → Later w z
  later_more w x z p q =
      let n : here w.made ≤ here x.made = p.words.longer in
      record {
        words = record {
          longer = let m = q.words.longer in omega arith;
          stays = λ a h. stays_more (p.words.stays a h) (widen_stays (p.closing a h) (q.words.stays a (omega arith)));
        };
        closing = λ a h i. p.closing a h (q.closing a (omega arith) i);
        newer = q.newer ++ p.newer;
        labels = q.labels ∙ ap (λ ds. q.newer ++ ds) p.labels ∙ sym (append_assoc q.newer p.newer w.made.definitions);
      }

  run_later : (ts : List Token) (x z : Translator) → go_on (translator_rows y) (some x) ts ≡ some z → Later x z
  run_later [] x z e = subst (Later x) (some-injective x z e) (later_same x)
  run_later (t ∷ ts) x z e = go (draft_step y x t) refl e (run_later ts)
    where
      go : (o : Option Translator) → draft_step y x t ≡ o → go_on (translator_rows y) o ts ≡ some z →
          ((v u : Translator) → go_on (translator_rows y) (some v) ts ≡ some u → Later v u) → Later x z
      go none p q ih = absurd (none-ne-some z q)
      go (some v) p q ih = later_more x v z (step_later x t v p) (ih v z q)

  pub text_later : (ts us : List Token) (x z : Translator) → translated y ts ≡ some x → translated y (ts ++ us) ≡ some z → Later x z
  text_later ts us x z e f =
      run_later us x z (ap (λ o. go_on (translator_rows y) o us) (sym e) ∙ sym (run_append (translator_rows y) (some (outset y)) ts us) ∙ f)
