-- Each action on a plan and on the draft that it is drawn from.
use Rattle.std.proofs.Common.{◌≡◌, ℕ, suc, ◌+◌, ◌<◌, min, Bool, true, false, List, [], ◌∷◌, map, length, sym, refl, ap, ◌∙◌, subst, arith}
use Rattle.trees.specs.declared.operator.Operator.{Operator}
use Rattle.trees.specs.declared.operator.Operator.TheVariants.{Plus, Minus, Times, Over}
use Rattle.trees.specs.declared.relation.Relation.{Relation}
use Rattle.trees.specs.declared.relation.Relation.TheVariants.{Greater}
use Rattle.trees.specs.Trees.{Name}
use Rattle.runs.specs.declared.instruction.Instruction.{Instruction}
use Rattle.runs.specs.declared.instruction.Instruction.TheVariants.{Bru, Lda, Sta, Sub, Read, Convert, Newline, Stop}
use Rattle.runs.specs.Code as code
use Rattle.limits.specs.Rules.{code_limit}
use Rattle.emission.specs.Draft as draft
use Rattle.emission.specs.Draft.{Word, fixed, jump, jump_zero, pending, parenthesis, Draft, here, words_of}
use Rattle.emission.specs.Actions as actions
use Rattle.emission.specs.declared.action.Action.TheVariants as action
use Rattle.assembly.specs.declared.mark.Mark.{Mark}
use Rattle.assembly.specs.Words.{packed, instruction_word, jump_operation, jump_zero_operation}
use Rattle.assembly.specs.Plans as plans
use Rattle.assembly.specs.Plans.{Words, Work, Plan, planned, put_word}
use Rattle.assembly.specs.Drawn.{mark_code, coded, Written, Drawn, Few}
use Rattle.assembly.specs.Laws.{Acts}
use Rattle.assembly.proofs.Writing.{one_more, landed}
use Rattle.assembly.proofs.Reducing.{Works, reduced_works, marked_works, operand_works, closed_works, loaded_written}

-- + and - reduce all before them, * and / what binds as close
any_reduces : (o : Operator) → draft.any o ≡ plans.reduces true o
any_reduces o = grind arith

binds_reduces : (o : Operator) → draft.binds o ≡ plans.reduces false o
binds_reduces o = grind arith

module _ (number : Name → ℕ) where
  -- a plan is drawn from a draft by the two works and by what both keep between two tokens
  drawn : {d : Draft} {p : Plan} → Works number d.making p.making p.made → p.target ≡ d.target → p.relation ≡ d.relation →
      Drawn number d p
  drawn w t r = record { words = w.words; marks = w.marks; cells = w.cells; temporaries = w.temporaries; target = t; relation = r }

module _ (number : Name → ℕ) {d : Draft} {p : Plan} (h : Drawn number d p) where
  -- its work
  pub the_work : Works number d.making p.making p.made
  the_work = record { words = h.words; marks = h.marks; cells = h.cells; temporaries = h.temporaries }

  -- other work
  pub worked : {y : draft.Work} {z : Work} {k : Words} → Works number y z k →
      Drawn number (draft.with_work y d) (planned k z p.target p.kept p.relation)
  worked w = drawn number w h.target h.relation

  -- other words
  pub rewritten : {ws : List Word} {k : Words} → Written number ws k →
      Drawn number (draft.with_work (draft.work d.making.marks d.making.cells d.making.temporaries ws) d) (plans.with_made k p)
  rewritten w = worked (record { words = w; marks = h.marks; cells = h.cells; temporaries = h.temporaries })

  -- one word more
  pub emitted : (w : Word) (v : ℕ) → (here d < code_limit → v ≡ coded number w) →
      Drawn number (draft.emit (w ∷ []) d) (plans.with_made (put_word v p.made) p)
  emitted w v same = rewritten (one_more number w v (words_of d) p.made same h.words)

  pub put : (i : Instruction) → Drawn number (draft.emit (fixed i ∷ []) d) (plans.emit i p)
  put i = emitted (fixed i) (instruction_word i) (λ _. refl)

  -- a jump gets its address
  pub landed_at : (a : ℕ) → Drawn number (draft.land a d) (plans.land_at (min a 65535) p)
  landed_at a = rewritten (landed number a (words_of d) p.made h.words)

  -- what is kept between two tokens of a command
  pub targeted : (t u : ℕ) → u ≡ t → Drawn number (actions.with_target t d) (plans.with_target u p)
  targeted t u e = drawn number the_work e h.relation

  pub related : (r : Relation) → Drawn number (actions.with_relation r d) (plans.with_relation r p)
  related r = drawn number the_work h.target refl

  -- the name that is kept and the labels are not in a plan
  pub renamed : (n : Name) (m : ℕ) (ls : List draft.Definition) →
      Drawn number (draft.draft d.making ls d.target n d.relation) (plans.with_kept m p)
  renamed n m ls = drawn number the_work h.target h.relation

  -- an operand
  pushed : (q c r : ℕ) → r ≡ c → length d.making.cells < q → Drawn number (draft.with_work (draft.operand c d.making) d) (plans.push_cell q r p)
  pushed q c r e room = rw e (worked (operand_works number c q d.making p.making p.made room the_work))

  -- a mark
  marked : (m : draft.Mark) (q : ℕ) → length d.making.marks < q →
      Drawn number (draft.with_work (draft.work (m ∷ d.making.marks) d.making.cells d.making.temporaries (words_of d)) d)
      (plans.push_mark q (mark_code m) p)
  marked m q room = worked (marked_works number m q d.making p.making p.made room the_work)

  -- the operators on top that pass a test are reduced
  reduced : (test : Operator → Bool) (all : Bool) → ((x : Operator) → test x ≡ plans.reduces all x) → Few d →
      Drawn number (draft.with_work (draft.reduced test d.making) d) (plans.reduced all p)
  reduced test all same few = worked (reduced_works number test all same d.making p.making p.made few the_work)

  -- the jump to the THEN part
  branches : suc (here d) < code_limit →
      instruction_word (code.branching p.relation (plans.plus p.made.count 3)) ≡ instruction_word (code.branching d.relation (3 + here d))
  branches room =
      let n : plans.plus p.made.count 3 ≡ 3 + here d = omega (arith, h.words.count) in
      ap instruction_word (λ i. code.branching (h.relation i) (n i))

  -- the end of an expression whose operators are reduced
  ended : Drawn number (draft.with_work (draft.ended d.making) d) (plans.end_expression p)
  ended = subst (λ (ms : List Mark). Drawn number (draft.with_work (draft.ended d.making) d) (plans.ended ms p)) (sym h.marks) (go d.making.marks refl)
    where
      stays : (ms : List draft.Mark) → d.making.marks ≡ ms →
          Drawn number (draft.with_work (draft.work ms d.making.cells d.making.temporaries (words_of d)) d) p
      stays ms e = worked (record { words = h.words; marks = h.marks ∙ ap (map mark_code) e; cells = h.cells; temporaries = h.temporaries })

      go : (ms : List draft.Mark) → d.making.marks ≡ ms →
          Drawn number (draft.with_work (draft.left_off ms d.making.cells d.making.temporaries (words_of d)) d) (plans.ended (map mark_code ms) p)
      go [] e = worked (record {
        words = rw (h.cells, h.temporaries) (loaded_written number d.making.cells d.making.temporaries (words_of d) p.made h.words);
        marks = refl;
        cells = refl;
        temporaries = refl;
      })
      go (parenthesis ∷ ms) e = stays (parenthesis ∷ ms) e
      go (pending o ∷ ms) e = stays (pending o ∷ ms) e

-- Action by action: draft and plan put the same words, push the same entries and keep the same things.
pub acts : Acts
acts y number q action.Nothing a n r d p h e few fits = h
acts y number q action.DefineLabel a n r d p h e few fits = renamed number h d.kept p.kept (record { label = n; address = here d } ∷ d.definitions)
acts y number q action.SetTarget a n r d p h e few fits = targeted number h (y.variable_cell n) r e
acts y number q action.StoreTarget a n r d p h e few fits =
    targeted number (emitted number h (fixed (Sta d.target)) _ (λ _. ap (λ t. instruction_word (Sta t)) h.target)) 0 0 refl
acts y number q action.KeepName a n r d p h e few fits = renamed number h n r d.definitions
acts y number q action.JumpToName a n r d p h e few fits =
    renamed number (emitted number h (jump d.kept) _ (λ _. ap (packed jump_operation) e)) [] 0 d.definitions
acts y number q action.LoadName a n r d p h e few fits =
    renamed number (emitted number h (fixed (Lda (y.variable_cell d.kept))) _ (λ _. ap (λ t. instruction_word (Lda t)) e)) [] 0 d.definitions
acts y number q action.FirstLabel a n r d p h e few fits = emitted number h (jump_zero n) _ (λ _. ap (packed jump_zero_operation) e)
acts y number q action.FurtherLabel a n r d p h e few fits = emitted number (put number h (Sub 1)) (jump_zero n) _ (λ _. ap (packed jump_zero_operation) e)
acts y number q action.ReadName a n r d p h e few fits =
    emitted number (put number h Read) (fixed (Sta (y.variable_cell n))) _ (λ _. ap (λ t. instruction_word (Sta t)) e)
acts y number q action.SkipLine a n r d p h e few fits = put number h Read
acts y number q action.PrintValue a n r d p h e few fits = put number (put number h Convert) Newline
acts y number q action.EndLine a n r d p h e few fits = put number h Newline
acts y number q action.PushVariable a n r d p h e few fits = pushed number h q.cells (y.variable_cell n) r e fits.cells
acts y number q action.PushNumber a n r d p h e few fits = pushed number h q.cells (y.literal_cell n) r e fits.cells
acts y number q action.OpenGroup a n r d p h e few fits = marked number h parenthesis q.marks fits.marks
acts y number q action.CloseGroup a n r d p h e few fits = worked number h (closed_works number d.making p.making p.made (the_work number h))
acts y number q (action.Operate Plus) a n r d p h e few fits =
    marked number (reduced number h draft.any true any_reduces few) (pending Plus) q.marks fits.marks
acts y number q (action.Operate Minus) a n r d p h e few fits =
    marked number (reduced number h draft.any true any_reduces few) (pending Minus) q.marks fits.marks
acts y number q (action.Operate Times) a n r d p h e few fits =
    marked number (reduced number h draft.binds false binds_reduces few) (pending Times) q.marks fits.marks
acts y number q (action.Operate Over) a n r d p h e few fits =
    marked number (reduced number h draft.binds false binds_reduces few) (pending Over) q.marks fits.marks
acts y number q action.EndExpression a n r d p h e few fits = ended number (reduced number h draft.any true any_reduces few)
acts y number q (action.Compare x) a n r d p h e few fits = related number (put number h (Sta 0)) x
acts y number q action.BeginThen a n r d p h e few fits =
    related number (put number (emitted number (put number h (Sub 0)) (fixed (code.branching d.relation (3 + here d))) _ (branches number h)) (Bru 0)) Greater
acts y number q action.BeginElse a n r d p h e few fits = landed_at number (put number h (Bru 0)) a
acts y number q action.EndElse a n r d p h e few fits = landed_at number h a
acts y number q action.EndProgram a n r d p h e few fits = put number h Stop
