-- What each action does to a draft.
use Rattle.std.specs.Prelude.{ℕ, ◌+◌, [], ◌∷◌}
use Rattle.trees.specs.Trees.{Name}
use Rattle.trees.specs.declared.operator.Operator.{Operator}
use Rattle.trees.specs.declared.operator.Operator.TheVariants.{Plus as plus, Minus as minus, Times as times, Over as over}
use Rattle.trees.specs.declared.relation.Relation.{Relation}
use Rattle.runs.specs.declared.instruction.Instruction.TheVariants.{Bru, Lda, Sta, Sub, Read, Convert, Newline, Stop}
use Rattle.runs.specs.Code.{Layout, temp, one, branching, comparing}
use Rattle.emission.specs.Draft.{fixed, jump, jump_zero, Draft, draft, no_target, no_name, no_relation, here, with_work, emit, land, any, binds, reduced, push, operand, opened, closed, ended}
pub use Rattle.emission.specs.declared.action.Action.{Action}
pub use Rattle.emission.specs.declared.action.Action.TheVariants.{Nothing, DefineLabel, SetTarget, StoreTarget, KeepName, JumpToName, LoadName, FirstLabel, FurtherLabel, ReadName, SkipLine, PrintValue, EndLine, PushVariable, PushNumber, OpenGroup, CloseGroup, Operate, EndExpression, Compare, BeginThen, BeginElse, EndElse, EndProgram}

-- the operators on top that pass the test are reduced, then the new one is pushed
abbrev pub operate : Operator → Draft → Draft
operate plus d = with_work (push plus (reduced any d.making)) d
operate minus d = with_work (push minus (reduced any d.making)) d
operate times d = with_work (push times (reduced binds d.making)) d
operate over d = with_work (push over (reduced binds d.making)) d

-- a label stands before the next word
abbrev pub defined : Name → Draft → Draft
defined l d = draft d.making (record { label = l; address = here d } ∷ d.definitions) d.target d.kept d.relation

abbrev pub with_target : ℕ → Draft → Draft
with_target c d = draft d.making d.definitions c d.kept d.relation

abbrev pub with_kept : Name → Draft → Draft
with_kept n d = draft d.making d.definitions d.target n d.relation

abbrev pub with_relation : Relation → Draft → Draft
with_relation r d = draft d.making d.definitions d.target d.kept r

-- the first value is put aside
abbrev pub aside : Relation → Draft → Draft
aside r d = with_relation r (emit (fixed (Sta temp) ∷ []) d)

-- An action at a token with this spelling, by a state that was entered at the address a.
module _ (k : Layout) where
  abbrev pub perform : Action → ℕ → Name → Draft → Draft
  perform Nothing a n d = d
  perform DefineLabel a n d = defined n d
  perform SetTarget a n d = with_target (k.variable_cell n) d
  perform StoreTarget a n d = with_target no_target (emit (fixed (Sta d.target) ∷ []) d)
  perform KeepName a n d = with_kept n d
  perform JumpToName a n d = with_kept no_name (emit (jump d.kept ∷ []) d)
  perform LoadName a n d = with_kept no_name (emit (fixed (Lda (k.variable_cell d.kept)) ∷ []) d)
  perform FirstLabel a n d = emit (jump_zero n ∷ []) d
  perform FurtherLabel a n d = emit (fixed (Sub one) ∷ jump_zero n ∷ []) d
  perform ReadName a n d = emit (fixed Read ∷ fixed (Sta (k.variable_cell n)) ∷ []) d
  perform SkipLine a n d = emit (fixed Read ∷ []) d
  perform PrintValue a n d = emit (fixed Convert ∷ fixed Newline ∷ []) d
  perform EndLine a n d = emit (fixed Newline ∷ []) d
  perform PushVariable a n d = with_work (operand (k.variable_cell n) d.making) d
  perform PushNumber a n d = with_work (operand (k.literal_cell n) d.making) d
  perform OpenGroup a n d = with_work (opened d.making) d
  perform CloseGroup a n d = with_work (closed d.making) d
  perform (Operate o) a n d = operate o d
  perform EndExpression a n d = with_work (ended (reduced any d.making)) d
  perform (Compare r) a n d = aside r d
  -- where the relation holds two words on, to the THEN part; else over it, to an address not yet known
  perform BeginThen a n d = with_relation no_relation (emit (fixed comparing ∷ fixed (branching d.relation (3 + here d)) ∷ fixed (Bru 0) ∷ []) d)
  -- over the ELSE part, to an address not yet known; the jump over the THEN part leads here
  perform BeginElse a n d = land a (emit (fixed (Bru 0) ∷ []) d)
  perform EndElse a n d = land a d
  perform EndProgram a n d = emit (fixed Stop ∷ []) d
