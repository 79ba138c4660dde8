-- A plan that is drawn from a draft: words with numbers in place of names, in a code of 4,096 words.
use Rattle.std.specs.Prelude.{◌≡◌, ℕ, ◌+◌, ◌-◌, ◌≤◌, min, List, ◌++◌, map, reverse, length, replicate}
use Rattle.trees.specs.Trees.{Name}
use Rattle.runs.specs.Code.{Layout}
use Rattle.limits.specs.Rules.{code_limit}
use Rattle.emission.specs.Draft as draft
use Rattle.emission.specs.Draft.{Word, fixed, jump, jump_zero, Draft, words_of}
use Rattle.emission.specs.declared.action.Action.{Action}
use Rattle.emission.specs.declared.action.Action.TheVariants as action
use Rattle.assembly.specs.declared.mark.Mark.{Mark}
use Rattle.assembly.specs.declared.mark.Mark.TheVariants.{Open, Pending}
use Rattle.assembly.specs.Words.{packed, instruction_word, jump_operation, jump_zero_operation}
use Rattle.assembly.specs.Plans.{Words, Plan, Rooms}

abbrev pub mark_code : draft.Mark → Mark
mark_code (draft.pending o) = Pending o
mark_code draft.parenthesis = Open

-- `number` gives each label the index of its symbol
module _ (number : Name → ℕ) where
  abbrev pub coded : Word → ℕ
  coded (fixed i) = instruction_word i
  coded (jump l) = packed jump_operation (number l)
  coded (jump_zero l) = packed jump_zero_operation (number l)

  -- words, newest first, as they stand in memory: in their order, and zeros behind them; past 4,096 they are only counted
  pub record Written (ws : List Word) (k : Words) : Type 0 where
    pub size : length k.code ≡ code_limit
    pub count : k.count ≡ min (length ws) 65535
    pub code : length ws ≤ code_limit → k.code ≡ map coded (reverse ws) ++ replicate (code_limit - length ws) 0

  pub record Drawn (d : Draft) (p : Plan) : Type 0 where
    pub words : Written (words_of d) p.made
    pub marks : p.making.marks ≡ map mark_code d.making.marks
    pub cells : p.making.cells ≡ d.making.cells
    pub temporaries : p.making.temporaries ≡ d.making.temporaries
    pub target : p.target ≡ d.target
    pub relation : p.relation ≡ d.relation

  -- the number r is what an action needs to know of a name or number n; the name that is kept after GO TO is a label for a
  -- jump and a variable for a choice
  abbrev pub Refers : Layout → Action → Name → ℕ → Draft → Plan → Type 0
  Refers y action.Nothing n r d p = Unit {0}
  Refers y action.DefineLabel n r d p = Unit {0}
  Refers y action.SetTarget n r d p = r ≡ y.variable_cell n
  Refers y action.StoreTarget n r d p = Unit {0}
  Refers y action.KeepName n r d p = Unit {0}
  Refers y action.JumpToName n r d p = p.kept ≡ number d.kept
  Refers y action.LoadName n r d p = p.kept ≡ y.variable_cell d.kept
  Refers y action.FirstLabel n r d p = r ≡ number n
  Refers y action.FurtherLabel n r d p = r ≡ number n
  Refers y action.ReadName n r d p = r ≡ y.variable_cell n
  Refers y action.SkipLine n r d p = Unit {0}
  Refers y action.PrintValue n r d p = Unit {0}
  Refers y action.EndLine n r d p = Unit {0}
  Refers y action.PushVariable n r d p = r ≡ y.variable_cell n
  Refers y action.PushNumber n r d p = r ≡ y.literal_cell n
  Refers y action.OpenGroup n r d p = Unit {0}
  Refers y action.CloseGroup n r d p = Unit {0}
  Refers y (action.Operate o) n r d p = Unit {0}
  Refers y action.EndExpression n r d p = Unit {0}
  Refers y (action.Compare x) n r d p = Unit {0}
  Refers y action.BeginThen n r d p = Unit {0}
  Refers y action.BeginElse n r d p = Unit {0}
  Refers y action.EndElse n r d p = Unit {0}
  Refers y action.EndProgram n r d p = Unit {0}

-- there is room for what waits in the draft
pub record Fits (q : Rooms) (d : Draft) : Type 0 where
  pub cells : length d.making.cells ≤ q.cells
  pub marks : length d.making.marks ≤ q.marks

-- few temporaries, now and when all that waits is reduced
abbrev pub Few : Draft → Type 0
Few d = d.making.temporaries + length d.making.marks ≤ 60000
