-- Small texts, put into code word by word.
use Rattle.std.specs.Prelude.{◌≡◌, ℕ, List, [], ◌∷◌, codes}
use Rattle.std.proofs.Math.Option.{Option, none, some, map}
use Rattle.token.specs.Lexis.{tokens}
use Rattle.runs.specs.declared.instruction.Instruction.{Instruction}
use Rattle.runs.specs.declared.instruction.Instruction.TheVariants.{Bru, Brz, Brn, Brp, Ada, Sub, Mul, Lda, Sta, Read, Convert, Newline, Stop}
use Rattle.runs.specs.Code.{Layout}
use Rattle.limits.specs.Rules.{tokens_of}
use Rattle.emission.specs.Draft.{settled}
use Rattle.emission.specs.Table.{Translator, translated}

-- the cell of a name or a number is its first byte
abbrev cell_for : List ℕ → ℕ
cell_for [] = 0
cell_for (b ∷ bs) = b

abbrev by_byte : Layout
by_byte = record { variable_cell = cell_for; literal_cell = cell_for; used = 512 }

abbrev pub code_text : List ℕ → Option (List Instruction)
code_text text = map (λ (x : Translator). settled x.made) (translated by_byte (tokens_of (tokens text)))

pub record Samples : Type 0 where
  pub end : code_text (codes "END") ≡ some (Stop ∷ [])
  pub branching : code_text (codes "READ Q; IF Q > 9 THEN PRINT Q * 3 ELSE END") ≡
      some (Read ∷ Sta 81 ∷ Lda 81 ∷ Sta 0 ∷ Lda 57 ∷ Sub 0 ∷ Brn 8 ∷ Bru 14 ∷ Lda 81 ∷ Mul 51 ∷ Sta 2 ∷ Convert ∷ Newline ∷ Bru 14 ∷ Stop ∷ [])
  -- temporaries go on inside parentheses
  pub grouping : code_text (codes "PRINT (1+2)*(3+4) END") ≡
      some (Lda 49 ∷ Ada 50 ∷ Sta 2 ∷ Lda 51 ∷ Ada 52 ∷ Sta 3 ∷ Lda 2 ∷ Mul 3 ∷ Sta 4 ∷ Convert ∷ Newline ∷ Stop ∷ [])
  pub left_first : code_text (codes "LET A := B - C * D - (E) END") ≡
      some (Lda 67 ∷ Mul 68 ∷ Sta 2 ∷ Lda 66 ∷ Sub 2 ∷ Sta 3 ∷ Lda 3 ∷ Sub 69 ∷ Sta 4 ∷ Sta 65 ∷ Stop ∷ [])
  pub jumps : code_text (codes "A: GO TO B; READ; B: PRINT; GO TO X OF A, B, C; C: END") ≡
      some (Bru 2 ∷ Read ∷ Newline ∷ Lda 88 ∷ Brz 0 ∷ Sub 1 ∷ Brz 2 ∷ Sub 1 ∷ Brz 9 ∷ Stop ∷ [])
  pub nested : code_text (codes "IF A = B THEN IF C < D THEN GO TO L ELSE L: ELSE READ E END") ≡
      some (Lda 65 ∷ Sta 0 ∷ Lda 66 ∷ Sub 0 ∷ Brz 6 ∷ Bru 15 ∷ Lda 67 ∷ Sta 0 ∷ Lda 68 ∷ Sub 0 ∷ Brp 12 ∷ Bru 14 ∷ Bru 14 ∷ Bru 14 ∷ Bru 17 ∷ Read ∷ Sta 69 ∷ Stop ∷ [])
  pub refused : code_text (codes "READ A, END") ≡ none
