-- Small texts and what the definitions say of them.
use Rattle.std.specs.Prelude.{◌≡◌, ℕ, List, [], ◌∷◌, ℤ, pos, negsuc, codes}
use Rattle.std.proofs.Math.Option.{Option, none, some}
use Rattle.token.specs.Lexis.{tokens}
use Rattle.trees.specs.Trees.{Name, variable, literal, binary, Command, labelled, empty, print, branch, Program}
use Rattle.trees.specs.declared.operator.Operator.TheVariants.{Plus as plus, Minus as minus, Times as times}
use Rattle.trees.specs.declared.relation.Relation.TheVariants.{Equal as equal}
use Rattle.arithmetic.specs.Words.{Words}
use Rattle.grammar.specs.Machine.{parse}
use Rattle.limits.specs.Rules.{tokens_of, Refused}
use Rattle.limits.specs.Refusals.{text_refusal}
use Rattle.limits.specs.Symbols.{Kind, variable_kind, number_kind, label_kind, Symbol, symbols}

-- numbers as they are, and code that counts for nothing
abbrev exact : Words
exact = record { lowest = negsuc 2147483647; highest = pos 2147483647; fit = λ (n : ℤ). n }

abbrev no_size : Program → ℕ
no_size p = 0

-- the refusal of a text
abbrev pub refused_text : List ℕ → Option Refused
refused_text text = text_refusal exact no_size text

abbrev at : ℕ → ℕ → Option Refused
at n p = some (record { number = n; place = p })

-- the tree of a text
abbrev pub parsed_text : List ℕ → Option Program
parsed_text text = parse (tokens_of (tokens text))

abbrev pub symbols_text : List ℕ → List Symbol
symbols_text text = symbols exact (λ (x : Name). 0) (tokens text)

abbrev entry : Kind → ℕ → ℕ → ℕ → Symbol
entry k p l c = record { kind = k; place = p; length = l; at = c }

abbrev only : Command → Option Program
only c = some (record { first = c; more = [] })

pub record Samples : Type 0 where
  -- programs
  pub end : parsed_text (codes "END") ≡ only empty
  pub empties : parsed_text (codes ";END") ≡ some (record { first = empty; more = empty ∷ [] })
  pub label : parsed_text (codes "L: END") ≡ only (labelled (codes "L") empty)
  pub branches : parsed_text (codes "IF 1=1THEN ELSE END") ≡ only (branch equal (literal (codes "1")) (literal (codes "1")) empty empty)
  pub grouping : parsed_text (codes "PRINT A-B-C*(D+2) END") ≡
      only (print (binary minus (binary minus (variable (codes "A")) (variable (codes "B")))
      (binary times (variable (codes "C")) (binary plus (variable (codes "D")) (literal (codes "2")))) ∷ []))
  -- refusals
  pub nothing : refused_text [] ≡ at 3 0
  pub trailing_comma : refused_text (codes "READ A, END") ≡ at 3 8
  pub no_end : refused_text (codes "GO TO X") ≡ at 3 7
  pub after_end : refused_text (codes "END;") ≡ at 3 3
  pub long_name : refused_text (codes "READ ABCDEFGHIJKLMNOPQRSTUVWXYZ0123456; END") ≡ at 4 5
  pub twice : refused_text (codes "A: A: END") ≡ at 5 3
  pub twice_first : refused_text (codes "A: A END") ≡ at 5 3
  pub both_kinds : refused_text (codes "LET A := 1; GO TO A; END") ≡ at 6 18
  pub jump_ahead : refused_text (codes "GO TO A; PRINT A END") ≡ at 6 15
  pub picked : refused_text (codes "A: GO TO A OF A END") ≡ at 6 9
  pub unmet : refused_text (codes "A: GO TO B; GO TO C; END") ≡ at 12 9
  pub accepted : refused_text (codes "READ Q; IF Q > 9 THEN PRINT Q * 3 ELSE END") ≡ none
  -- symbols: a number keeps its first spelling
  pub table : symbols_text (codes "PRINT 007, A; L: PRINT 7 END") ≡
      entry number_kind 6 3 66 ∷ entry variable_kind 11 1 67 ∷ entry label_kind 14 1 0 ∷ []
