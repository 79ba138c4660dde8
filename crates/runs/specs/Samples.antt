-- Worked samples, each a closed computation.
use Rattle.std.specs.Prelude.{◌≡◌, ℕ, zero, suc, min, cond, List, [], ◌∷◌, ℤ, pos, negsuc}
use Rattle.trees.specs.Trees.{Name, Expr, variable, literal, binary, Command, labelled, empty, go_to, go_to_of, read, print, branch, Program}
use Rattle.trees.specs.declared.operator.Operator.TheVariants.{Plus as plus, Minus as minus, Times as times, Over as over}
use Rattle.trees.specs.declared.relation.Relation.{Relation}
use Rattle.trees.specs.declared.relation.Relation.TheVariants.{Greater as greater, Equal as equal, Less as less}
use Rattle.arithmetic.specs.Words.{Words, Lawful}
use Rattle.host.specs.Meaning.{meaning}
use Rattle.runs.specs.Names.{same}
use Rattle.runs.specs.Events.{World, world, Mark, number, line_end, Status, Running, Stopped, NoLine, NoPaper, Corrupt, Timed, Event, line, mark, close, stop, no_line, no_paper}
use Rattle.runs.specs.Source.{events}
use Rattle.runs.specs.Machine.{Bru, Brn, Ada, Sub, Mul, Lda, Sta, Read, Convert, Newline, Stop, encode, State, run, count, loaded}
use Rattle.runs.specs.Code.{Layout, expression, instructions, code_of}
use Rattle.runs.specs.Placed.{Placed, Ready}

-- words that stop at 99,999,999 and -99,999,999
abbrev pub stopping : ℤ → ℤ
stopping (pos n) = pos (min n 99999999)
stopping (negsuc n) = negsuc (min n 99999998)

-- with these words, every mark has the weight 1
abbrev pub light : World
light = world (record { lowest = negsuc 99999998; highest = pos 99999999; fit = stopping }) (λ (m : Mark). 1)

-- a name, and a number of one digit, by its byte
abbrev pub Q : Name
Q = 81 ∷ []

abbrev pub digit : ℕ → Expr
digit b = literal (b ∷ [])

-- Q has cell 66, the digits 9, 3, 1, 2, 4 cells 67 to 71
abbrev pub layout : Layout
layout = record {
  variable_cell = λ (x : Name). 66;
  literal_cell = λ (ds : List ℕ). cond (same ds (57 ∷ [])) 67 (cond (same ds (51 ∷ [])) 68 (cond (same ds (49 ∷ [])) 69 (cond (same ds (50 ∷ [])) 70 71)));
  used = 72;
}

abbrev pub empty_cells : ℕ → List ℤ → List ℤ
empty_cells zero s = s
empty_cells (suc n) s = pos 0 ∷ empty_cells n s

-- #TEMP, #ONE, 64 temporaries, Q, and the digits
abbrev pub cells : List ℤ
cells = pos 0 ∷ pos 1 ∷ empty_cells 64 (pos 0 ∷ pos 9 ∷ pos 3 ∷ pos 1 ∷ pos 2 ∷ pos 4 ∷ [])

abbrev pub after : Program → List ℤ → ℕ → ℕ → State
after p lines paper n = run light (code_of layout p) 72 n (loaded cells (meaning lines [] paper))

abbrev pub carried : Program → List ℤ → ℕ → ℕ → ℕ
carried p lines paper n = count light (code_of layout p) 72 n (loaded cells (meaning lines [] paper))

abbrev pub lone : Command → Program
lone c = record { first = c; more = [] }

abbrev pub charged : ℕ → Event → Timed
charged c e = record { cost = c; event = e }

-- READ Q; IF Q > 9 THEN PRINT Q * 3 ELSE END
abbrev pub thrice : Program
thrice = record { first = read (Q ∷ []); more = branch greater (variable Q) (digit 57) (print (binary times (variable Q) (digit 51) ∷ [])) empty ∷ [] }

-- IF a r b THEN PRINT 1 ELSE PRINT 2
abbrev pub compares : Relation → Expr → Expr → Program
compares r e f = lone (branch r e f (print (digit 49 ∷ [])) (print (digit 50 ∷ [])))

-- READ Q; GO TO Q OF A, B, C; PRINT 9; A: PRINT 1; B: PRINT 2; C: END
abbrev pub picks : Program
picks = record {
  first = read (Q ∷ []);
  more =
      go_to_of Q (65 ∷ []) ((66 ∷ []) ∷ (67 ∷ []) ∷ []) ∷ print (digit 57 ∷ []) ∷
      labelled (65 ∷ []) (print (digit 49 ∷ [])) ∷ labelled (66 ∷ []) (print (digit 50 ∷ [])) ∷ labelled (67 ∷ []) empty ∷ [];
}

-- GO TO A; IF 1 > 2 THEN A: PRINT 1 ELSE PRINT 2; PRINT 4
abbrev pub jump_in : Program
jump_in = record {
  first = go_to (65 ∷ []);
  more = branch greater (digit 49) (digit 50) (labelled (65 ∷ []) (print (digit 49 ∷ []))) (print (digit 50 ∷ [])) ∷ print (digit 52 ∷ []) ∷ [];
}

-- IF 1 = 1 THEN IF 1 = 1 THEN ELSE ELSE
abbrev pub nested : Program
nested = lone (branch equal (digit 49) (digit 49) (branch equal (digit 49) (digit 49) empty empty) empty)

-- the sum of a and b
abbrev pub added : Expr → Expr → Expr
added a b = binary plus a b

-- words that are no program's code, on no lines and no paper
abbrev pub raw : List ℕ → ℕ → Status
raw code n = (run light code 72 n (loaded cells (meaning [] [] 0))).status

pub record Samples : Type 0 where
  -- the premises of the theorems are met: `thrice` keeps the limits, and the cells are ready for it in every lawful arithmetic
  pub thrice_placed : Placed layout thrice
  pub thrice_ready : (w : Words) → Lawful w → Ready w layout thrice cells
  -- END is the word A003 hex, and stops in one instruction
  pub end_word : code_of layout (lone empty) ≡ 0xA003 ∷ []
  pub end_stops : (after (lone empty) [] 9 1).status ≡ Stopped
  -- the code of `thrice`
  pub thrice_code : instructions layout thrice ≡
      Read ∷ Sta 66 ∷ Lda 66 ∷ Sta 0 ∷ Lda 67 ∷ Sub 0 ∷ Brn 8 ∷ Bru 14 ∷ Lda 66 ∷ Mul 68 ∷ Sta 2 ∷ Convert ∷ Newline ∷ Bru 14 ∷ Stop ∷ []
  -- on line 12 its run costs 14
  pub thrice_run : events light thrice (meaning (pos 12 ∷ []) [] 9) 9 ≡
      charged 1 line ∷ charged 11 (mark (number (pos 36))) ∷ charged 12 (mark line_end) ∷ charged 14 (close stop) ∷ []
  -- and the machine shows it in 14 steps; after 13 there are the same marks, and the run is open
  pub thrice_host : (after thrice (pos 12 ∷ []) 9 14).host ≡ meaning [] (number (pos 36) ∷ line_end ∷ []) 7
  pub thrice_stops : (after thrice (pos 12 ∷ []) 9 14).status ≡ Stopped
  pub thrice_count : carried thrice (pos 12 ∷ []) 9 20 ≡ 14
  pub thrice_marks : (after thrice (pos 12 ∷ []) 9 13).host ≡ meaning [] (number (pos 36) ∷ line_end ∷ []) 7
  pub thrice_open : (after thrice (pos 12 ∷ []) 9 13).status ≡ Running
  -- 9 is not above 9
  pub thrice_not : events light thrice (meaning (pos 9 ∷ []) [] 9) 9 ≡ charged 1 line ∷ charged 9 (close stop) ∷ []
  -- without a line it closes in one instruction
  pub thrice_lacks : (after thrice [] 9 5).status ≡ NoLine
  pub thrice_lacks_count : carried thrice [] 9 5 ≡ 1
  -- with paper for one mark the number's mark stays, and the line end's instruction counts
  pub thrice_paper : after thrice (pos 12 ∷ []) 1 99 ≡ record { address = 12; accumulator = pos 36; cells = (after thrice (pos 12 ∷ []) 1 99).cells; host = meaning [] (number (pos 36) ∷ []) 0; status = NoPaper }
  pub thrice_paper_run : events light thrice (meaning (pos 12 ∷ []) [] 1) 9 ≡ charged 1 line ∷ charged 11 (mark (number (pos 36))) ∷ charged 12 (close no_paper) ∷ []
  -- comparisons look at the second less the first, and a THEN part does not fall into ELSE
  pub above : (after (compares greater (digit 50) (digit 49)) [] 9 99).host.marks ≡ number (pos 1) ∷ line_end ∷ []
  pub not_above : (after (compares greater (digit 49) (digit 50)) [] 9 99).host.marks ≡ number (pos 2) ∷ line_end ∷ []
  pub below : (after (compares less (digit 49) (digit 50)) [] 9 99).host.marks ≡ number (pos 1) ∷ line_end ∷ []
  pub not_below : (after (compares less (digit 50) (digit 49)) [] 9 99).host.marks ≡ number (pos 2) ∷ line_end ∷ []
  pub alike : (after (compares equal (digit 50) (digit 50)) [] 9 99).host.marks ≡ number (pos 1) ∷ line_end ∷ []
  -- a pick: label 1 costs 4, and no label, where there are three, 6
  pub picks_second : events light picks (meaning (pos 1 ∷ []) [] 9) 9 ≡
      charged 1 line ∷ charged 8 (mark (number (pos 2))) ∷ charged 9 (mark line_end) ∷ charged 10 (close stop) ∷ []
  pub picks_none : (after picks (pos 3 ∷ []) 9 99).host.marks ≡
      number (pos 9) ∷ line_end ∷ number (pos 1) ∷ line_end ∷ number (pos 2) ∷ line_end ∷ []
  pub picks_none_cost : carried picks (pos 3 ∷ []) 9 99 ≡ 18
  pub picks_negative : carried picks (negsuc 0 ∷ []) 9 99 ≡ 18
  -- (1 + 2) * (3 + 4) stores to #TEMP1, #TEMP2 and #TEMP3
  pub parentheses : expression layout (binary times (added (digit 49) (digit 50)) (added (digit 51) (digit 52))) ≡
      Lda 69 ∷ Ada 70 ∷ Sta 2 ∷ Lda 68 ∷ Ada 71 ∷ Sta 3 ∷ Lda 2 ∷ Mul 3 ∷ Sta 4 ∷ []
  -- a jump into a THEN part, which is followed by what follows its IF
  pub jumps_in : (after jump_in [] 9 99).host.marks ≡ number (pos 1) ∷ line_end ∷ number (pos 4) ∷ line_end ∷ []
  pub jumps_in_cost : carried jump_in [] 9 99 ≡ 9
  -- each THEN part that is run off costs 1, and an ELSE part 0
  pub nested_ends : events light nested (meaning [] [] 0) 9 ≡ charged 13 (close stop) ∷ []
  pub else_ends : events light (lone (branch less (digit 49) (digit 49) empty empty)) (meaning [] [] 0) 9 ≡ charged 7 (close stop) ∷ []
  -- a list is read line, store, line, store, and printed with a line end after each value
  pub reads_list : events light (lone (read (Q ∷ Q ∷ []))) (meaning (pos 5 ∷ []) [] 0) 9 ≡ charged 1 line ∷ charged 3 (close no_line) ∷ []
  pub prints_list : events light (lone (print (digit 49 ∷ digit 50 ∷ []))) (meaning [] [] 9) 9 ≡
      charged 2 (mark (number (pos 1))) ∷ charged 3 (mark line_end) ∷ charged 5 (mark (number (pos 2))) ∷ charged 6 (mark line_end) ∷ charged 7 (close stop) ∷ []
  -- READ alone drops a line, and PRINT alone ends one
  pub lone_read : events light (lone (read [])) (meaning (pos 5 ∷ []) [] 0) 9 ≡ charged 1 line ∷ charged 2 (close stop) ∷ []
  pub lone_print : events light (lone (print [])) (meaning [] [] 1) 9 ≡ charged 1 (mark line_end) ∷ charged 2 (close stop) ∷ []
  -- (1 - 9) / 3 is -2: a quotient drops its fraction towards zero
  pub towards_zero : (after (lone (print (binary over (binary minus (digit 49) (digit 57)) (digit 51) ∷ []))) [] 9 99).host.marks ≡ number (negsuc 1) ∷ line_end ∷ []
  -- 9 / 0 is 9, for which 1 - 1 stands
  pub by_zero : (after (lone (print (binary over (digit 57) (binary minus (digit 49) (digit 49)) ∷ []))) [] 9 99).host.marks ≡ number (pos 9) ∷ line_end ∷ []
  -- operation 11, a jump out of the code that would not be taken, cell 72, call 4, and an address past the code are corrupt
  pub no_operation : raw (0xB000 ∷ []) 1 ≡ Corrupt 0
  pub no_address : raw (encode (Brn 2) ∷ encode Stop ∷ []) 1 ≡ Corrupt 0
  pub no_cell : raw (encode (Lda 71) ∷ encode (Sta 72) ∷ []) 2 ≡ Corrupt 1
  pub no_call : raw (0xA004 ∷ []) 1 ≡ Corrupt 0
  pub no_word : raw (encode (Lda 71) ∷ []) 2 ≡ Corrupt 1
  -- reading a cell fits its number, and leaves the cell alone
  pub fitted_read : run light (encode (Lda 0) ∷ []) 1 1 (loaded (pos 123456789 ∷ []) (meaning [] [] 0)) ≡
      record { address = 1; accumulator = pos 99999999; cells = pos 123456789 ∷ []; host = meaning [] [] 0; status = Running }
  -- such a word is not counted, and a budget that is used up does not look at it
  pub not_counted : count light (encode (Lda 71) ∷ []) 72 9 (loaded cells (meaning [] [] 0)) ≡ 1
  pub not_looked : raw (encode (Lda 71) ∷ []) 1 ≡ Running
