-- Small sheets and what the definitions say of them, from the text: refusals, images, runs.
use Rattle.std.specs.Prelude.{◌≡◌, ℕ, zero, suc, ◌-◌, List, [], ◌∷◌, ◌++◌, map, length, replicate, ℤ, pos, negsuc, codes}
use Rattle.std.proofs.Math.Option.{Option, none, some}
use Rattle.trees.specs.Trees.{Program}
use Rattle.arithmetic.specs.Words.{Words}
use Rattle.arithmetic.specs.Wrapping.{wrapping}
use Rattle.arithmetic.specs.Stopping.{stopping}
use Rattle.host.specs.declared.mark.Mark.{Mark}
use Rattle.host.specs.declared.mark.Mark.TheVariants.{Number as number, LineEnd as line_end}
use Rattle.host.specs.Meaning.{Meaning, meaning}
use Rattle.grammar.specs.Machine.{parse}
use Rattle.limits.specs.Rules.{Refused}
use Rattle.limits.specs.Symbols.{Kind, variable_kind, number_kind, label_kind, Symbol}
use Rattle.runs.specs.declared.status.Status.{Status}
use Rattle.runs.specs.declared.status.Status.TheVariants.{Running, Stopped, NoLine, NoPaper}
use Rattle.runs.specs.declared.instruction.Instruction.{Instruction}
use Rattle.runs.specs.declared.instruction.Instruction.TheVariants.{Bru, Brz, Brp, Ada, Sub, Mul, Div, Lda, Sta, Read, Convert, Newline, Stop}
use Rattle.runs.specs.Events.{World, world, Timed, Event, line, mark, close, stop}
use Rattle.runs.specs.Source.{events}
use Rattle.runs.specs.Machine.{encode, State, run, count, loaded}
use Rattle.sheets.specs.Images.{plain_tokens, refusal_of, fixed_cells, Image, image}

abbrev upon : {A B : Type 0} → (A → B) → Option A → Option B
upon f none = none
upon f (some x) = some (f x)

-- so many copies of some bytes
abbrev copies : ℕ → List ℕ → List ℕ
copies zero bytes = []
copies (suc n) bytes = bytes ++ copies n bytes

-- the refusal n at the place p
abbrev refused : ℕ → ℕ → Option Refused
refused n p = some (record { number = n; place = p })

abbrev entry : Kind → ℕ → ℕ → ℕ → Symbol
entry k p l a = record { kind = k; place = p; length = l; at = a }

-- an image by its words, what its cells hold from 66 on, and its symbols
abbrev holding : List ℕ → List ℤ → List Symbol → Option Image
holding ws zs ss = some (record { code = ws; cells = fixed_cells ++ zs; symbols = ss })

-- the code of a text, and instructions as words
abbrev code : List ℕ → Option (List ℕ)
code text = upon (λ (i : Image). i.code) (image wrapping text)

abbrev words : List Instruction → Option (List ℕ)
words is = some (map encode is)

-- what the cells of a text hold from 66 on
abbrev cells : Words → List ℕ → Option (List ℤ)
cells w text = upon (λ (i : Image). i.cells) (image w text)

abbrev values : List ℤ → Option (List ℤ)
values zs = some (fixed_cells ++ zs)

-- what is seen after a call of so many steps: the status and the steps that counted, and since the load the lines taken and the marks
pub record Call : Type 0 where
  pub status : Status
  pub count : ℕ
  pub taken : ℕ
  pub marks : List Mark

abbrev shows : Status → ℕ → ℕ → List Mark → Call
shows s n k ms = record { status = s; count = n; taken = k; marks = ms }

abbrev calls : World → Image → Meaning → List ℕ → State → List Call
calls W i h [] m = []
calls W i h (n ∷ ns) m =
    shows (run W i.code (length i.cells) n m).status (count W i.code (length i.cells) n m)
    (length h.lines - length (run W i.code (length i.cells) n m).host.lines) (run W i.code (length i.cells) n m).host.marks ∷
    calls W i h ns (run W i.code (length i.cells) n m)

-- every mark weighs 1
abbrev light : Words → World
light w = world w (λ (m : Mark). 1)

-- a text is loaded, with these lines and this paper, and then called with these numbers of steps
abbrev runs : Words → List ℕ → List ℤ → ℕ → List ℕ → Option (List Call)
runs w text lines paper ns =
    upon (λ (i : Image). calls (light w) i (meaning lines [] paper) ns (loaded i.cells (meaning lines [] paper))) (image w text)

-- one call of 99 steps, without lines, on enough paper
abbrev prints : Words → List ℕ → Option (List Call)
prints w text = runs w text [] 99 (99 ∷ [])

-- it stops after n steps, with these marks
abbrev stops : ℕ → List Mark → Option (List Call)
stops n ms = some (shows Stopped n 0 ms ∷ [])

-- a number on a line of its own
abbrev lone : ℤ → List Mark
lone z = number z ∷ line_end ∷ []

-- the events of a text's source run in so many source steps
abbrev source : List ℕ → List ℤ → ℕ → Option (List Timed)
source text lines n = upon (λ (p : Program). events (light wrapping) p (meaning lines [] 99) n) (parse (plain_tokens text))

abbrev charged : ℕ → Event → Timed
charged c e = record { cost = c; event = e }

abbrev thrice : List ℕ
thrice = codes "READ Q; IF Q > 9 THEN PRINT Q * 3 ELSE END"

abbrev picks : List ℕ
picks = codes "READ Q; GO TO Q OF A, B, C; PRINT 9; A: PRINT 1; B: PRINT 2; C: END"

pub record Samples : Type 0 where
  -- END is the word A003 hex, in 66 cells without symbols, and stops in one step
  pub end : image wrapping (codes "END") ≡ holding (0xA003 ∷ []) [] []
  pub end_runs : runs wrapping (codes "END") [] 0 (1 ∷ []) ≡ stops 1 []
  -- Refusals.
  -- 2: one byte more than 32,768
  pub long : refusal_of wrapping (replicate 32769 32) ≡ refused 2 0
  -- 3: no program goes on so
  pub nothing : refusal_of wrapping [] ≡ refused 3 0
  pub only_comment : refusal_of wrapping (codes "% only") ≡ refused 3 6
  pub trailing_comma : refusal_of wrapping (codes "READ A, END") ≡ refused 3 8
  pub trailing_comma_print : refusal_of wrapping (codes "PRINT A, END") ≡ refused 3 9
  pub after_end : refusal_of wrapping (codes "END END") ≡ refused 3 4
  pub parted_becomes : refusal_of wrapping (codes "LET A : = 1 END") ≡ refused 3 6
  pub no_sign : refusal_of wrapping (codes "PRINT -1 END") ≡ refused 3 6
  pub no_else : refusal_of wrapping (codes "IF A > B THEN END") ≡ refused 3 14
  pub lower_case : refusal_of wrapping (codes "end") ≡ refused 3 0
  pub carriage_return : refusal_of wrapping (codes "END" ++ (13 ∷ 10 ∷ [])) ≡ refused 3 3
  pub unfinished : refusal_of wrapping (codes "GO TO X") ≡ refused 3 7
  -- 4: a name of 33 bytes, and before it no other
  pub long_name : refusal_of wrapping (codes "PRINT " ++ (copies 33 (codes "N") ++ codes " ?")) ≡ refused 4 6
  pub long_enough : refusal_of wrapping (copies 32 (codes "N") ++ codes ": END") ≡ none
  pub behind_end : refusal_of wrapping (codes "END " ++ copies 33 (codes "N")) ≡ refused 3 4
  -- 5: a label a second time
  pub twice : refusal_of wrapping (codes "A: A: END") ≡ refused 5 3
  pub twice_before_fault : refusal_of wrapping (codes "A: A END") ≡ refused 5 3
  pub twice_later : refusal_of wrapping (codes "A: PRINT; B: A: END") ≡ refused 5 13
  -- 6: a label and a variable
  pub both : refusal_of wrapping (codes "LET A := 1; GO TO A; END") ≡ refused 6 18
  pub both_by_label : refusal_of wrapping (codes "READ V; V: END") ≡ refused 6 8
  pub both_by_of : refusal_of wrapping (codes "L: GO TO L OF L END") ≡ refused 6 9
  pub both_at_end : refusal_of wrapping (codes "PRINT V; GO TO V )") ≡ refused 6 15
  -- 9: the 65th operator
  pub operators : refusal_of wrapping (codes "PRINT 1" ++ (copies 64 (codes "+1") ++ codes " END")) ≡ none
  pub many_operators : refusal_of wrapping (codes "PRINT 1" ++ (copies 65 (codes "+1") ++ codes " END")) ≡ refused 9 135
  -- 10: parentheses and IFs, 33 deep
  pub deep : refusal_of wrapping (codes "PRINT " ++ (copies 32 (codes "(") ++ (codes "1" ++ (copies 32 (codes ")") ++ codes " END")))) ≡ none
  pub too_deep : refusal_of wrapping (codes "PRINT " ++ copies 33 (codes "(")) ≡ refused 10 38
  pub too_deep_then : refusal_of wrapping (copies 33 (codes "IF 1=1THEN ")) ≡ refused 10 352
  pub too_deep_else : refusal_of wrapping (copies 33 (codes "IF 1=1THEN ELSE ")) ≡ refused 10 512
  -- 11: the 65th label after OF
  pub labels : refusal_of wrapping (codes "GO TO Q OF L" ++ (copies 63 (codes ",L") ++ codes ";L:END")) ≡ none
  pub many_labels : refusal_of wrapping (codes "GO TO Q OF L" ++ (copies 64 (codes ",L") ++ codes ";L:END")) ≡ refused 11 139
  -- 12: a label that stands nowhere
  pub unmet : refusal_of wrapping (codes "X1: GO TO X; END") ≡ refused 12 10
  pub unmet_listed : refusal_of wrapping (codes "GO TO A OF X, Y; X: END") ≡ refused 12 14
  pub unmet_behind_fault : refusal_of wrapping (codes "GO TO X; END END") ≡ refused 3 13
  -- a refused text has no image
  pub no_image : image wrapping (codes "X1: GO TO X; END") ≡ none
  -- Images.
  -- CALL READ, STA 66, LDA 66, STA 0, LDA 67, SUB 0, BRN 8, BRU 14, LDA 66, MUL 68, STA 2, CALL CONVERT, CALL NEWLINE, BRU 14, CALL STOP
  pub thrice_image : image wrapping thrice ≡ holding
      (0xA000 ∷ 0x9042 ∷ 0x8042 ∷ 0x9000 ∷ 0x8043 ∷ 0x5000 ∷ 0x2008 ∷ 0x000E ∷ 0x8042 ∷ 0x6044 ∷ 0x9002 ∷ 0xA001 ∷ 0xA002 ∷ 0x000E ∷ 0xA003 ∷ [])
      (pos 0 ∷ pos 9 ∷ pos 3 ∷ [])
      (entry variable_kind 5 1 66 ∷ entry number_kind 15 1 67 ∷ entry number_kind 32 1 68 ∷ [])
  pub thrice_cells : upon (λ (i : Image). length i.cells) (image wrapping thrice) ≡ some 69
  -- a number keeps its first spelling, and a label before a command has the address of the next word
  pub spelled : image wrapping (codes "PRINT 007, A; L: PRINT 7 END") ≡ holding
      (0x8042 ∷ 0xA001 ∷ 0xA002 ∷ 0x8043 ∷ 0xA001 ∷ 0xA002 ∷ 0x8042 ∷ 0xA001 ∷ 0xA002 ∷ 0xA003 ∷ [])
      (pos 7 ∷ pos 0 ∷ [])
      (entry number_kind 6 3 66 ∷ entry variable_kind 11 1 67 ∷ entry label_kind 14 1 6 ∷ [])
  -- a label is entered where it is first mentioned; at the end it has END's address, in an empty THEN part that of the jump past it
  pub ahead : image wrapping (codes "GO TO X OF Y;Y:END") ≡
      holding (0x8042 ∷ 0x1002 ∷ 0xA003 ∷ []) (pos 0 ∷ []) (entry variable_kind 6 1 66 ∷ entry label_kind 11 1 2 ∷ [])
  pub in_then : upon (λ (i : Image). i.symbols) (image wrapping (codes "IF 1=1THEN T:ELSE E:; D: END")) ≡
      some (entry number_kind 3 1 66 ∷ entry label_kind 11 1 6 ∷ entry label_kind 18 1 7 ∷ entry label_kind 22 1 7 ∷ [])
  -- numbers that are fitted to one word share a cell, so the cells depend on the arithmetic
  pub shared : cells wrapping (codes "PRINT 4294967296, 0, 4294967295 END") ≡ values (pos 0 ∷ negsuc 0 ∷ [])
  pub not_shared : cells stopping (codes "PRINT 4294967296, 0, 4294967295 END") ≡ values (pos 99999999 ∷ pos 0 ∷ [])
  pub one_beside_one : cells wrapping (codes "PRINT 1 END") ≡ values (pos 1 ∷ [])
  -- empty commands and labels have no code; a comment and blanks say nothing
  pub empties : code (codes "A:B:C:;;END % tail END") ≡ words (Stop ∷ [])
  pub lone_read : code (codes "READ END") ≡ words (Read ∷ Stop ∷ [])
  pub lone_print : code (codes "PRINT END") ≡ words (Newline ∷ Stop ∷ [])
  pub assigned : code (codes "LET A:=(B) END") ≡ words (Lda 67 ∷ Sta 66 ∷ Stop ∷ [])
  pub read_list : code (codes "L:READ A,B,A;GO TO L;END") ≡ words (Read ∷ Sta 66 ∷ Read ∷ Sta 67 ∷ Read ∷ Sta 66 ∷ Bru 0 ∷ Stop ∷ [])
  pub printed_list : code (codes "L6:;PRINT 3,(A1B2C3)/A1B2C3 END") ≡
      words (Lda 66 ∷ Convert ∷ Newline ∷ Lda 67 ∷ Div 67 ∷ Sta 2 ∷ Convert ∷ Newline ∷ Stop ∷ [])
  pub grouped : code (codes "LET A9:=A9*5+(4)END") ≡ words (Lda 66 ∷ Mul 67 ∷ Sta 2 ∷ Lda 2 ∷ Ada 68 ∷ Sta 3 ∷ Sta 66 ∷ Stop ∷ [])
  pub alike : code (codes "IF(1)=(1)THEN ELSE END") ≡ words (Lda 66 ∷ Sta 0 ∷ Lda 66 ∷ Sub 0 ∷ Brz 6 ∷ Bru 7 ∷ Bru 7 ∷ Stop ∷ [])
  pub below : code (codes "IF Z<Y THEN READ ELSE L7:END") ≡
      words (Lda 66 ∷ Sta 0 ∷ Lda 67 ∷ Sub 0 ∷ Brp 6 ∷ Bru 8 ∷ Read ∷ Bru 8 ∷ Stop ∷ [])
  pub picked : code picks ≡ words (
      Read ∷ Sta 66 ∷ Lda 66 ∷ Brz 11 ∷ Sub 1 ∷ Brz 14 ∷ Sub 1 ∷ Brz 17 ∷ Lda 67 ∷ Convert ∷ Newline ∷ Lda 68 ∷ Convert ∷ Newline ∷
      Lda 69 ∷ Convert ∷ Newline ∷ Stop ∷ [])
  -- inside parentheses the temporaries go on
  pub parentheses : code (codes "PRINT (1+2)*(3+4) END") ≡
      words (Lda 66 ∷ Ada 67 ∷ Sta 2 ∷ Lda 68 ∷ Ada 69 ∷ Sta 3 ∷ Lda 2 ∷ Mul 3 ∷ Sta 4 ∷ Convert ∷ Newline ∷ Stop ∷ [])
  -- Runs.
  -- on line 12 the source run costs 14; the machine shows it in 5 steps and then 9, and after 5 and 8 all but the stop
  pub thrice_source : source thrice (pos 12 ∷ []) 9 ≡
      some (charged 1 line ∷ charged 11 (mark (number (pos 36))) ∷ charged 12 (mark line_end) ∷ charged 14 (close stop) ∷ [])
  pub thrice_stops : runs wrapping thrice (pos 12 ∷ []) 9 (5 ∷ 9 ∷ []) ≡ some (shows Running 5 1 [] ∷ shows Stopped 9 1 (lone (pos 36)) ∷ [])
  pub thrice_open : runs wrapping thrice (pos 12 ∷ []) 9 (5 ∷ 8 ∷ []) ≡ some (shows Running 5 1 [] ∷ shows Running 8 1 (lone (pos 36)) ∷ [])
  -- 9 is not above 9
  pub thrice_not : runs wrapping thrice (pos 9 ∷ []) 9 (99 ∷ []) ≡ some (shows Stopped 9 1 [] ∷ [])
  -- without a line it closes in one instruction
  pub thrice_no_line : runs wrapping thrice [] 9 (5 ∷ []) ≡ some (shows NoLine 1 0 [] ∷ [])
  -- with paper for one mark the number's mark stays, and the line end's instruction counts
  pub thrice_no_paper : runs wrapping thrice (pos 12 ∷ []) 1 (99 ∷ []) ≡ some (shows NoPaper 12 1 (number (pos 36) ∷ []) ∷ [])
  -- wrapped words and ledger words
  pub wraps : prints wrapping (codes "PRINT 2147483647 + 1 END") ≡ stops 6 (lone (negsuc 2147483647))
  pub settles : prints stopping (codes "PRINT 2147483647 + 1 END") ≡ stops 6 (lone (pos 99999999))
  pub wraps_line : runs wrapping (codes "READ X; PRINT X + X, X - 2 END") (pos 1435114081 ∷ []) 9 (99 ∷ []) ≡
      some (shows Stopped 13 1 (number (negsuc 1424739133) ∷ line_end ∷ number (pos 1435114079) ∷ line_end ∷ []) ∷ [])
  -- divided by 0 a number stays, and a quotient drops its fraction towards 0
  pub by_zero : prints wrapping (codes "PRINT 5 / 0 END") ≡ stops 6 (lone (pos 5))
  pub towards_zero : prints wrapping (codes "PRINT (0 - 7) / 2 END") ≡ stops 9 (lone (negsuc 2))
  pub parentheses_runs : prints wrapping (codes "PRINT (1+2)*(3+4) END") ≡ stops 12 (lone (pos 21))
  -- comparisons; a THEN part does not fall into ELSE
  pub above : prints wrapping (codes "IF 2 > 1 THEN PRINT 1 ELSE PRINT 2 END") ≡ stops 10 (lone (pos 1))
  pub not_above : prints wrapping (codes "IF 1 > 2 THEN PRINT 1 ELSE PRINT 2 END") ≡ stops 10 (lone (pos 2))
  pub less : prints wrapping (codes "IF 1 < 2 THEN PRINT 1 ELSE PRINT 2 END") ≡ stops 10 (lone (pos 1))
  pub not_less : prints wrapping (codes "IF 2 < 1 THEN PRINT 1 ELSE PRINT 2 END") ≡ stops 10 (lone (pos 2))
  pub equal : prints wrapping (codes "IF 2 = 2 THEN PRINT 1 ELSE PRINT 2 END") ≡ stops 10 (lone (pos 1))
  pub not_equal : prints wrapping (codes "IF 1 = 2 THEN PRINT 1 ELSE PRINT 2 END") ≡ stops 10 (lone (pos 2))
  -- the comparison subtracts in words: 2,147,483,647 is not above -2 there, since -2 less it wraps
  pub compares_words : prints wrapping (codes "IF 2147483647 > 0 - 2 THEN PRINT 1 ELSE PRINT 2 END") ≡ stops 12 (lone (pos 2))
  pub nested : prints wrapping (codes "IF 1=1THEN IF 1=1THEN ELSE ELSE END") ≡ stops 13 []
  -- a jump into a THEN part, which is followed by what follows its IF
  pub jumps_in : prints wrapping (codes "GO TO A; IF 1 > 2 THEN A: PRINT 1 ELSE PRINT 2; PRINT 4 END") ≡
      stops 9 (number (pos 1) ∷ line_end ∷ number (pos 4) ∷ line_end ∷ [])
  pub jumps_out : prints wrapping (codes "IF 5 - 3 = V THEN L1: PRINT W ELSE GO TO L1; LET Z0 := 6 END") ≡ stops 16 (lone (pos 0))
  pub endless : runs wrapping (codes "OF1:LET TOO:=TOO;GO TO OF1 END") [] 9 (99 ∷ 3 ∷ []) ≡ some (shows Running 99 0 [] ∷ shows Running 3 0 [] ∷ [])
  -- a pick is counted from 0; where it picks none, the next command follows
  pub picks_first : runs wrapping picks (pos 0 ∷ []) 9 (99 ∷ []) ≡
      some (shows Stopped 11 1 (number (pos 1) ∷ line_end ∷ number (pos 2) ∷ line_end ∷ []) ∷ [])
  pub picks_second : runs wrapping picks (pos 1 ∷ []) 9 (99 ∷ []) ≡ some (shows Stopped 10 1 (lone (pos 2)) ∷ [])
  pub picks_none : runs wrapping picks (pos 3 ∷ []) 9 (99 ∷ []) ≡
      some (shows Stopped 18 1 (number (pos 9) ∷ line_end ∷ number (pos 1) ∷ line_end ∷ number (pos 2) ∷ line_end ∷ []) ∷ [])
  pub picks_negative : runs wrapping picks (negsuc 0 ∷ []) 9 (99 ∷ []) ≡
      some (shows Stopped 18 1 (number (pos 9) ∷ line_end ∷ number (pos 1) ∷ line_end ∷ number (pos 2) ∷ line_end ∷ []) ∷ [])
  -- a list is read line, store, line, store; READ alone drops a line, and PRINT alone ends one
  pub reads_list : runs wrapping (codes "L:READ A,B,A;GO TO L;END") (pos 1 ∷ pos 2 ∷ pos 3 ∷ []) 0 (99 ∷ []) ≡ some (shows NoLine 8 3 [] ∷ [])
  pub reads_none : runs wrapping (codes "READ END") (pos 1 ∷ pos 2 ∷ []) 0 (1 ∷ 1 ∷ []) ≡ some (shows Running 1 1 [] ∷ shows Stopped 1 1 [] ∷ [])
  pub prints_none : prints wrapping (codes "PRINT; PRINT END") ≡ stops 3 (line_end ∷ line_end ∷ [])
  -- what is read is fitted
  pub reads_fitted : runs stopping (codes "READ A; PRINT A END") (pos 999999999999 ∷ []) 9 (99 ∷ []) ≡ some (shows Stopped 6 1 (lone (pos 99999999)) ∷ [])
  pub reads_wrapped : runs wrapping (codes "READ A; PRINT A END") (negsuc 4294967295 ∷ []) 9 (99 ∷ []) ≡ some (shows Stopped 6 1 (lone (pos 0)) ∷ [])
