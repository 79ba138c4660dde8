use Rattle.std.proofs.Common.{sym, subst, w32, to_z, of_z, Ok, Err}
use Rattle.std.proofs.lemmas.Int.{to_z-of_z}
use Rattle.symbols.specs.Table.{NumberTold}
use Rattle.symbols.proofs.Telling.{number_kept, number_refused, number_entered}
use Rattle.symbols.proofs.table.Table.note_word.Goals as goal

pub returns-in-Some-clause-told : goal.returns-in-Some-clause-told
returns-in-Some-clause-told c =
    subst (λ v. NumberTold c.args.self.now c.args.self.now c.args.spelling v (Ok c.in-Some.index)) (to_z-of_z w32 c.args.word c.ranges.word)
    (number_kept c.args.self.now c.args.spelling (to_z w32 (of_z w32 c.args.word)) c.in-Some.index c.in-Some.ensures.0 c.in-Some.ensures.1)

pub returns-then-is_full-clause-told : goal.returns-then-is_full-clause-told
returns-then-is_full-clause-told c =
    subst (λ v. NumberTold c.args.self.now c.args.self.now c.args.spelling v (Err c.fault_at.result)) (to_z-of_z w32 c.args.word c.ranges.word)
    (number_refused c.args.self.now c.args.spelling (to_z w32 (of_z w32 c.args.word)) c.in_default.ensures c.fault_at.result (sym c.if-is_full.ensures) c.fault_at.ensures)

pub returns-clause-told : goal.returns-clause-told
returns-clause-told c =
    subst (λ v. NumberTold c.args.self.now c.add_cell.new.self c.args.spelling v (Ok c.add_cell.result)) (to_z-of_z w32 c.args.word c.ranges.word)
    (number_entered c.args.self.now c.args.spelling (to_z w32 (of_z w32 c.args.word)) c.in_default.ensures c.add_cell.new.self c.add_cell.result (sym c.if-is_full.ensures) c.add_cell.ensures.index c.add_cell.ensures.after)
