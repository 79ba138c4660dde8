use Rattle.std.proofs.Common.{rules, ◌≡◌, Err, ap, ◌∙◌}
use Rattle.fault.specs.declared.Fault.{Fault}
use Rattle.fault.specs.declared.Refusal.TheVariants.{NoProgram}
use Rattle.reader.proofs.OneToken.{halfway, refused_at_once, refused_at_use, refused_by_form, onward, no_value}
use Rattle.reader.proofs.reader.Reader.take.Goals as goal

pub returns-in_err-step-clause-taken : goal.returns-in_err-step-clause-taken
returns-in_err-step-clause-taken g c = λ text past p ps x h.
    let a = c.args in
    let w = g.N.Arithmetic.words in
    let f : Fault = record { refusal = NoProgram; place = a.lexeme.offset } in
    let y = c.in_err-step.ensures in
    let e : c.from_residual.result ≡ Err c.in_err-step.field-0.0 = search rules in
    refused_at_once w text past p ps a.self.now a.table.now a.lexeme.offset _ a.of_next h x c.class.result c.class.ensures
    c.leave.result c.leave.ensures.answer y.ok_part c.leave.new.self a.table.now _ (e ∙ ap Err (no_value c.leave.result f c.in_err-step.field-0.0 y.value y.ok_part))

pub returns-in_err-reference-clause-taken : goal.returns-in_err-reference-clause-taken
returns-in_err-reference-clause-taken g c = λ text past p ps x h.
    let a = c.args in
    let w = g.N.Arithmetic.words in
    let l = c.leave.ensures in
    let r = c.role-role in
    let y =
    halfway w text past p ps a.self.now a.table.now a.lexeme.offset _ a.of_next h x c.leave.new.self c.in_ok-step.step r.result c.class.result c.class.ensures c.leave.result l.answer
    c.in_ok-step.ensures.ok_part l.below l.plan l.counts l.kept _ c.current-state.ensures r.ensures.means c.count.result c.min.result c.count.ensures c.min.ensures r.ensures.gives in
    refused_at_use w text past p ps a.self.now a.table.now a.lexeme.offset _ a.of_next h x c.leave.new.self c.in_ok-step.step r.result y c.note.new.table
    c.in_err-reference.field-0.0 c.in_err-reference.ensures.told c.leave.new.self c.note.new.table _ (search rules)

pub returns-in_err-check-clause-taken : goal.returns-in_err-check-clause-taken
returns-in_err-check-clause-taken g c = λ text past p ps x h.
    let a = c.args in
    let w = g.N.Arithmetic.words in
    let l = c.leave.ensures in
    let r = c.role-role in
    let y =
    halfway w text past p ps a.self.now a.table.now a.lexeme.offset _ a.of_next h x c.leave.new.self c.in_ok-step.step r.result c.class.result c.class.ensures c.leave.result l.answer
    c.in_ok-step.ensures.ok_part l.below l.plan l.counts l.kept _ c.current-state.ensures r.ensures.means c.count.result c.min.result c.count.ensures c.min.ensures r.ensures.gives in
    refused_by_form w text past p ps a.self.now a.table.now a.lexeme.offset _ a.of_next h x c.leave.new.self c.in_ok-step.step r.result y c.note.new.table
    c.in_ok-reference.reference c.in_ok-reference.ensures.told c.is_listed.result c.is_listed.ensures c.in_err-check.field-0.0 c.in_err-check.ensures c.leave.new.self c.note.new.table _ (search rules)

pub returns-clause-taken : goal.returns-clause-taken
returns-clause-taken g c = λ text past p ps x h.
    let a = c.args in
    let w = g.N.Arithmetic.words in
    let l = c.leave.ensures in
    let r = c.role-role in
    let e = c.enter.ensures in
    let y =
    halfway w text past p ps a.self.now a.table.now a.lexeme.offset _ a.of_next h x c.leave.new.self c.in_ok-step.step r.result c.class.result c.class.ensures c.leave.result l.answer
    c.in_ok-step.ensures.ok_part l.below l.plan l.counts l.kept _ c.current-state.ensures r.ensures.means c.count.result c.min.result c.count.ensures c.min.ensures r.ensures.gives in
    onward w text past p ps a.self.now a.table.now a.lexeme.offset _ a.of_next h x c.leave.new.self c.in_ok-step.step r.result y c.note.new.table
    c.in_ok-reference.reference c.in_ok-reference.ensures.told c.is_listed.result c.is_listed.ensures c.in_ok-check.ensures c.in_ok-reference.ensures.kept
    c.enter.new.self _ e.plan e.returns e.counts e.kept c.after_token-self.ensures
