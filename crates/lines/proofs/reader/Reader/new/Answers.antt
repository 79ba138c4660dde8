use Rattle.std.proofs.Common.{true, false, sym, ◌∙◌}
use Rattle.lines.proofs.Steps.{beginning}
use Rattle.lines.proofs.reader.Reader.new.Goals as goal
use Rattle.lines.proofs.reader.Reader.new.Goals.{then-is_ok, else-is_ok}

pub invariant_of-result : goal.invariant_of-result
invariant_of-result c =
    elim c.if-is_ok.branch [
      | then-is_ok w ↦ record { ok = (beginning _ _ c.check.ensures true (sym w.if-is_ok.true ∙ c.is_ok.ensures.value) _ w.at-is).ok }
      | else-is_ok w ↦ record { ok = (beginning _ _ c.check.ensures false (sym w.if-is_ok.false ∙ c.is_ok.ensures.value) _ w.at-is).ok }
    ]

pub returns-clause-lines : goal.returns-clause-lines
returns-clause-lines c =
    elim c.if-is_ok.branch [
      | then-is_ok w ↦ (beginning _ _ c.check.ensures true (sym w.if-is_ok.true ∙ c.is_ok.ensures.value) _ w.at-is).lines
      | else-is_ok w ↦ (beginning _ _ c.check.ensures false (sym w.if-is_ok.false ∙ c.is_ok.ensures.value) _ w.at-is).lines
    ]
