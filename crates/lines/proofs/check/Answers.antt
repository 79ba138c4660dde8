use Rattle.std.proofs.Common.{sym, ◌∙◌}
use Rattle.lines.proofs.Checks.{none_read, read_end, read_within, whole_lines}
use Rattle.lines.proofs.check.Goals as goal
use Rattle.lines.proofs.check.Goals.{then-byte-eq10, else-byte-eq10}

pub loop-i-init : goal.loop-i-init
loop-i-init c = none_read c.args.text.now

pub loop-i-preserved : goal.loop-i-preserved
loop-i-preserved c =
    let r = c.loop-i.invariant in
    let p = sym c.in_ok-stage.ensures.ok_part ∙ c.after.ensures in
    elim c.if-byte-eq10.branch [
      | then-byte-eq10 w ↦ read_end _ _ _ _ r c.loop-i-test.true _ _ p w.if-byte-eq10.true w.count-is
      | else-byte-eq10 w ↦ read_within _ _ _ _ r c.loop-i-test.true _ _ p w.if-byte-eq10.false w.count-is
    ]

pub returns-in-Start : goal.returns-in-Start
returns-in-Start c = whole_lines _ _ _ c.loop-i-test.false _ c.in-Start.is c.loop-i.invariant
