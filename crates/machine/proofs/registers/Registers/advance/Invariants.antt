use Rattle.std.proofs.Common.{◌≡◌, ◌+◌, ◌-◌}
use Rattle.runs.specs.Events.{world}
use Rattle.runs.specs.Machine.{run, count}
use Rattle.machine.specs.States.{whole}
use Rattle.machine.proofs.registers.Registers.advance.Given as goal

-- what is left of the budget leads to where the whole budget leads from the start
abbrev pub invariant-loop-done : goal.invariant-loop-done
invariant-loop-done g l =
    let W = world g.N.Arithmetic.words g.H.Host.weight in
    let start = whole l.initial.self l.initial.cells (g.H.Host.meaning l.initial.host) in
    let here = whole l.self l.cells (g.H.Host.meaning l.host) in
    record {
      kept : g.H.Host.keeps l.initial.host l.host;
      ends : run W l.program.code.now l.program.used (l.budget - l.done) here ≡ run W l.program.code.now l.program.used l.budget start;
      counts : l.done + count W l.program.code.now l.program.used (l.budget - l.done) here ≡ count W l.program.code.now l.program.used l.budget start;
    }
