use Rattle.std.proofs.Common.{◌≤◌, sym, ap, ◌∙◌, arith}
use Rattle.host.specs.Parts.{drop_later}
use Rattle.runs.specs.Events.{world}
use Rattle.runs.specs.Machine.{State}
use Rattle.machine.specs.States.{whole}
use Rattle.machine.proofs.Others.{kept_beyond}
use Rattle.machine.proofs.Turns.{full}
use Rattle.machine.proofs.registers.Registers.run.Goals as goal

pub returns-clause-full : goal.returns-clause-full
returns-clause-full g c open-still =
    let ends = c.advance.ensures.state in
    c.advance.ensures.count ∙ full (world g.N.Arithmetic.words g.H.Host.weight) _ _ _ _ (ap (λ (m : State). m.status) (sym ends) ∙ open-still)

pub returns-clause-others : goal.returns-clause-others
returns-clause-others g c =
    let W = world g.N.Arithmetic.words g.H.Host.weight in
    let program = c.new-program.result in
    let start = whole c.args.self.now c.args.cells.now (g.H.Host.meaning c.args.host.now) in
    let within : program.used ≤ c.args.used = omega (arith, c.min.ensures) in
    drop_later program.used c.args.used _ _ within (kept_beyond W program.code.now program.used c.args.budget start _ c.advance.ensures.state)
