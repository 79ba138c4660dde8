use Rattle.std.proofs.Common.{◌≡◌, true}
use Rattle.totals.proofs.Turns.{State}
use Rattle.totals.proofs.run.Given as goal

-- all lines so far are printed whole, and what is to come goes as far as it did from the start
abbrev pub invariant-loop : goal.invariant-loop
invariant-loop g l =
    record {
      kept : g.H.Host.keeps l.initial.host l.host;
      so_far : State g.N.Arithmetic.words g.H.Host.weight l.most (g.H.Host.meaning l.initial.host) l.counter l.totals.total (g.H.Host.meaning l.host);
      lines : l.totals.lines ≡ l.counter;
      complete : l.totals.complete ≡ true;
    }
