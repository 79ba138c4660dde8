use Rattle.grammar.proofs.Faults as th
use Rattle.grammar.proofs.one_fault_holds.Goals as goal

pub returns : goal.returns
returns c = record { none_program = th.none_program; program_none = th.program_none; some_fault = th.some_fault; fault_some = th.fault_some }
