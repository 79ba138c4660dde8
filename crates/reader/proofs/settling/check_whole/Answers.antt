use Rattle.std.proofs.Common.{arith, rules}
use Rattle.reader.proofs.Checked.{missing, long, none_left}
use Rattle.reader.proofs.settling.check_whole.Goals as goal

pub returns-in-Some : goal.returns-in-Some
returns-in-Some c = λ w text r short h clear e n. missing w text r c.args.table.now short h clear c.in-Some.place (search rules)

pub returns-in-None : goal.returns-in-None
returns-in-None c = λ w text r short h clear e n. long w text r c.args.table.now short h clear (search rules) e c.args.count n (omega arith)

pub returns-in-None-2 : goal.returns-in-None-2
returns-in-None-2 c = λ w text r short h clear e n. none_left w text r c.args.table.now short h clear (search rules) e c.args.count n (omega arith)
