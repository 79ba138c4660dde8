use Rattle.assembly.proofs.Acting.{acts}
use Rattle.assembly.proofs.plans_follow_drafts.Goals as goal

pub returns : goal.returns
returns c = acts
