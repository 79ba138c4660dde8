use Rattle.runs.proofs.instructions_counted.Goals as goal
use Rattle.runs.proofs.Close.{all_instructions_counted}

pub returns : goal.returns
returns c = all_instructions_counted
