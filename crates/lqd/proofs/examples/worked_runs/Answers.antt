use Rattle.lqd.proofs.HandRuns.{worked}
use Rattle.lqd.proofs.examples.worked_runs.Goals as goal

pub returns : goal.returns
returns c = worked
