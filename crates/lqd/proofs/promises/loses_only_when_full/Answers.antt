use Rattle.lqd.proofs.Counting.{loses_only_full}
use Rattle.lqd.proofs.promises.loses_only_when_full.Goals as goal

pub returns : goal.returns
returns g c = loses_only_full g.R.TieRule g.met.R.TieRule.lawful
