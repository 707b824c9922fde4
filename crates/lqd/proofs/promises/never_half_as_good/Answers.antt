use Rattle.lqd.proofs.Comparing.{never_half}
use Rattle.lqd.proofs.promises.never_half_as_good.Goals as goal

pub returns : goal.returns
returns g c = never_half g.R.TieRule g.met.R.TieRule.lawful
