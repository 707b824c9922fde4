use Rattle.lqd.proofs.Comparing.{best_first}
use Rattle.lqd.proofs.promises.best_when_arrivals_come_first.Goals as goal

pub returns : goal.returns
returns g c = best_first g.R.TieRule g.met.R.TieRule.lawful
