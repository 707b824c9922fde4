use Rattle.lqd.proofs.Counting.{counts_add_up_lem}
use Rattle.lqd.proofs.promises.counts_add_up.Goals as goal

pub returns : goal.returns
returns g c = counts_add_up_lem g.R.TieRule g.met.R.TieRule.lawful
