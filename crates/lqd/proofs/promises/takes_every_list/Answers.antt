use Rattle.lqd.proofs.Placing.{takes_every_list_lem}
use Rattle.lqd.proofs.promises.takes_every_list.Goals as goal

pub returns : goal.returns
returns g c = takes_every_list_lem g.R.TieRule g.met.R.TieRule.lawful
