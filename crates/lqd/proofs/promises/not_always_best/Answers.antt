use Rattle.lqd.proofs.HandRuns.{not_always_best_lem}
use Rattle.lqd.proofs.promises.not_always_best.Goals as goal

pub returns : goal.returns
returns g c = not_always_best_lem g.R.TieRule g.met.R.TieRule.lawful c.args._rule.now
