use Rattle.lqd.proofs.Counting.{itself_admissible}
use Rattle.lqd.proofs.promises.is_itself_admissible.Goals as goal

pub returns : goal.returns
returns g c = itself_admissible g.R.TieRule g.met.R.TieRule.lawful
