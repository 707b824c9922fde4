use Rattle.lqd.proofs.Forgetting.{only_places}
use Rattle.lqd.proofs.promises.only_places_are_free.Goals as goal

pub returns : goal.returns
returns g c = only_places g.R.TieRule
