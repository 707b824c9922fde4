use Rattle.lqd.proofs.Placing.{places_stay_apart_lem}
use Rattle.lqd.proofs.promises.places_stay_apart.Goals as goal

pub returns : goal.returns
returns g c = places_stay_apart_lem g.R.TieRule g.met.R.TieRule.lawful
