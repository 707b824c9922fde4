use Rattle.lqd.proofs.Comparing.{never_half_with_held, held_once}
use Rattle.lqd.proofs.promises.never_half_as_good_with_held.Goals as goal

pub returns : goal.returns
returns g c =
    let law = g.met.R.TieRule.lawful in
    record { twice = never_half_with_held g.R.TieRule law; once = held_once g.R.TieRule law }
