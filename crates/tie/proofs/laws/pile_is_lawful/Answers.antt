use Rattle.tie.specs.Sheltered.{layered}
use Rattle.tie.specs.Layers.{layered_lawful}
use Rattle.tie.proofs.laws.pile_is_lawful.Goals as goal

pub returns : goal.returns
returns g c =
    let picks = g.R.TieRule.picks in
    layered_lawful (layered picks) (layered_lawful picks g.met.R.TieRule.lawful)
