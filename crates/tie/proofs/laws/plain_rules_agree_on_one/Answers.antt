use Rattle.tie.specs.Rules.{lowest, nearest, oldest}
use Rattle.tie.specs.Picking.{lowest_lawful, nearest_lawful, oldest_lawful, lawful_only}
use Rattle.tie.proofs.laws.plain_rules_agree_on_one.Goals as goal

pub returns : goal.returns
returns c = record {
  lowest_port = lawful_only lowest lowest_lawful;
  rotating = lawful_only nearest nearest_lawful;
  oldest_head = lawful_only oldest oldest_lawful;
}
