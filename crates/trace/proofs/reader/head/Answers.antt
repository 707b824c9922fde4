use Rattle.std.proofs.Common.{rules}
use Rattle.trace.proofs.Verdicts.{heads_back}
use Rattle.trace.proofs.reader.head.Goals as goal

pub returns-clause-law : goal.returns-clause-law
returns-clause-law c = heads_back _ _ (search rules)
