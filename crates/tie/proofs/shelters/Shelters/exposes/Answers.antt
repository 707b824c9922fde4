use Rattle.std.proofs.Common.{rules, tests, ◌∙◌, arith}
use Rattle.std.proofs.lemmas.Iterator.{YieldsList-from_slice, YieldsList-from_zip}
use Rattle.std.proofs.lemmas.Iterator.Consumers.{YieldsList-at}
use Rattle.std.proofs.lemmas.Iterator.Search.{any_from_yields_List}
use Rattle.tie.proofs.HandingDown.{open_to, exposes_zip}
use Rattle.tie.proofs.shelters.Shelters.exposes.Goals as goal

pub returns : goal.returns
returns c =
    let cs = c.args.candidates.now in
    let table = c.args.self.now.sheltered in
    let pairs = YieldsList-from_zip (YieldsList-at c.zip-ports.ensures.first (YieldsList-from_slice cs c.iter.ensures.rest)) (YieldsList-from_slice table c.zip-ports.ensures.second.0) in
    let found = any_from_yields_List open_to c.any.new.self _ c.any.result c.any.ensures.ran pairs (λ x b q k. search (rules, tests)) in
    found ∙ exposes_zip table cs (omega arith)
