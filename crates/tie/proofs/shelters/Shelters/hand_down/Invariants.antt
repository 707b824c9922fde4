use Rattle.std.proofs.Common.{length}
use Rattle.tie.proofs.HandingDown.{Down}
use Rattle.tie.proofs.shelters.Shelters.hand_down.Given as goal

abbrev pub invariant-loop-port : goal.invariant-loop-port
invariant-loop-port l = Down l.self.sheltered l.candidates l.exposes (length l.yielded) l.below
