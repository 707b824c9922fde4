use Rattle.std.proofs.Common.{◌≡◌, ℕ}
use Rattle.std.specs.Option.{option_map}
use Rattle.tie.specs.Candidates.{is_marked, stamp_of}
use Rattle.tie.specs.Rules.{smallest}
use Rattle.tie.specs.Picking.{ports}
use Rattle.tie.proofs.oldest_head.oldest_marked.Given as goal

abbrev pub invariant-loop-port : goal.invariant-loop-port
invariant-loop-port l = l.best ≡ option_map (λ (p : ℕ). (p, stamp_of l.candidates p)) (smallest (stamp_of l.candidates) (ports (is_marked l.candidates) l.port))
