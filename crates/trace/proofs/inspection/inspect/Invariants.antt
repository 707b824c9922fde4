use Rattle.std.proofs.Common.{◌≡◌}
use Rattle.trace.proofs.Inspecting.{Sofar}
use Rattle.trace.proofs.inspection.inspect.Given as goal

abbrev pub invariant-loop-line : goal.invariant-loop-line
invariant-loop-line l = record {
  sofar : Sofar l.text l.summary l.line-iterator.rest.now;
  ports : l.ports ≡ l.summary.ports;
}
