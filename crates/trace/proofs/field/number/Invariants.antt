use Rattle.std.proofs.Common.{take}
use Rattle.trace.proofs.Reading.{Front}
use Rattle.trace.proofs.field.number.Given as goal

abbrev pub invariant-loop-octet : goal.invariant-loop-octet
invariant-loop-octet l = Front (take l.octet-index l.octets) l.value
