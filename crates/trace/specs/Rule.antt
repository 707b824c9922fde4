-- The letters of the tie rules that a trace can ask for. Assumes nothing.
use Rattle.std.specs.Prelude.{ℕ}
use Rattle.trace.specs.declared.rule.Rule.{Rule}
use Rattle.trace.specs.declared.rule.Rule.TheVariants.{LowestPort, Rotating, OldestHead}

-- L, R and O
abbrev pub letter_of : Rule → ℕ
letter_of LowestPort = 76
letter_of Rotating = 82
letter_of OldestHead = 79
