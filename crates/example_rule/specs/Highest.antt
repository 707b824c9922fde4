-- What the example rule picks. Assumes nothing.
use Rattle.std.specs.Prelude.{ℕ, ◌-◌, List}
use Rattle.tie.specs.declared.candidate.Candidate.{Candidate}
use Rattle.tie.specs.Rules.{picked}
use Rattle.example_rule.specs.declared.HighestPort.{HighestPort}

-- how far a port lies below 255, the highest that there is
abbrev pub from_the_top : ℕ → ℕ
from_the_top p = 255 - p

-- the marked port that lies the least below 255
abbrev pub highest : HighestPort → List Candidate → ℕ
highest rule cs = picked from_the_top cs
