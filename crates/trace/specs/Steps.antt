-- Steps of the code that reads a line. Nothing in a public contract cites them. Assumes nothing.
use Rattle.std.specs.Prelude.{◌≡◌, ℕ, true, false, List, Ok, Err, Result}
use denote.Ref.{Bor}
use Rattle.refusal.specs.declared.FieldPlace.{FieldPlace}
use Rattle.refusal.specs.declared.FieldPlace.TheVariants.{First, Second}
use Rattle.refusal.specs.declared.Refusal.{Refusal}
use Rattle.refusal.specs.declared.Refusal.TheVariants.{LineShape, Field}
use Rattle.trace.specs.declared.rule.Rule.{Rule}
use Rattle.std.specs.Str.{bytes_eq}
use Rattle.trace.specs.Field.{blank}
use Rattle.trace.specs.Line.{field_at, shaped, head_in}
use Rattle.trace.specs.Rule.{letter_of}

-- the octets of a field of a line, by its place
abbrev pub field_of : FieldPlace → List ℕ → List ℕ
field_of First s = field_at 0 s
field_of Second s = field_at 1 s

-- the answer to the line s is the line itself where it has its shape, and the refusal of the shape otherwise
abbrev pub Shaped : List ℕ → Result (Bor (List ℕ)) Refusal → Type 0
Shaped s (Ok octets) = (shaped s ≡ true) × (octets.now ≡ s)
Shaped s (Err refusal) = (shaped s ≡ false) × (refusal ≡ LineShape)

-- the answer is Ok where the field at this place of the line s is blank, and the refusal of that field otherwise
abbrev pub Blank : FieldPlace → List ℕ → Result (Unit {0}) Refusal → Type 0
Blank place s (Ok u) = bytes_eq (field_of place s) blank ≡ true
Blank place s (Err refusal) = (bytes_eq (field_of place s) blank ≡ false) × (refusal ≡ Field place)

-- the answer to a head is that of its definition, with the rule in place of its letter
abbrev pub Opened : List ℕ → Result (Rule × ℕ × ℕ) Refusal → Type 0
Opened s (Ok h) = head_in s ≡ Ok (letter_of h.0, h.1, h.2)
Opened s (Err refusal) = head_in s ≡ Err refusal
