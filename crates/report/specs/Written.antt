-- What a call that writes text answers, and what its text space holds then. Assumes nothing.
--     answer_of ns least n s              the answer: n octets are written, if the numbers ns fit their fields and the space s has at least `least` octets
--     after r out s                       what the space s holds after the answer r: the octets out and then the rest of s, or s as it was
--     NumberBack, FieldsBack, HeadBack    the octets s that were written are read back as what was to be written
use Rattle.std.specs.Prelude.{◌≡◌, ℕ, ◌<◌, Bool, true, ◌&&◌, List, [], ◌∷◌, ◌++◌, length, take, drop, Some, Ok, Err, Result, nat_le, slice_index}
use Rattle.refusal.specs.declared.Refusal.{Refusal}
use Rattle.refusal.specs.declared.Refusal.TheVariants.{ShortText, NumberTooLarge}
use Rattle.trace.specs.Field.{greatest, number_in}
use Rattle.trace.specs.Line.{unless, field_at, opens, in_range, head_in}

-- each number can be shown in a field
abbrev pub all_fit : List ℕ → Bool
all_fit [] = true
all_fit (n ∷ ns) = nat_le n greatest && all_fit ns

-- the number of octets written; too large a number is refused before too short a space
abbrev pub answer_of : List ℕ → ℕ → ℕ → List ℕ → Result ℕ Refusal
answer_of ns least n s = unless (all_fit ns) NumberTooLarge (unless (nat_le least (length s)) ShortText (Ok n))

-- the octets out in front of the rest of the space, or the space as it was found
abbrev pub after : Result ℕ Refusal → List ℕ → List ℕ → List ℕ
after (Ok n) out s = out ++ drop n s
after (Err refusal) out s = s

-- the field that s begins with is read as n
abbrev pub NumberBack : ℕ → List ℕ → Type 0
NumberBack n s = number_in (take 8 s) ≡ Some n

-- each field of the line that s begins with is read as its number
abbrev pub FieldsBack : List ℕ → List ℕ → Type 0
FieldsBack ns s = (k : ℕ) → k < length ns → number_in (field_at k s) ≡ Some (slice_index ns k)

-- the head that s begins with is read as this head, if it is one that may open a trace
abbrev pub HeadBack : ℕ → ℕ → ℕ → List ℕ → Type 0
HeadBack letter ports cells s = opens letter ≡ true → in_range 1 256 ports ≡ true → in_range 1 4096 cells ≡ true → head_in (take 18 s) ≡ Ok (letter, ports, cells)
