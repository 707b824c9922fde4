-- What a line of a trace says. Assumes nothing.
--     line_of l ns    the line of the letter l and the numbers ns
--     head_in s       the letter, ports and cells that the line s opens a trace with, or why it is refused
--     event_in s      the arrival or the tick that the line s is, or why it is refused
--     IsHead s h      s is the line that is written for h; IsEvent s e likewise
use Rattle.std.specs.Prelude.{◌≡◌, ℕ, ◌+◌, ◌*◌, ◌≤◌, Bool, true, cond, ◌&&◌, ◌||◌, List, [], ◌∷◌, ◌++◌, length, Some, None, Ok, Err, Option, Result, ◌==◌, nat_le, slice_index}
use Rattle.std.specs.List.{between, flat_map}
use Rattle.std.specs.Str.{bytes_eq}
use Rattle.refusal.specs.declared.FieldPlace.{FieldPlace}
use Rattle.refusal.specs.declared.FieldPlace.TheVariants.{First, Second}
use Rattle.refusal.specs.declared.Refusal.{Refusal}
use Rattle.refusal.specs.declared.Refusal.TheVariants.{PortCount, CellCount, LineShape, Letter, Field}
use Rattle.trace.specs.declared.events.Event.{Event}
use Rattle.trace.specs.declared.events.Event.TheVariants.{Arrival, Tick}
use Rattle.trace.specs.Field.{greatest, field, blank, number_in}

-- a letter, a field for each number, octet 10
abbrev pub line_of : ℕ → List ℕ → List ℕ
line_of letter ns = letter ∷ (flat_map field ns ++ 10 ∷ [])

-- the letter T and two blank fields
abbrev pub tick_line : List ℕ
tick_line = 84 ∷ (blank ++ blank ++ 10 ∷ [])

-- the eight octets of field k, counted from 0: field 0 is columns 2 to 9, field 1 columns 10 to 17
abbrev pub field_at : ℕ → List ℕ → List ℕ
field_at k s = between (1 + 8 * k) (9 + 8 * k) s

-- 18 octets, of which the last is octet 10
abbrev pub shaped : List ℕ → Bool
shaped s = length s == 18 && slice_index s 17 == 10

-- a refusal, unless the test is passed
abbrev pub unless : {T : Type 0} → Bool → Refusal → Result T Refusal → Result T Refusal
unless passed refusal answer = cond passed answer (Err refusal)

-- what follows from the number in a field, or the refusal of that field
abbrev pub within : {T : Type 0} → Option ℕ → FieldPlace → (ℕ → Result T Refusal) → Result T Refusal
within None place answer = Err (Field place)
within (Some n) place answer = answer n

-- the numbers in the two fields of a line, or the refusal of the first that shows none
abbrev pub numbers_in : List ℕ → Result (ℕ × ℕ) Refusal
numbers_in s =
    within (number_in (field_at 0 s)) First (λ a.
    within (number_in (field_at 1 s)) Second (λ b.
    Ok (a, b)))

-- what follows from two numbers, where there are two
abbrev pub with_both : {T : Type 0} → Result (ℕ × ℕ) Refusal → (ℕ → ℕ → Result T Refusal) → Result T Refusal
with_both (Ok p) answer = answer p.0 p.1
with_both (Err refusal) answer = Err refusal

-- L, R or O
abbrev pub opens : ℕ → Bool
opens c = c == 76 || (c == 82 || c == 79)

-- n is one of low to high
abbrev pub in_range : ℕ → ℕ → ℕ → Bool
in_range low high n = nat_le low n && nat_le n high

-- shape, letter, first field, second field, ports, cells: the first that is wrong is the refusal
unfoldable pub head_in : List ℕ → Result (ℕ × ℕ × ℕ) Refusal
head_in s =
    unless (shaped s) LineShape
    (unless (opens (slice_index s 0)) Letter
    (with_both (numbers_in s) (λ ports cells.
    unless (in_range 1 256 ports) PortCount
    (unless (in_range 1 4096 cells) CellCount
    (Ok (slice_index s 0, ports, cells))))))

-- A: a port and a tag
abbrev pub arrival_in : List ℕ → Result Event Refusal
arrival_in s = with_both (numbers_in s) (λ port tag. Ok (Arrival port tag))

-- T: both fields blank
abbrev pub tick_in : List ℕ → Result Event Refusal
tick_in s =
    unless (bytes_eq (field_at 0 s) blank) (Field First)
    (unless (bytes_eq (field_at 1 s) blank) (Field Second)
    (Ok Tick))

-- shape, letter (65 is A, 84 is T), first field, second field: the first that is wrong is the refusal
unfoldable pub event_in : List ℕ → Result Event Refusal
event_in s =
    unless (shaped s) LineShape
    (cond (slice_index s 0 == 65) (arrival_in s)
    (cond (slice_index s 0 == 84) (tick_in s)
    (Err Letter)))

-- the line that opens a trace with this letter, these ports and these cells
pub record IsHead (s : List ℕ) (h : ℕ × ℕ × ℕ) : Type 0 where
  pub letter : opens h.0 ≡ true
  pub ports : (1 ≤ h.1) × (h.1 ≤ 256)
  pub cells : (1 ≤ h.2) × (h.2 ≤ 4096)
  pub octets : s ≡ line_of h.0 (h.1 ∷ h.2 ∷ [])

-- the line of an arrival for this port with this tag, and the line of a tick
abbrev pub IsEvent : List ℕ → Event → Type 0
IsEvent s (Arrival port tag) = (port ≤ greatest) × (tag ≤ greatest) × (s ≡ line_of 65 (port ∷ tag ∷ []))
IsEvent s Tick = s ≡ tick_line

-- the answer to the line s is `Ok x` just where s is the line of x
abbrev pub ReadsBack : {X : Type 0} → (List ℕ → X → Type 0) → List ℕ → Result X Refusal → Type 0
ReadsBack {X} Is s r = (x : X) → (r ≡ Ok x → Is s x) × (Is s x → r ≡ Ok x)
