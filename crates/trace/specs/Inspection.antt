-- What is in a trace, and which of its lines is refused first. Assumes nothing.
--     event_for n s       the event that the line s is, in a trace for n ports
--     refusal_at ls i     why line i of the lines ls is refused, if it is; i counts from 0
--     how_many kind ls    how many of the lines ls are events of this kind
--     Whole ls s          none of the lines is refused, and s is what is in them
--     Damaged ls d        d is the first line that is refused, and why
use Rattle.std.specs.Prelude.{◌≡◌, ℕ, zero, suc, ◌+◌, ◌-◌, ◌<◌, ◌≤◌, max, Bool, true, false, List, [], length, drop, Some, None, Ok, Err, sum, count_by, Option, Result, ◌==◌, nat_lt, slice_index, slice_index_or}
use Rattle.std.specs.Result.{result_err}
use Rattle.refusal.specs.declared.Refusal.{Refusal}
use Rattle.refusal.specs.declared.Refusal.TheVariants.{NoSuchPort}
use Rattle.trace.specs.declared.events.Event.{Event}
use Rattle.trace.specs.declared.events.Event.TheVariants.{Arrival, Tick}
use Rattle.trace.specs.declared.damage.Damage.{Damage}
use Rattle.trace.specs.declared.summary.Summary.{Summary}
use Rattle.trace.specs.Line.{unless, head_in, event_in}
use Rattle.trace.specs.Rule.{letter_of}

-- an arrival is for one of the ports 0 to n - 1
abbrev pub for_ports : ℕ → Result Event Refusal → Result Event Refusal
for_ports n (Ok (Arrival port tag)) = unless (nat_lt port n) NoSuchPort (Ok (Arrival port tag))
for_ports n (Ok Tick) = Ok Tick
for_ports n (Err refusal) = Err refusal

-- the event that a line is, for one of n ports
abbrev pub event_for : ℕ → List ℕ → Result Event Refusal
event_for n s = for_ports n (event_in s)

-- the ports that a head opens; none where there is no head
abbrev pub ports_of : Result (ℕ × ℕ × ℕ) Refusal → ℕ
ports_of (Ok h) = h.1
ports_of (Err refusal) = 0

-- the first line is to be a head, and each other line an event; a text with no line lacks its head
abbrev pub refusal_at : List (List ℕ) → ℕ → Option Refusal
refusal_at ls zero = result_err (head_in (slice_index_or ls 0 []))
refusal_at ls (suc i) = result_err (event_for (ports_of (head_in (slice_index_or ls 0 []))) (slice_index_or ls (suc i) []))

-- kinds of lines, by what a line is read as: an arrival, an arrival for port p, a tick
abbrev pub is_arrival : Result Event Refusal → Bool
is_arrival (Ok (Arrival port tag)) = true
is_arrival (Ok Tick) = false
is_arrival (Err refusal) = false

abbrev pub is_arrival_for : ℕ → Result Event Refusal → Bool
is_arrival_for p (Ok (Arrival port tag)) = port == p
is_arrival_for p (Ok Tick) = false
is_arrival_for p (Err refusal) = false

abbrev pub is_tick : Result Event Refusal → Bool
is_tick (Ok (Arrival port tag)) = false
is_tick (Ok Tick) = true
is_tick (Err refusal) = false

-- how many of the lines are of a kind
abbrev pub how_many : (Result Event Refusal → Bool) → List (List ℕ) → ℕ
how_many kind ls = count_by (λ s. kind (event_in s)) ls

-- the head is read, no line is refused, and the counts are those of the lines after the head, which are drop 1 ls
pub record Whole (ls : List (List ℕ)) (s : Summary) : Type 0 where
  pub head : head_in (slice_index_or ls 0 []) ≡ Ok (letter_of s.rule, s.ports, s.cells)
  pub taken : (i : ℕ) → i < length ls → refusal_at ls i ≡ None
  pub lines : s.lines ≡ length ls
  pub arrivals : s.arrivals ≡ how_many is_arrival (drop 1 ls)
  pub ticks : s.ticks ≡ how_many is_tick (drop 1 ls)
  pub tally : (p : ℕ) → p < 256 → slice_index s.tally p ≡ how_many (is_arrival_for p) (drop 1 ls)

-- the line that is named is refused for this reason, and no line before it is; lines are named from 1, and a text with no line is refused at line 1
pub record Damaged (ls : List (List ℕ)) (d : Damage) : Type 0 where
  pub within : (0 < d.line) × (d.line ≤ max 1 (length ls))
  pub here : refusal_at ls (d.line - 1) ≡ Some d.refusal
  pub before : (i : ℕ) → i + 1 < d.line → refusal_at ls i ≡ None

-- the answer to a trace of these lines
abbrev pub Inspected : List (List ℕ) → Result Summary Damage → Type 0
Inspected ls (Ok s) = Whole ls s
Inspected ls (Err d) = Damaged ls d

-- every line of a whole trace is its head, an arrival or a tick, and every arrival is for one port
pub record AddsUp (s : Summary) : Type 0 where
  pub lines : s.lines ≡ 1 + s.arrivals + s.ticks
  pub ports : s.arrivals ≡ sum s.tally
