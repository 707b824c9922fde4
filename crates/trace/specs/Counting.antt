-- How a summary counts one line more: the step of the code that goes through a trace. Nothing in a public contract cites it. Assumes nothing.
use Rattle.std.specs.Prelude.{ℕ, ◌+◌, ◌^◌, ◌<◌, ◌≤◌, Bool, true, false, List, Ok, slice_index, slice_set}
use Rattle.trace.specs.declared.events.Event.{Event}
use Rattle.trace.specs.declared.events.Event.TheVariants.{Arrival, Tick}
use Rattle.trace.specs.declared.summary.Summary.{Summary}
use Rattle.trace.specs.Inspection.{is_arrival, is_tick}

-- one more, where the test is passed
abbrev pub raised : Bool → ℕ → ℕ
raised true n = n + 1
raised false n = n

-- one more arrival for the event's port
abbrev pub tallied : List ℕ → Event → List ℕ
tallied tally (Arrival port tag) = slice_set tally port (slice_index tally port + 1)
tallied tally Tick = tally

-- what one more line, which is this event, makes of a summary
abbrev pub counted : Summary → Event → Summary
counted s e = record {
  rule = s.rule;
  ports = s.ports;
  cells = s.cells;
  lines = s.lines + 1;
  arrivals = raised (is_arrival (Ok e)) s.arrivals;
  ticks = raised (is_tick (Ok e)) s.ticks;
  tally = tallied s.tally e;
}

-- the tally has a place for the event's port, which holds no more than all arrivals
abbrev pub Placed : Summary → Event → Type 0
Placed s (Arrival port tag) = (port < 256) × (slice_index s.tally port ≤ s.arrivals)
Placed s Tick = Unit {0}

-- no count passes the number of lines, and there is room for one more line
pub record Countable (s : Summary) (e : Event) : Type 0 where
  pub arrivals : s.arrivals < s.lines
  pub ticks : s.ticks < s.lines
  pub lines : s.lines + 1 < 2 ^ 64
  pub placed : Placed s e
