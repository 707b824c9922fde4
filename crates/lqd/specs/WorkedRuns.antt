-- Runs that were worked out by hand, from the definitions alone. Assumes nothing.
--     in_order es               a list of events, written in the order in which they come
--     Loses meaning rule n b    every run through these events loses just these cells
--     WorkedRuns                the runs, under rules with these meanings
use Rattle.std.specs.Prelude.{◌≡◌, ℕ, true, false, List, [], ◌∷◌, ◌++◌, reverse, replicate, slice_set}
use Rattle.tie.specs.declared.lowest_port.LowestPort.{LowestPort}
use Rattle.tie.specs.declared.oldest_head.OldestHead.{OldestHead}
use Rattle.tie.specs.declared.rotating.Rotating.{Rotating}
use Rattle.tie.specs.declared.sheltering.Sheltering.{Sheltering}
use Rattle.lqd.specs.Events.{Event, arrival, tick, ago}
use Rattle.lqd.specs.LongestQueueDrop.{Meaning, State, Loss, held, lost_by, sent_in_all, candidates, Run, losses}
use Rattle.lqd.specs.Schedules.{Stock, Schedule}

-- a list of events, written in the order in which they come
abbrev pub in_order : List Event → List Event
in_order es = reverse es

-- in period t a cell arrived for port k, and port v lost one
abbrev pub lost : ℕ → ℕ → ℕ → Loss
lost t k v = record { period = t; arriving = k; losing = v }

-- every run through these events, on n ports and b cells, loses just these cells
abbrev pub Loses : {R : Type 0} → Meaning R → R → ℕ → ℕ → List Event → List Loss → Type 0
Loses {R} meaning rule n b es these = (s : State R) (run : Run meaning rule n b (in_order es) s) → losses meaning run ≡ these

-- rotating, as it is at first
abbrev pub from_port0 : Rotating
from_port0 = record { start = 0 }

-- a layer that shelters port 0
abbrev pub sheltering_port0 : {R : Type 0} → R → Sheltering R
sheltering_port0 rule = record { shelters = record { sheltered = slice_set (replicate 256 false) 0 true }; rule = rule }

-- arrivals for ports 0 0 0 1, a tick, arrivals for ports 1 1 0; the last of them finds two queues of counted length 2
abbrev pub two_bursts : List Event
two_bursts = arrival 0 ∷ arrival 0 ∷ arrival 0 ∷ arrival 1 ∷ tick ∷ arrival 1 ∷ arrival 1 ∷ arrival 0 ∷ []

-- four arrivals for port 0, then four for port 1
abbrev pub four_each : List Event
four_each = arrival 0 ∷ arrival 0 ∷ arrival 0 ∷ arrival 0 ∷ arrival 1 ∷ arrival 1 ∷ arrival 1 ∷ arrival 1 ∷ []

-- the same, then a tick, an arrival for port 1, a tick, an arrival for port 1, a tick
abbrev pub four_each_and_ticks : List Event
four_each_and_ticks = four_each ++ tick ∷ arrival 1 ∷ tick ∷ arrival 1 ∷ tick ∷ []

-- what was worked out, over the meanings of lowest port, of rotating, of oldest head and of a layer of sheltering over lowest port
pub record WorkedRuns (by_lowest : Meaning LowestPort) (by_rotating : Meaning Rotating) (by_oldest : Meaning OldestHead) (by_layer : Meaning (Sheltering LowestPort)) : Type 0 where
  -- the same events under each rule: the arriving cell is lost, or port 1 loses one
  pub lowest_port : (rule : LowestPort) → Loses by_lowest rule 2 3 two_bursts (lost 0 1 0 ∷ lost 1 0 0 ∷ [])
  pub rotating : Loses by_rotating from_port0 2 3 two_bursts (lost 0 1 0 ∷ lost 1 0 1 ∷ [])
  pub oldest_head : (rule : OldestHead) → Loses by_oldest rule 2 3 two_bursts (lost 0 1 0 ∷ lost 1 0 0 ∷ [])
  pub sheltered : (rule : LowestPort) → Loses by_layer (sheltering_port0 rule) 2 3 two_bursts (lost 0 1 0 ∷ lost 1 0 1 ∷ [])
  -- rotating is told of an arriving cell that is lost too, so it goes on to port 1
  pub rotating_is_told : Loses by_rotating from_port0 3 2 (arrival 0 ∷ arrival 1 ∷ arrival 0 ∷ arrival 2 ∷ []) (lost 0 0 0 ∷ lost 0 2 1 ∷ [])
  -- port 1 loses its tail, so that its head stays the oldest, and it loses again
  pub tail_is_lost : (rule : OldestHead) → Loses by_oldest rule 2 3 (arrival 1 ∷ arrival 1 ∷ tick ∷ arrival 1 ∷ arrival 1 ∷ arrival 0 ∷ arrival 0 ∷ []) (lost 1 0 1 ∷ lost 1 0 1 ∷ [])
  -- the tick in period 1 sends the heads, so that both queues have a head of period 1, and the lower port loses
  pub head_is_sent : (rule : OldestHead) → Loses by_oldest rule 2 5 (arrival 1 ∷ arrival 1 ∷ tick ∷ arrival 1 ∷ arrival 0 ∷ arrival 0 ∷ tick ∷ arrival 0 ∷ arrival 0 ∷ arrival 1 ∷ arrival 1 ∷ []) (lost 2 1 0 ∷ [])
  -- the empty queue of the arriving cell has the present period for its stamp, as port 0 has, and the lower port loses
  pub empty_queue_is_young : (rule : OldestHead) → Loses by_oldest rule 2 1 (tick ∷ arrival 0 ∷ arrival 1 ∷ []) (lost 1 1 0 ∷ [])
  -- in period 2 a cell arrives for port 1: port 0 holds a cell of period 1; ports 0 and 1 count one cell each and are marked; port 1 is empty and has the present period for its stamp, and port 2 is empty and has 0
  pub rule_is_given : (rule : LowestPort) (s : State LowestPort) → Run by_lowest rule 3 2 (in_order (tick ∷ arrival 0 ∷ arrival 0 ∷ tick ∷ [])) s → candidates s 1 ≡ record { marked = true; stamp = 1 } ∷ record { marked = true; stamp = 2 } ∷ record { marked = false; stamp = 0 } ∷ []
  -- on 2 ports and 4 cells, the ports hold two each and have lost two each
  pub even_split : (rule : LowestPort) (s : State LowestPort) → Run by_lowest rule 2 4 (in_order four_each) s → (held s 0 ≡ 2) × (held s 1 ≡ 2) × (lost_by s 0 ≡ 2) × (lost_by s 1 ≡ 2)
  -- going on from there, the switch sends 5
  pub switch_sends : (rule : LowestPort) (s : State LowestPort) → Run by_lowest rule 2 4 (in_order four_each_and_ticks) s → sent_in_all s ≡ 5
  -- and an admissible schedule, which holds 3 for port 0 and 1 for port 1 before the first tick, sends 6
  pub schedule_sends : (o : Stock) × (schedule : Schedule 2 4 (in_order four_each_and_ticks) o) × ((ago schedule 5).held 0 ≡ 3) × ((ago schedule 5).held 1 ≡ 1) × (o.sent ≡ 6)
