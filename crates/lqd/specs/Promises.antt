-- What is promised of every switch with Longest Queue Drop, whatever its tie rule: over the meaning of the rule, with its states R. Assumes nothing. A switch has n ports, at most 256, and b cells.
--     Always P                     P holds at every point of every list of events, of every switch and every admissible schedule
--     NeverHalfAsGood              no schedule has sent more than twice what the switch has sent
--     NeverHalfAsGoodWithHeld      nor is its sent plus held more than twice that of the switch
--     HeldCountsOnce               nor more than twice what the switch has sent, and what it holds
--     BestWhenArrivalsComeFirst    before an arrival comes after a tick, no schedule has sent more than the switch
--     NotAlwaysBest                after that, some schedule of some events has
--     InEveryRun P                 P holds of every run
--     LosesOnlyWhenFull            cells are lost only where all are held, and only by a queue that has its share and is one of the longest
--     IsItselfAdmissible           what the switch does with its counts is an admissible schedule
--     CountsAddUp                  what was offered for a port was sent, was lost or is held; the period counts the ticks
--     TakesEveryList               every list of events for its ports is taken
--     PlacesStayApart              every held cell has a place of its own
--     OnlyPlacesAreFree            the events decide all but the places
use Rattle.std.specs.Prelude.{◌≡◌, ℕ, ◌+◌, ◌*◌, ◌/◌, ◌<◌, ◌≤◌, List, map, take, drop}
use Rattle.std.specs.List.{AllByRecursion}
use Rattle.lqd.specs.Ports.{in_all}
use Rattle.lqd.specs.Events.{Event, ago, arrivals_for, ticks_in, IsArrival, ForPorts, ArrivalsFirst}
use Rattle.lqd.specs.LongestQueueDrop.{Meaning, Held, State, Loss, queue, held, offered_by, sent_by, lost_by, held_in_all, sent_in_all, cells_at, losses_of, Step, Run, losses}
use Rattle.lqd.specs.Schedules.{Stock, Schedule}

-- every held cell has a place of its own, below b
pub record Apart (b : ℕ) (queues : List (List Held)) : Type 0 where
  pub own : (x : ℕ) → cells_at queues x ≤ 1
  pub below : (x : ℕ) → b ≤ x → cells_at queues x ≡ 0

module _ {R : Type 0} where
  -- what a loss of port v shows of the event e that made t of s: it was an arrival; it found the b cells held; v still holds at least b div n cells; no queue is more than one cell longer than that of v; and what v holds is the front of what it held
  pub record FairLoss (n b v : ℕ) (s : State R) (e : Event) (t : State R) : Type 0 where
    pub arrives : IsArrival e
    pub full : held_in_all s ≡ b
    pub share : b / n ≤ held t v
    pub longest : (p : ℕ) → p < n → held t p ≤ held t v + 1
    pub front : queue t v ≡ take (held t v) (queue s v)

  -- the counts of port p after the events es, in which these cells were lost: offered is the number of its arrivals, lost that of its losses, and each cell that was offered was sent, was lost or is held
  pub record Balanced (es : List Event) (s : State R) (these : List Loss) (p : ℕ) : Type 0 where
    pub arrivals : offered_by s p ≡ arrivals_for p es
    pub losses : lost_by s p ≡ losses_of p these
    pub balance : offered_by s p ≡ sent_by s p + lost_by s p + held s p

  -- a switch as a schedule: what it holds for each port, and what it has sent
  abbrev pub as_stock : State R → Stock
  as_stock s = record { held = held s; sent = sent_in_all s }

  -- a switch with the place of every held cell forgotten: all are 0
  abbrev pub without_places : State R → State R
  without_places s = record {
    rule = s.rule;
    ports = s.ports;
    cells = s.cells;
    period = s.period;
    queues = map (map (λ cell. record { place = 0; period = cell.period })) s.queues;
    offered = s.offered;
    sent = s.sent;
    lost = s.lost;
  }

module _ {R : Type 0} (meaning : Meaning R) where
  -- at every point of every list of events, P holds of the events so far, of every switch that took them and of every admissible schedule of them in the same memory
  abbrev pub Always : (List Event → State R → Stock → Type 0) → Type 0
  Always P = (rule : R) (n b : ℕ) → n ≤ 256 → (es : List Event) (s : State R) (o : Stock) (run : Run meaning rule n b es s) (schedule : Schedule n b es o) (i : ℕ) → P (drop i es) (ago run i) (ago schedule i)

  -- the schedule has sent at most twice what the switch has sent
  abbrev pub NeverHalfAsGood : Type 0
  NeverHalfAsGood = Always (λ es s o. o.sent ≤ 2 * sent_in_all s)

  -- what the schedule has sent and holds is at most twice what the switch has sent and holds
  abbrev pub NeverHalfAsGoodWithHeld : Type 0
  NeverHalfAsGoodWithHeld = Always (λ es s o. o.sent + in_all s.ports o.held ≤ 2 * (sent_in_all s + held_in_all s))

  -- the held cells of the switch need be counted only once
  abbrev pub HeldCountsOnce : Type 0
  HeldCountsOnce = Always (λ es s o. o.sent + in_all s.ports o.held ≤ 2 * sent_in_all s + held_in_all s)

  -- as long as no arrival has come after a tick, the schedule has sent at most what the switch has sent
  abbrev pub BestWhenArrivalsComeFirst : Type 0
  BestWhenArrivalsComeFirst = Always (λ es s o. ArrivalsFirst es → o.sent ≤ sent_in_all s)

  -- it is not so that a schedule never sends more than the switch
  abbrev pub NotAlwaysBest : Type 0
  NotAlwaysBest = Always (λ es s o. o.sent ≤ sent_in_all s) → ⊥

  -- P holds of every run: of the ports, the cells, the events, the switch that took them, and the cells that were lost
  abbrev pub InEveryRun : (ℕ → ℕ → List Event → State R → List Loss → Type 0) → Type 0
  InEveryRun P = (rule : R) (n b : ℕ) → n ≤ 256 → (es : List Event) (s : State R) (run : Run meaning rule n b es s) → P n b es s (losses meaning run)

  -- whatever event comes next, a port that loses a cell in it loses it so
  abbrev pub LosesOnlyWhenFull : Type 0
  LosesOnlyWhenFull = InEveryRun (λ n b es s these. (e : Event) (t : State R) → Step meaning s e t → (v : ℕ) → lost_by s v < lost_by t v → FairLoss n b v s e t)

  -- the period is the number of ticks, and the counts of every port add up
  abbrev pub CountsAddUp : Type 0
  CountsAddUp = InEveryRun (λ n b es s these. (s.period ≡ ticks_in es) × ((p : ℕ) → p < n → Balanced es s these p))

  -- in the same memory and in any larger one, some admissible schedule has at every point what the switch has
  abbrev pub IsItselfAdmissible : Type 0
  IsItselfAdmissible = (rule : R) (n b : ℕ) → n ≤ 256 → (es : List Event) (s : State R) (run : Run meaning rule n b es s) (c : ℕ) → b ≤ c → (schedule : Schedule n c es (as_stock s)) × ((i : ℕ) → ago schedule i ≡ as_stock (ago run i))

  -- there is a run for every list of events whose arrivals are for the n ports: no event finds the switch without a place for its cell
  abbrev pub TakesEveryList : Type 0
  TakesEveryList = (rule : R) (n b : ℕ) → n ≤ 256 → (es : List Event) → AllByRecursion (ForPorts n) es → (s : State R) × Run meaning rule n b es s

  -- no two held cells have one place
  abbrev pub PlacesStayApart : Type 0
  PlacesStayApart = InEveryRun (λ n b es s these. Apart b s.queues)

  -- two runs through the same events, from the same opening, come to the same switch but for the places, and have lost the same cells
  abbrev pub OnlyPlacesAreFree : Type 0
  OnlyPlacesAreFree = (rule : R) (n b : ℕ) (es : List Event) (s t : State R) (run : Run meaning rule n b es s) (other : Run meaning rule n b es t) → (without_places s ≡ without_places t) × (losses meaning run ≡ losses meaning other)
