-- What comes to a switch, and what may have become of it when a list of events has come. Assumes nothing. A list of events has the newest first.
--     Event                    a cell arrives for a port, or a tick comes
--     After Start Step es s    s is reached from a start, by a step for each of the events es
--     ago run i                the state in which a run was i events ago
--     arrivals_for p es        how many of the events are arrivals for port p
--     ticks_in es              how many of the events are ticks
--     ForPorts n e             an arrival is for one of n ports
--     ArrivalsFirst es         no arrival comes after a tick
use Rattle.std.specs.Prelude.{ℕ, zero, suc, ◌<◌, Bool, true, false, List, [], ◌∷◌, count_by, ◌==◌}
use Rattle.std.specs.List.{AllByRecursion}

-- a cell arrives for a port, or a tick comes
pub data Event : Type 0 where
  arrival : ℕ → Event
  tick : Event

-- the runs from a start, with a step for each event: s is reached after the events es
pub data After {S : Type 0} (Start : S → Type 0) (Step : S → Event → S → Type 0) : List Event → S → Type 0 where
  begins : {s : S} → Start s → After Start Step [] s
  goes : {es : List Event} {e : Event} {s t : S} → After Start Step es s → Step s e t → After Start Step (e ∷ es) t

-- the state in which a run was i events ago: for 0 the one that it has reached, and the start where fewer events have come
abbrev pub ago : {S : Type 0} {Start : S → Type 0} {Step : S → Event → S → Type 0} {es : List Event} {s : S} → After Start Step es s → ℕ → S
ago {s} run zero = s
ago (begins {s} start) (suc i) = s
ago (goes run step) (suc i) = ago run i

-- the event is an arrival for port p
abbrev pub is_for : ℕ → Event → Bool
is_for p (arrival k) = p == k
is_for p tick = false

-- how many of the events are arrivals for port p
abbrev pub arrivals_for : ℕ → List Event → ℕ
arrivals_for p es = count_by (is_for p) es

-- the event is a tick
abbrev pub is_tick : Event → Bool
is_tick (arrival k) = false
is_tick tick = true

-- how many of the events are ticks
abbrev pub ticks_in : List Event → ℕ
ticks_in es = count_by is_tick es

-- the event is an arrival
abbrev pub IsArrival : Event → Type 0
IsArrival (arrival k) = Unit {0}
IsArrival tick = ⊥

-- the event is a tick, or an arrival for one of n ports
abbrev pub ForPorts : ℕ → Event → Type 0
ForPorts n (arrival k) = k < n
ForPorts n tick = Unit {0}

-- no arrival comes after a tick: before the newest arrival there were only arrivals
abbrev pub ArrivalsFirst : List Event → Type 0
ArrivalsFirst [] = Unit {0}
ArrivalsFirst (arrival k ∷ es) = AllByRecursion IsArrival es
ArrivalsFirst (tick ∷ es) = ArrivalsFirst es
