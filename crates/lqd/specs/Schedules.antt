-- What any schedule may do that has the same memory, whatever it knows of the events to come. Assumes nothing.
--     Stock                         what a schedule holds for each port, and what it has sent
--     AtFirst, AtArrival, AtTick    how a schedule begins, and what it may do at an arrival and at a tick
--     Schedule n b es o             an admissible schedule of the events es, for n ports in b cells, may have come to o
use Rattle.std.specs.Prelude.{◌≡◌, ℕ, ◌+◌, ◌<◌, ◌≤◌, List}
use Rattle.lqd.specs.Ports.{in_all, one}
use Rattle.lqd.specs.Events.{Event, arrival, tick, After}

-- what a schedule holds for each port, and how many cells it has sent
pub record Stock : Type 0 where
  pub held : ℕ → ℕ
  pub sent : ℕ

-- at first nothing is held, and nothing was sent
pub record AtFirst (n : ℕ) (o : Stock) : Type 0 where
  pub held : (p : ℕ) → p < n → o.held p ≡ 0
  pub sent : o.sent ≡ 0

-- at an arrival for port k: one may be added for k, cells of any port may be thrown away, and then at most b are held
pub record AtArrival (n b k : ℕ) (o o' : Stock) : Type 0 where
  pub held : (p : ℕ) → p < n → o'.held p ≤ o.held p + one k p
  pub room : in_all n o'.held ≤ b
  pub sent : o'.sent ≡ o.sent

-- at a tick: each port sends one of its cells or none, and more may be thrown away
pub record AtTick (n : ℕ) (o o' : Stock) : Type 0 where
  pub sends : ℕ → ℕ
  pub once : (p : ℕ) → p < n → sends p ≤ 1
  pub held : (p : ℕ) → p < n → o'.held p + sends p ≤ o.held p
  pub sent : o'.sent ≡ o.sent + in_all n sends

-- what a schedule may do at an event
abbrev pub Move : ℕ → ℕ → Stock → Event → Stock → Type 0
Move n b o (arrival k) o' = AtArrival n b k o o'
Move n b o tick o' = AtTick n o o'

-- the admissible schedules of a list of events, for n ports in b cells: each choice is free, so some of them know what is to come
abbrev pub Schedule : ℕ → ℕ → List Event → Stock → Type 0
Schedule n b es o = After (AtFirst n) (Move n b) es o
