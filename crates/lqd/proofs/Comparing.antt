-- A switch beside an admissible schedule of the same events: the levels of Twice and of First hold of every two runs. Assumes nothing but the law of picks.
use Rattle.std.proofs.Common.{◌≡◌, ℕ, zero, suc, ◌+◌, ◌-◌, ◌*◌, ◌<◌, ◌≤◌, min, ◌⊎◌, List, drop, ap, ◌∙◌, inl, inr, arith}
use Rattle.std.specs.List.{AllByRecursion}
use Rattle.tie.specs.Rules.{Lawful}
use Rattle.lqd.specs.Ports.{in_all}
use Rattle.lqd.specs.Events.{Event, arrival, tick, After, begins, goes, ago, IsArrival, ArrivalsFirst}
use Rattle.lqd.specs.LongestQueueDrop.{Meaning, State, held, held_in_all, sent_in_all, Step, Run}
use Rattle.lqd.specs.Schedules.{Stock, AtFirst, AtArrival, Move, Schedule}
use Rattle.lqd.specs.Promises.{NeverHalfAsGood, NeverHalfAsGoodWithHeld, HeldCountsOnce, BestWhenArrivalsComeFirst}
use Rattle.lqd.proofs.Sums.{sums_same, sums_zero}
use Rattle.lqd.proofs.Twice.{Twice, twice_tick, twice_room, twice_full, twice_end, HeldOnce, once_tick, once_room, once_full}
use Rattle.lqd.proofs.First.{Ahead, ahead_tick, ahead_end, ahead_matched, Matched, matched_room, matched_full}
use Rattle.lqd.proofs.Steps.{Sound, Kept, Lost, Arrived, Ticked, step_facts, run_sound, held_all, arrived_sent, ticked_sent}

-- what holds of the ends of all runs holds at every point
points : {S U : Type 0} {Start : S → Type 0} {Step : S → Event → S → Type 0} {Start' : U → Type 0} {Step' : U → Event → U → Type 0} (P : List Event → S → U → Type 0) → ((es : List Event) (s : S) (u : U) → After Start Step es s → After Start' Step' es u → P es s u) → {es : List Event} {s : S} {u : U} (a : After Start Step es s) (b : After Start' Step' es u) (i : ℕ) → P (drop i es) (ago a i) (ago b i)
points P h a b zero = h _ _ _ a b
points P h (begins x) (begins y) (suc i) = h _ _ _ (begins x) (begins y)
points P h (goes a x) (goes b y) (suc i) = points P h a b i

module _ {R : Type 0} (meaning : Meaning R) (law : Lawful meaning.picks) (n b : ℕ) (few : n ≤ 256) where
  -- the level of a switch and a schedule
  abbrev TwiceAt : State R → Stock → Type 0
  TwiceAt s o = (i : ℕ) → Twice n (held s) (sent_in_all s) o.held o.sent i

  twice_start : (s : State R) (o : Stock) → AtFirst n o → TwiceAt s o
  twice_start s o first i = omega (arith, first.sent, sums_zero n, sums_same n (λ p. min (o.held p) i - held s p) (λ p. 0) (λ p l. omega (arith, first.held p l)))

  twice_arrived : (k : ℕ) (s t : State R) (o o' : Stock) → k < n → Kept n b k s t ⊎ Lost n b k s t → AtArrival n b k o o' → ((i : ℕ) → Twice n (held s) (sent_in_all s) o.held o.sent i) → (i : ℕ) → Twice n (held t) (sent_in_all s) o'.held o.sent i
  twice_arrived k s t o o' port (inl kept) move before i = twice_room n k (held s) (held t) o.held o'.held (sent_in_all s) o.sent i kept.takes.longer move.held (before i)
  twice_arrived k s t o o' port (inr lost) move before i = twice_full n b k (held s) (held t) o.held o'.held (sent_in_all s) o.sent port lost.drops move.held move.room before i

  twice_step : (e : Event) (s t : State R) (o o' : Stock) → Sound n b s → Step meaning s e t → Move n b o e o' → TwiceAt s o → TwiceAt t o'
  twice_step (arrival k) s t o o' sound step move before i =
      let facts : Arrived n b k s t = step_facts meaning law n b few (arrival k) s t sound step in
      omega (arith, move.sent, arrived_sent n b s t sound k facts, twice_arrived k s t o o' facts.port facts.way move before i)
  twice_step tick s t o o' sound step move before i =
      let facts : Ticked n b s t = step_facts meaning law n b few tick s t sound step in
      omega (arith, move.sent, ticked_sent n b s t sound facts, twice_tick n (held s) (held t) o.held o'.held move.sends (sent_in_all s) o.sent i facts.shorter move.once move.held (before (i + 1)))

  twice_run : {rule : R} {es : List Event} {s : State R} {o : Stock} → Run meaning rule n b es s → Schedule n b es o → TwiceAt s o
  twice_run {s} {o} (begins start) (begins first) = twice_start s o first
  twice_run (goes {e = e} {s = s} {t = t} run step) (goes {s = o} {t = o'} schedule move) =
      twice_step e s t o o' (run_sound meaning law n b few run) step move (twice_run run schedule)

  twice_sent : {rule : R} {es : List Event} {s : State R} {o : Stock} → Run meaning rule n b es s → Schedule n b es o → o.sent ≤ 2 * sent_in_all s
  twice_sent {s} {o} run schedule = twice_end n (held s) o.held (sent_in_all s) o.sent (twice_run run schedule 0)

  abbrev OnceAt : State R → Stock → Type 0
  OnceAt s o = HeldOnce n (held s) (sent_in_all s) o.held o.sent

  once_arrived : (k : ℕ) (s t : State R) (o o' : Stock) → k < n → Kept n b k s t ⊎ Lost n b k s t → AtArrival n b k o o' → o.sent ≤ 2 * sent_in_all s → OnceAt s o → HeldOnce n (held t) (sent_in_all s) o'.held o.sent
  once_arrived k s t o o' port (inl kept) move twice before = once_room n k (held s) (held t) o.held o'.held (sent_in_all s) o.sent kept.takes.longer move.held before
  once_arrived k s t o o' port (inr lost) move twice before = once_full n b k (held s) (held t) o'.held (sent_in_all s) o.sent port lost.drops move.room twice

  once_step : (e : Event) (s t : State R) (o o' : Stock) → Sound n b s → Step meaning s e t → Move n b o e o' → o.sent ≤ 2 * sent_in_all s → OnceAt s o → OnceAt t o'
  once_step (arrival k) s t o o' sound step move twice before =
      let facts : Arrived n b k s t = step_facts meaning law n b few (arrival k) s t sound step in
      omega (arith, move.sent, arrived_sent n b s t sound k facts, once_arrived k s t o o' facts.port facts.way move twice before)
  once_step tick s t o o' sound step move twice before =
      let facts : Ticked n b s t = step_facts meaning law n b few tick s t sound step in
      omega (arith, move.sent, ticked_sent n b s t sound facts, once_tick n (held s) (held t) o.held o'.held move.sends (sent_in_all s) o.sent facts.shorter move.held before)

  once_run : {rule : R} {es : List Event} {s : State R} {o : Stock} → Run meaning rule n b es s → Schedule n b es o → OnceAt s o
  once_run {o} (begins start) (begins first) = omega (arith, first.sent, sums_zero n, sums_same n o.held (λ p. 0) first.held)
  once_run (goes {e = e} {s = s} {t = t} run step) (goes {s = o} {t = o'} schedule move) =
      once_step e s t o o' (run_sound meaning law n b few run) step move (twice_sent run schedule) (once_run run schedule)

  -- while only arrivals have come
  record Waiting (s : State R) (o : Stock) : Type 0 where
    none : o.sent ≡ 0
    fits : in_all n o.held ≤ b
    matched : Matched n b (held s) o.held

  waiting_start : (s : State R) (o : Stock) → AtFirst n o → Waiting s o
  waiting_start s o first = record {
    none = first.sent;
    fits = omega (arith, sums_zero n, sums_same n o.held (λ p. 0) first.held);
    matched = inl (λ p l. omega (arith, first.held p l));
  }

  waiting_arrived : (k : ℕ) (s t : State R) (o o' : Stock) → k < n → Kept n b k s t ⊎ Lost n b k s t → AtArrival n b k o o' → Matched n b (held s) o.held → Matched n b (held t) o'.held
  waiting_arrived k s t o o' port (inl kept) move before = matched_room n b k (held s) (held t) o.held o'.held kept.takes move.held before
  waiting_arrived k s t o o' port (inr lost) move before = matched_full n b k (held s) (held t) o.held o'.held port lost.drops move.held before

  waiting_step : (e : Event) (s t : State R) (o o' : Stock) → IsArrival e → Sound n b s → Step meaning s e t → Move n b o e o' → Waiting s o → Waiting t o'
  waiting_step (arrival k) s t o o' is sound step move before =
      let facts : Arrived n b k s t = step_facts meaning law n b few (arrival k) s t sound step in
      record {
        none = move.sent ∙ before.none;
        fits = move.room;
        matched = waiting_arrived k s t o o' facts.port facts.way move before.matched;
      }
  waiting_step tick s t o o' is sound step move before = absurd is

  waiting_run : {rule : R} {es : List Event} {s : State R} {o : Stock} → AllByRecursion IsArrival es → Run meaning rule n b es s → Schedule n b es o → Waiting s o
  waiting_run {s} {o} all (begins start) (begins first) = waiting_start s o first
  waiting_run all (goes {e = e} {s = s} {t = t} run step) (goes {s = o} {t = o'} schedule move) =
      waiting_step e s t o o' all.0 (run_sound meaning law n b few run) step move (waiting_run all.1 run schedule)

  abbrev AheadAt : State R → Stock → Type 0
  AheadAt s o = (i : ℕ) → Ahead n (held s) (sent_in_all s) o.held o.sent i

  waiting_ahead : (s : State R) (o : Stock) → Waiting s o → AheadAt s o
  waiting_ahead s o waiting i = ahead_matched n b (held s) o.held (sent_in_all s) o.sent i waiting.none waiting.fits waiting.matched

  ahead_step : (s t : State R) (o o' : Stock) → Sound n b s → Step meaning s tick t → Move n b o tick o' → AheadAt s o → AheadAt t o'
  ahead_step s t o o' sound step move before i =
      let facts : Ticked n b s t = step_facts meaning law n b few tick s t sound step in
      omega (arith, move.sent, ticked_sent n b s t sound facts, ahead_tick n (held s) (held t) o.held o'.held move.sends (sent_in_all s) o.sent i facts.shorter move.once move.held (before (i + 1)))

  ahead_run : {rule : R} {es : List Event} {s : State R} {o : Stock} → ArrivalsFirst es → Run meaning rule n b es s → Schedule n b es o → AheadAt s o
  ahead_run {s} {o} first (begins start) (begins none) = waiting_ahead s o (waiting_start s o none)
  ahead_run first (goes {e = arrival k} {s = s} {t = t} run step) (goes {s = o} {t = o'} schedule move) =
      waiting_ahead t o' (waiting_step (arrival k) s t o o' tt (run_sound meaning law n b few run) step move (waiting_run first run schedule))
  ahead_run first (goes {e = tick} {s = s} {t = t} run step) (goes {s = o} {t = o'} schedule move) =
      ahead_step s t o o' (run_sound meaning law n b few run) step move (ahead_run first run schedule)

module _ {R : Type 0} (meaning : Meaning R) (law : Lawful meaning.picks) where
  pub never_half : NeverHalfAsGood meaning
  never_half rule n b few es s o run schedule i =
      points (λ es s o. o.sent ≤ 2 * sent_in_all s)
      (λ es s o run schedule. twice_sent meaning law n b few run schedule)
      run schedule i

  pub held_once : HeldCountsOnce meaning
  held_once rule n b few es s o run schedule i =
      points (λ es s o. o.sent + in_all s.ports o.held ≤ 2 * sent_in_all s + held_in_all s)
      (λ es s o run schedule.
      let sound = run_sound meaning law n b few run in
      omega (arith, once_run meaning law n b few run schedule, held_all n b s sound, ap (λ m. in_all m o.held) sound.ports))
      run schedule i

  pub never_half_with_held : NeverHalfAsGoodWithHeld meaning
  never_half_with_held rule n b few es s o run schedule i = omega (arith, held_once rule n b few es s o run schedule i)

  pub best_first : BestWhenArrivalsComeFirst meaning
  best_first rule n b few es s o run schedule i =
      points (λ es s o. ArrivalsFirst es → o.sent ≤ sent_in_all s)
      (λ es s o run schedule first. ahead_end n (held s) o.held (sent_in_all s) o.sent (ahead_run meaning law n b few first run schedule 0))
      run schedule i
