-- What a run of a switch does to its counts: they add up, cells are lost only when all are held, and the counts are an admissible schedule. Assumes nothing but the law of picks.
use Rattle.std.proofs.Common.{◌≡◌, ℕ, zero, suc, ◌+◌, ◌<◌, ◌≤◌, min, cond, eqb, ◌⊎◌, List, [], ◌∷◌, get_or, Some, None, Option, sym, refl, ap, ◌∙◌, subst, inl, inr, ⊎_elim, arith}
use Rattle.std.proofs.lemmas.List.{get_or-replicate, get_or_past}
use Rattle.std.proofs.lemmas.List.Sums.{sum_by-cons, sum_by-append}
use Rattle.std.proofs.lemmas.Bool.{cases_eq, cases_lt}
use Rattle.tie.specs.Rules.{Lawful}
use Rattle.lqd.specs.Ports.{one}
use Rattle.lqd.specs.Events.{Event, arrival, tick, begins, goes, ago, is_for, is_tick, ticks_in}
use Rattle.lqd.specs.LongestQueueDrop.{Meaning, State, opened, held, offered_by, sent_by, lost_by, sent_in_all, losses_of, ticked, loser, lost_in, arrive, Step, Run, losses}
use Rattle.lqd.specs.Schedules.{AtFirst, AtArrival, AtTick, Move, Schedule}
use Rattle.lqd.specs.Promises.{FairLoss, Balanced, as_stock, LosesOnlyWhenFull, CountsAddUp, IsItselfAdmissible}
use Rattle.lqd.proofs.Sums.{sums_same, sums_zero, one_other}
use Rattle.lqd.proofs.Moves.{drops_level, drops_share}
use Rattle.lqd.proofs.Queues.{one_more_lem}
use Rattle.lqd.proofs.Steps.{Sound, opened_held, Kept, Lost, Arrived, Ticked, Facts, outcome, by_loser, step_facts, run_sound, held_all, arrived_sent, ticked_sent}

opened_sent : {R : Type 0} (rule : R) (n b : ℕ) → sent_in_all (opened rule n b) ≡ 0
opened_sent rule n b = sums_same n _ (λ p. 0) (λ p l. get_or-replicate {A = ℕ} n p 0 0 l) ∙ sums_zero n

module _ {R : Type 0} (n b : ℕ) where
  -- only one of the ports can lose
  loses_below : (s t : State R) (v : ℕ) → Sound n b t → lost_by s v < lost_by t v → v < n
  loses_below s t v sound more = ⊎_elim
      (λ (l : v < n). l)
      (λ (h : n ≤ v). absurd (let bad : ⊥ = omega (arith, get_or_past t.lost v 0 (omega (arith, sound.lost))) in bad))
      (cases_lt v n)

  -- an event at which nothing is lost
  kept_lost : (s t : State R) (v : ℕ) → Sound n b t → ((p : ℕ) → p < n → lost_by t p ≡ lost_by s p) → lost_by s v < lost_by t v → ⊥
  kept_lost s t v sound same more = omega (arith, same v (loses_below s t v sound more))

  -- only the loser loses
  loser_is : (k : ℕ) (s t : State R) (v : ℕ) → Sound n b t → (lost : Lost n b k s t) → lost_by s v < lost_by t v → v ≡ lost.drops.v
  loser_is k s t v sound lost more = ⊎_elim
      (λ (e : v ≡ lost.drops.v). e)
      (λ (ne : v ≡ lost.drops.v → ⊥). absurd (let bad : ⊥ = omega (arith, lost.lost v (loses_below s t v sound more), one_other lost.drops.v v ne) in bad))
      (cases_eq v lost.drops.v)

  arrival_loses : (k : ℕ) (s t : State R) (v : ℕ) → Sound n b s → Arrived n b k s t → Kept n b k s t ⊎ Lost n b k s t → lost_by s v < lost_by t v → FairLoss n b v s (arrival k) t
  arrival_loses k s t v sound facts (inl kept) more = absurd (kept_lost s t v facts.sound kept.lost more)
  arrival_loses k s t v sound facts (inr lost) more = subst (λ u. FairLoss n b u s (arrival k) t) (sym (loser_is k s t v facts.sound lost more)) (record {
    arrives = tt;
    full = held_all n b s sound ∙ lost.drops.full;
    share = drops_share n b k (held s) (held t) facts.port lost.drops;
    longest = drops_level n b k (held s) (held t) lost.drops;
    front = lost.front;
  })

  balanced_start : (rule : R) (p : ℕ) → p < n → Balanced [] (opened rule n b) [] p
  balanced_start rule p l =
      let none : get_or (opened rule n b).offered p 0 ≡ 0 = get_or-replicate {A = ℕ} n p 0 0 l in
      record { arrivals = none; losses = none; balance = omega (arith, opened_held rule n b p l) }

  balance_arrival : (k : ℕ) (s t : State R) (p : ℕ) → p < n → Arrived n b k s t → Kept n b k s t ⊎ Lost n b k s t → offered_by s p ≡ sent_by s p + lost_by s p + held s p → offered_by t p ≡ sent_by t p + lost_by t p + held t p
  balance_arrival k s t p l facts (inl kept) before = omega (arith, facts.offered p l, facts.sent p l, kept.lost p l, kept.takes.longer p l)
  balance_arrival k s t p l facts (inr lost) before = omega (arith, facts.offered p l, facts.sent p l, lost.lost p l, lost.drops.changed p l)

  -- the switch, as a schedule in c cells
  module _ (c : ℕ) (larger : b ≤ c) where
    itself_first : (rule : R) → AtFirst n (as_stock (opened rule n b))
    itself_first rule = record { held = opened_held rule n b; sent = opened_sent rule n b }

    itself_longer : (k : ℕ) (s t : State R) → Kept n b k s t ⊎ Lost n b k s t → (p : ℕ) → p < n → held t p ≤ held s p + one k p
    itself_longer k s t (inl kept) p l = omega (arith, kept.takes.longer p l)
    itself_longer k s t (inr lost) p l = omega (arith, lost.drops.changed p l)

    itself_arrival : (k : ℕ) (s t : State R) → Sound n b s → Arrived n b k s t → AtArrival n c k (as_stock s) (as_stock t)
    itself_arrival k s t sound facts = record {
      held = itself_longer k s t facts.way;
      room = omega (arith, facts.sound.fits);
      sent = arrived_sent n b s t sound k facts;
    }

    itself_tick : (s t : State R) → Sound n b s → Ticked n b s t → AtTick n (as_stock s) (as_stock t)
    itself_tick s t sound facts = record {
      sends = λ p. min (held s p) 1;
      once = λ p l. omega arith;
      held = λ p l. omega (arith, facts.shorter p l);
      sent = ticked_sent n b s t sound facts;
    }

-- the period goes on at each tick, and at nothing else
module _ {R : Type 0} (meaning : Meaning R) where
  event_period : (e : Event) (s t : State R) → Step meaning s e t → t.period ≡ s.period + cond (is_tick e) 1 0
  unfolding arrive ticked
  event_period (arrival k) s t step = ap (λ t. t.period) step.gives ∙ outcome_period (loser meaning s k)
    where
      outcome_period : (o : Option ℕ) → (outcome meaning s k step.place o).period ≡ s.period + 0
      outcome_period None = omega arith
      outcome_period (Some v) = omega arith
  event_period tick s t step = ap (λ t. t.period) step

  run_period : {rule : R} {n b : ℕ} {es : List Event} {s : State R} → Run meaning rule n b es s → s.period ≡ ticks_in es
  run_period (begins start) = ap (λ s. s.period) start
  run_period (goes {es = es} {e = e} {s = s} {t = t} run step) = omega (arith, event_period e s t step, run_period run, sum_by-cons (λ e. cond (is_tick e) 1 0) e es)

-- the counts of port p in a run
module _ {R : Type 0} (meaning : Meaning R) (law : Lawful meaning.picks) (n b : ℕ) (few : n ≤ 256) (p : ℕ) (l : p < n) where
  arrived_offered : (e : Event) (s t : State R) → Facts n b s e t → offered_by t p ≡ offered_by s p + cond (is_for p e) 1 0
  arrived_offered (arrival k) s t facts = facts.offered p l
  arrived_offered tick s t facts = omega (arith, facts.offered p l)

  -- an arrival adds to the list what it adds to the count
  arrival_listed : (s : State R) (k x : ℕ) → Sound n b s → k < s.ports → lost_by (arrive meaning s k x) p ≡ lost_by s p + losses_of p (lost_in meaning s (arrival k))
  unfolding arrive
  arrival_listed s k x sound own =
      by_loser meaning law n b few s k sound own (λ o. lost_by (outcome meaning s k x o) p ≡ lost_by s p + losses_of p (elim o [ None ↦ [] | Some v ↦ record { period = s.period; arriving = k; losing = v } ∷ [] ]))
      (λ room. omega arith)
      (λ v full loses longest. omega (arith, one_more_lem s.lost v p (omega (arith, sound.lost))))

  event_listed : (e : Event) (s t : State R) → Sound n b s → Step meaning s e t → lost_by t p ≡ lost_by s p + losses_of p (lost_in meaning s e)
  event_listed (arrival k) s t sound step = subst (λ t. lost_by t p ≡ lost_by s p + losses_of p (lost_in meaning s (arrival k))) (sym step.gives) (arrival_listed s k step.place sound step.port)
  event_listed tick s t sound step = omega (arith, (step_facts meaning law n b few tick s t sound step).lost p l)

  event_balance : (e : Event) (s t : State R) → Facts n b s e t → offered_by s p ≡ sent_by s p + lost_by s p + held s p → offered_by t p ≡ sent_by t p + lost_by t p + held t p
  event_balance (arrival k) s t facts before = balance_arrival n b k s t p l facts facts.way before
  event_balance tick s t facts before = omega (arith, facts.offered p l, facts.sent p l, facts.lost p l, facts.shorter p l)

  balanced : {rule : R} {es : List Event} {s : State R} (run : Run meaning rule n b es s) → Balanced es s (losses meaning run) p
  balanced {rule} (begins start) = subst (λ s. Balanced [] s [] p) (sym start) (balanced_start n b rule p l)
  balanced (goes {es = es} {e = e} {s = s} {t = t} run step) =
      let before = balanced run in
      let sound = run_sound meaning law n b few run in
      let facts = step_facts meaning law n b few e s t sound step in
      record {
        arrivals = omega (arith, arrived_offered e s t facts, before.arrivals, sum_by-cons (λ e. cond (is_for p e) 1 0) e es);
        losses = omega (arith, event_listed e s t sound step, before.losses, sum_by-append (λ loss. cond (eqb p loss.losing) 1 0) (losses meaning run) (lost_in meaning s e));
        balance = event_balance e s t facts before.balance;
      }

module _ {R : Type 0} (meaning : Meaning R) (law : Lawful meaning.picks) where
  pub loses_only_full : LosesOnlyWhenFull meaning
  loses_only_full rule n b few es s run e t step v more = loses e step
    where
      sound : Sound n b s
      sound = run_sound meaning law n b few run

      loses : (e : Event) → Step meaning s e t → FairLoss n b v s e t
      loses (arrival k) step = let facts = step_facts meaning law n b few (arrival k) s t sound step in arrival_loses n b k s t v sound facts facts.way more
      loses tick step = let facts = step_facts meaning law n b few tick s t sound step in absurd (kept_lost n b s t v facts.sound facts.lost more)

  pub counts_add_up_lem : CountsAddUp meaning
  counts_add_up_lem rule n b few es s run = (run_period meaning run, λ p l. balanced meaning law n b few p l run)

  pub itself_admissible : IsItselfAdmissible meaning
  itself_admissible rule n b few es s run c larger = itself run
    where
      move : (e : Event) (s t : State R) → Sound n b s → Facts n b s e t → Move n c (as_stock s) e (as_stock t)
      move (arrival k) s t sound facts = itself_arrival n b c larger k s t sound facts
      move tick s t sound facts = itself_tick n b c larger s t sound facts

      itself : {es : List Event} {s : State R} (run : Run meaning rule n b es s) → (schedule : Schedule n c es (as_stock s)) × ((i : ℕ) → ago schedule i ≡ as_stock (ago run i))
      itself (begins start) = (begins (subst (λ s. AtFirst n (as_stock s)) (sym start) (itself_first n b c larger rule)), elim [ zero ↦ refl | suc i ↦ refl ])
      itself (goes {e = e} {s = s} {t = t} run step) =
          let sound = run_sound meaning law n b few run in
          let before = itself run in
          (goes before.0 (move e s t sound (step_facts meaning law n b few e s t sound step)), elim [ zero ↦ refl | suc i ↦ before.1 i ])
