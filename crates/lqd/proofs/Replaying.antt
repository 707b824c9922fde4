-- A run is what its events give by computing, whatever the places are. Assumes nothing.
use Rattle.std.proofs.Common.{◌≡◌, ℕ, zero, suc, List, [], ◌∷◌, ◌++◌, refl, ap, ◌∙◌}
use Rattle.lqd.specs.Events.{Event, arrival, tick, begins, goes}
use Rattle.lqd.specs.LongestQueueDrop.{Meaning, State, Loss, opened, arrive, ticked, lost_in, Step, Run, losses}

-- x first, then the others
before : ℕ → (ℕ → ℕ) → ℕ → ℕ
before x xs zero = x
before x xs (suc i) = xs i

module _ {R : Type 0} (meaning : Meaning R) (rule : R) (n b : ℕ) where
  -- the switch after these events; xs are the places of the arriving cells, that of the newest event first
  unfoldable pub replayed : List Event → (ℕ → ℕ) → State R
  replayed [] xs = opened rule n b
  replayed (arrival k ∷ es) xs = arrive meaning (replayed es (λ i. xs (suc i))) k (xs 0)
  replayed (tick ∷ es) xs = ticked (replayed es (λ i. xs (suc i)))

  -- what is lost in these events
  unfoldable pub losses_in : List Event → (ℕ → ℕ) → List Loss
  losses_in [] xs = []
  losses_in (e ∷ es) xs = losses_in es (λ i. xs (suc i)) ++ lost_in meaning (replayed es (λ i. xs (suc i))) e

  pub record Replays (es : List Event) (s : State R) (lost : List Loss) : Type 0 where
    pub places : ℕ → ℕ
    pub state : s ≡ replayed es places
    pub loses : lost ≡ losses_in es places

  replays_step : (e : Event) (es : List Event) (s t : State R) (lost : List Loss) → Step meaning s e t → Replays es s lost → Replays (e ∷ es) t (lost ++ lost_in meaning s e)
  unfolding replayed losses_in before
  replays_step (arrival k) es s t lost step r = record {
    places = before step.place r.places;
    state = step.gives ∙ ap (λ s. arrive meaning s k step.place) r.state;
    loses = ap (λ l. l ++ lost_in meaning s (arrival k)) r.loses ∙ ap (λ s. losses_in es r.places ++ lost_in meaning s (arrival k)) r.state;
  }
  replays_step tick es s t lost step r = record {
    places = before 0 r.places;
    state = step ∙ ap ticked r.state;
    loses = ap (λ l. l ++ []) r.loses;
  }

  pub replays : {es : List Event} {s : State R} (run : Run meaning rule n b es s) → Replays es s (losses meaning run)
  unfolding replayed losses_in
  replays (begins start) = record { places = λ i. 0; state = start; loses = refl }
  replays (goes {es = es} {e = e} {s = s} {t = t} run step) = replays_step e es s t (losses meaning run) step (replays run)
