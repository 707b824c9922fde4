-- Which places the arriving cells are given changes nothing but the places. Assumes nothing.
use Rattle.std.proofs.Common.{◌≡◌, ℕ, zero, suc, ◌+◌, ◌-◌, min, cond, eqb, ltb, List, [], ◌∷◌, ◌++◌, map, length, get_or, take, drop, set, replicate, Some, None, Option, sym, refl, ap, ◌∙◌}
use mathlib.Core.Path.{fun_ext}
use mathlib.Core.List.{map-map}
use Rattle.std.proofs.lemmas.List.{length-map, map-append, map-set, take-map, drop-map}
use Rattle.tie.specs.declared.candidate.Candidate.{Candidate}
use Rattle.lqd.specs.Events.{Event, arrival, tick, begins, goes}
use Rattle.tie.specs.Candidates.{by_port}
use Rattle.lqd.specs.Ports.{in_all, greatest, one}
use Rattle.lqd.specs.LongestQueueDrop.{Meaning, Held, State, Loss, opened, head_period, without_tail, queue, held, sent_by, enqueued, pushed_out, stamp, candidates, ticked, loser, lost_in, arrive, Step, Run, losses}
use Rattle.lqd.specs.Promises.{without_places, OnlyPlacesAreFree}
use Rattle.lqd.proofs.Steps.{outcome}
use Rattle.lqd.proofs.Replaying.{replayed, losses_in}

-- a cell with its place forgotten
abbrev bare : Held → Held
bare cell = record { place = 0; period = cell.period }

get_or_bare : (queues : List (List Held)) (p : ℕ) → get_or (map (map bare) queues) p [] ≡ map bare (get_or queues p [])
get_or_bare [] p = refl
get_or_bare (q ∷ queues) zero = refl
get_or_bare (q ∷ queues) (suc p) = get_or_bare queues p

head_bare : (q : List Held) (d : ℕ) → head_period (map bare q) d ≡ head_period q d
head_bare [] d = refl
head_bare (cell ∷ q) d = refl

empty_bare : (n : ℕ) → map (map bare) (replicate n []) ≡ replicate n []
empty_bare zero = refl
empty_bare (suc n) = ap {B = List (List Held)} (λ qs. [] ∷ qs) (empty_bare n)

joined_bare : (queues : List (List Held)) (k : ℕ) (cell : Held) → map (map bare) (set queues k (get_or queues k [] ++ cell ∷ [])) ≡ set (map (map bare) queues) k (get_or (map (map bare) queues) k [] ++ bare cell ∷ [])
joined_bare queues k cell =
    map-set (map bare) queues k (get_or queues k [] ++ cell ∷ []) ∙
    ap (set (map (map bare) queues) k) (map-append bare (get_or queues k []) (cell ∷ []) ∙ ap (λ q. q ++ bare cell ∷ []) (sym (get_or_bare queues k)))

tail_bare : (queues : List (List Held)) (v : ℕ) → map (map bare) (without_tail queues v) ≡ without_tail (map (map bare) queues) v
tail_bare queues v =
    map-set (map bare) queues v (take (length (get_or queues v []) - 1) (get_or queues v [])) ∙
    ap (set (map (map bare) queues) v)
    (sym (take-map bare (length (get_or queues v []) - 1) (get_or queues v [])) ∙
    ap (λ m. take (m - 1) (map bare (get_or queues v []))) (sym (length-map (get_or queues v []) bare)) ∙
    ap (λ (q : List Held). take (length q - 1) q) (sym (get_or_bare queues v)))

heads_bare : (queues : List (List Held)) → map (map bare) (map (drop 1) queues) ≡ map (drop 1) (map (map bare) queues)
heads_bare queues =
    map-map (map bare) (drop 1) queues ∙ ap (λ (f : List Held → List Held). map f queues) (fun_ext (λ q. sym (drop-map bare 1 q))) ∙ sym (map-map (drop 1) (map bare) queues)

module _ {R : Type 0} where
  held_bare : (s : State R) → held (without_places s) ≡ held s
  held_bare s = fun_ext (λ p. ap length (get_or_bare s.queues p) ∙ length-map (queue s p) bare)

  stamp_bare : (s : State R) (k : ℕ) → stamp (without_places s) k ≡ stamp s k
  stamp_bare s k = fun_ext (λ p. ap (λ q. head_period q (cond (eqb p k) s.period 0)) (get_or_bare s.queues p) ∙ head_bare (queue s p) (cond (eqb p k) s.period 0))

  -- the candidates, of the lengths and the stamps alone
  abbrev given : State R → ℕ → (ℕ → ℕ) → (ℕ → ℕ) → List Candidate
  given s k lengths stamps = by_port s.ports (λ p. record { marked = eqb (lengths p + one k p) (greatest s.ports (λ r. lengths r + one k r)); stamp = stamps p })

  candidates_bare : (s : State R) (k : ℕ) → candidates (without_places s) k ≡ candidates s k
  candidates_bare s k = ap (λ h. given s k h (stamp (without_places s) k)) (held_bare s) ∙ ap (given s k (held s)) (stamp_bare s k)

  -- the same switch with other queues
  abbrev holding : State R → List (List Held) → State R
  holding s queues = record {
    rule = s.rule;
    ports = s.ports;
    cells = s.cells;
    period = s.period;
    queues = queues;
    offered = s.offered;
    sent = s.sent;
    lost = s.lost;
  }

  tick_bare : (s : State R) → without_places (ticked s) ≡ ticked (without_places s)
  unfolding ticked
  tick_bare s =
      let sending : (ℕ → ℕ) → State R = λ lengths. record {
        rule = s.rule;
        ports = s.ports;
        cells = s.cells;
        period = s.period + 1;
        queues = map (drop 1) (map (map bare) s.queues);
        offered = s.offered;
        sent = by_port s.ports (λ p. sent_by s p + min (lengths p) 1);
        lost = s.lost;
      } in
      ap (holding (without_places (ticked s))) (heads_bare s.queues) ∙ ap sending (sym (held_bare s))

  module _ (meaning : Meaning R) where
    loser_bare : (s : State R) (k : ℕ) → loser meaning (without_places s) k ≡ loser meaning s k
    unfolding loser
    loser_bare s k =
        ap (λ h. cond (ltb (in_all s.ports h) s.cells) None (Some (meaning.picks s.rule (candidates (without_places s) k)))) (held_bare s) ∙
        ap (λ cs. cond (ltb (in_all s.ports (held s)) s.cells) None (Some (meaning.picks s.rule cs))) (candidates_bare s k)

    outcome_bare : (s : State R) (k x : ℕ) (o : Option ℕ) → without_places (outcome meaning s k x o) ≡ outcome meaning (without_places s) k 0 o
    outcome_bare s k x None = ap (holding (without_places (enqueued s k x))) (joined_bare s.queues k (record { place = x; period = s.period }))
    outcome_bare s k x (Some v) =
        ap (holding (without_places (pushed_out meaning (enqueued s k x) v))) (tail_bare (enqueued s k x).queues v ∙ ap (λ qs. without_tail qs v) (joined_bare s.queues k (record { place = x; period = s.period })))

    arrive_bare : (s : State R) (k x : ℕ) → without_places (arrive meaning s k x) ≡ arrive meaning (without_places s) k 0
    unfolding arrive
    arrive_bare s k x = outcome_bare s k x (loser meaning s k) ∙ ap (outcome meaning (without_places s) k 0) (sym (loser_bare s k))

    lost_bare : (s : State R) (e : Event) → lost_in meaning s e ≡ lost_in meaning (without_places s) e
    lost_bare s (arrival k) = ap (λ o. elim o as (λ v. List Loss) [ None ↦ [] | Some v ↦ record { period = s.period; arriving = k; losing = v } ∷ [] ]) (sym (loser_bare s k))
    lost_bare s tick = refl

    -- a run is what its events give with every place 0
    module _ (rule : R) (n b : ℕ) where
      plain : List Event → State R
      plain es = replayed meaning rule n b es (λ i. 0)

      step_bare : (e : Event) (es : List Event) (s t : State R) → Step meaning s e t → without_places s ≡ plain es → without_places t ≡ plain (e ∷ es)
      unfolding plain replayed
      step_bare (arrival k) es s t step same = ap without_places step.gives ∙ arrive_bare s k step.place ∙ ap (λ s. arrive meaning s k 0) same
      step_bare tick es s t step same = ap without_places step ∙ tick_bare s ∙ ap ticked same

      run_bare : {es : List Event} {s : State R} → Run meaning rule n b es s → without_places s ≡ plain es
      unfolding plain replayed
      run_bare (begins start) = ap without_places start ∙ ap (holding (opened rule n b)) (empty_bare n)
      run_bare (goes {es = es} {e = e} {s = s} {t = t} run step) = step_bare e es s t step (run_bare run)

      losses_bare : {es : List Event} {s : State R} (run : Run meaning rule n b es s) → losses meaning run ≡ losses_in meaning rule n b es (λ i. 0)
      unfolding plain losses_in
      losses_bare (begins start) = refl
      losses_bare (goes {es = es} {e = e} {s = s} run step) =
          ap (λ these. these ++ lost_in meaning s e) (losses_bare run) ∙
          ap (λ last. losses_in meaning rule n b es (λ i. 0) ++ last) (lost_bare s e ∙ ap (λ s. lost_in meaning s e) (run_bare run))

pub only_places : {R : Type 0} (meaning : Meaning R) → OnlyPlacesAreFree meaning
only_places meaning rule n b es s t run other =
    (run_bare meaning rule n b run ∙ sym (run_bare meaning rule n b other), losses_bare meaning rule n b run ∙ sym (losses_bare meaning rule n b other))
