-- What an arrival and a tick make of a switch, port by port. Assumes nothing.
use Rattle.std.proofs.Common.{◌≡◌, ℕ, suc, ◌+◌, ◌-◌, ◌<◌, ◌≤◌, min, true, false, eqb, ltb, ◌⊎◌, List, [], map, length, get_or, take, drop, Some, None, Option, sym, refl, ap, ◌∙◌, subst, inl, inr, ⊎_elim, arith}
use Rattle.std.proofs.lemmas.List.FromFn.{length-map-range_with_len, get_or-map-range_with_len}
use Rattle.std.proofs.lemmas.List.{length-set, length-take, length-drop, length-map, length_push, length-replicate, get_or-map, get_or-replicate, take_all, get_or_past}
use Rattle.std.proofs.lemmas.Bool.{cases_lt, cond_both, ltb-true, ltb-false, eqb-true, eq-eqb, both_ways}
use Rattle.tie.specs.declared.candidate.Candidate.{Candidate}
use Rattle.tie.specs.Candidates.{by_port, that_count, nobody, is_marked}
use Rattle.tie.specs.Rules.{Lawful}
use Rattle.lqd.specs.Ports.{in_all, greatest, one}
use Rattle.lqd.specs.Events.{Event, arrival, tick, begins, goes}
use Rattle.lqd.specs.LongestQueueDrop.{Meaning, Held, State, opened, queue, held, offered_by, sent_by, lost_by, held_in_all, sent_in_all, counted_length, stamp, candidates, without_tail, enqueued, pushed_out, ticked, loser, arrive, Step, Run}
use Rattle.lqd.proofs.Sums.{sums_same, sums_zero, sums_add, sums_one, sums_le, one_here, greatest_above, greatest_reached}
use Rattle.lqd.proofs.Moves.{Takes, Drops, drops_held}
use Rattle.lqd.proofs.Queues.{raised, lowered, one_more_lem, left_in_front}

-- a port among n candidates, of which all count, is marked just where it is said to be
module _ (n : ℕ) (few : n ≤ 256) (f : ℕ → Candidate) where
  all_count : that_count (by_port n f) ≡ by_port n f
  all_count = take_all 256 (by_port n f) (omega (arith, length-map-range_with_len f 0 n))

  marked_at : (p : ℕ) → p < n → is_marked (by_port n f) p ≡ (f p).marked
  marked_at p l = ap (λ (cs : List Candidate). (get_or cs p nobody).marked) all_count ∙ ap (λ (c : Candidate). c.marked) (get_or-map-range_with_len f 0 n p p nobody l (omega arith))

  marked_past : (p : ℕ) → n ≤ p → is_marked (by_port n f) p ≡ false
  marked_past p h = ap (λ (cs : List Candidate). (get_or cs p nobody).marked) all_count ∙ ap (λ (c : Candidate). c.marked) (get_or_past (by_port n f) p nobody (omega (arith, length-map-range_with_len f 0 n)))

  marked_below : (p : ℕ) → is_marked (by_port n f) p ≡ true → p < n
  marked_below p t = ⊎_elim (λ (h : p < n). h) (λ (h : n ≤ p). absurd (both_ways _ (marked_past p h) t)) (cases_lt p n)

-- the shape of a switch of n ports and b cells
pub record Sound (n b : ℕ) {R : Type 0} (s : State R) : Type 0 where
  pub ports : s.ports ≡ n
  pub cells : s.cells ≡ b
  pub queues : length s.queues ≡ n
  pub offered : length s.offered ≡ n
  pub sent : length s.sent ≡ n
  pub lost : length s.lost ≡ n
  pub fits : in_all n (held s) ≤ b

-- the queues of an opened switch are empty
pub opened_held : {R : Type 0} (rule : R) (n b p : ℕ) → p < n → held (opened rule n b) p ≡ 0
opened_held rule n b p l = ap length (get_or-replicate {A = List Held} n p [] [] l)

pub opened_sound : {R : Type 0} (rule : R) (n b : ℕ) → Sound n b (opened rule n b)
opened_sound rule n b = record {
  ports = refl;
  cells = refl;
  queues = length-replicate n [];
  offered = length-replicate {A = ℕ} n 0;
  sent = length-replicate {A = ℕ} n 0;
  lost = length-replicate {A = ℕ} n 0;
  fits = omega (arith, sums_zero n, sums_same n (held (opened rule n b)) (λ p. 0) (opened_held rule n b));
}

module _ {R : Type 0} where
  -- an arrival for port k at which nothing is lost
  pub record Kept (n b k : ℕ) (s t : State R) : Type 0 where
    pub takes : Takes n b k (held s) (held t)
    pub lost : (p : ℕ) → p < n → lost_by t p ≡ lost_by s p

  -- an arrival for port k at which a cell is lost
  pub record Lost (n b k : ℕ) (s t : State R) : Type 0 where
    pub drops : Drops n b k (held s) (held t)
    pub lost : (p : ℕ) → p < n → lost_by t p ≡ lost_by s p + one drops.v p
    pub front : queue t drops.v ≡ take (held t drops.v) (queue s drops.v)

  -- an arrival for port k
  pub record Arrived (n b k : ℕ) (s t : State R) : Type 0 where
    pub port : k < n
    pub offered : (p : ℕ) → p < n → offered_by t p ≡ offered_by s p + one k p
    pub sent : (p : ℕ) → p < n → sent_by t p ≡ sent_by s p
    pub way : Kept n b k s t ⊎ Lost n b k s t
    pub sound : Sound n b t

  -- a tick
  pub record Ticked (n b : ℕ) (s t : State R) : Type 0 where
    pub shorter : (p : ℕ) → p < n → held t p ≡ held s p - 1
    pub offered : (p : ℕ) → p < n → offered_by t p ≡ offered_by s p
    pub sent : (p : ℕ) → p < n → sent_by t p ≡ sent_by s p + min (held s p) 1
    pub lost : (p : ℕ) → p < n → lost_by t p ≡ lost_by s p
    pub sound : Sound n b t

  -- what an event makes of a switch
  abbrev pub Facts : ℕ → ℕ → State R → Event → State R → Type 0
  Facts n b s (arrival k) t = Arrived n b k s t
  Facts n b s tick t = Ticked n b s t

  module _ (n b : ℕ) (s : State R) (sound : Sound n b s) where
    enqueued_held : (k x p : ℕ) → k < n → held (enqueued s k x) p ≡ held s p + one k p
    enqueued_held k x p l = raised length s.queues k p _ [] (omega (arith, sound.queues)) (length_push (queue s k) _)

    tick_held : (p : ℕ) → p < n → length (get_or (map (drop 1) s.queues) p []) ≡ held s p - 1
    tick_held p l = ap length (get_or-map (drop 1) s.queues p [] [] (omega (arith, sound.queues))) ∙ length-drop 1 (queue s p)

    pub tick_facts : Ticked n b s (ticked s)
    unfolding ticked
    tick_facts = record {
      shorter = tick_held;
      offered = λ p l. refl;
      sent = λ p l. get_or-map-range_with_len _ 0 s.ports p p 0 (omega (arith, sound.ports)) (omega arith);
      lost = λ p l. refl;
      sound = record {
        ports = sound.ports;
        cells = sound.cells;
        queues = length-map s.queues (drop 1) ∙ sound.queues;
        offered = sound.offered;
        sent = length-map-range_with_len _ 0 s.ports ∙ sound.ports;
        lost = sound.lost;
        fits = omega (arith, sound.fits, sums_le n (λ p. length (get_or (map (drop 1) s.queues) p [])) (held s) (λ p l. omega (arith, tick_held p l)));
      };
    }

    -- an arrival for port k that finds room
    kept_facts : (k x : ℕ) → k < n → in_all n (held s) < b → Arrived n b k s (enqueued s k x)
    kept_facts k x port room =
        let longer : (p : ℕ) → p < n → held (enqueued s k x) p ≡ held s p + one k p = λ p l. enqueued_held k x p port in
        record {
          port = port;
          offered = λ p l. one_more_lem s.offered k p (omega (arith, sound.offered));
          sent = λ p l. refl;
          way = inl (record { takes = record { room = room; longer = longer }; lost = λ p l. refl });
          sound = record {
            ports = sound.ports;
            cells = sound.cells;
            queues = length-set s.queues k _ ∙ sound.queues;
            offered = length-set s.offered k _ ∙ sound.offered;
            sent = sound.sent;
            lost = sound.lost;
            fits = omega (arith, sums_same n (held (enqueued s k x)) (λ p. held s p + one k p) longer, sums_add n (held s) (one k), sums_one n k port);
          };
        }

    -- an arrival for port k that finds the memory full, where port v loses: one of the longest with the arriving cell counted in
    lost_facts : (meaning : Meaning R) (k x v : ℕ) → k < n → b ≤ in_all n (held s) → v < n → ((p : ℕ) → p < n → counted_length s k p ≤ counted_length s k v) → Arrived n b k s (pushed_out meaning (enqueued s k x) v)
    lost_facts meaning k x v port full loses longest =
        let queues : List (List Held) = (enqueued s k x).queues in
        let long : length queues ≡ n = length-set s.queues k _ ∙ sound.queues in
        let some : 1 ≤ length (get_or queues v []) = omega (arith, enqueued_held k x v port, longest k port, one_here k) in
        let shorter : length (take (length (get_or queues v []) - 1) (get_or queues v [])) + 1 ≡ length (get_or queues v []) = omega (arith, length-take (length (get_or queues v []) - 1) (get_or queues v [])) in
        let changed : (p : ℕ) → p < n → length (get_or (without_tail queues v) p []) + one v p ≡ held s p + one k p = λ p l. lowered length queues v p _ [] (omega arith) shorter ∙ enqueued_held k x p port in
        let drops : Drops n b k (held s) (λ p. length (get_or (without_tail queues v) p [])) = record { full = omega (arith, sound.fits); v = v; port = loses; longest = longest; changed = changed } in
        record {
          port = port;
          offered = λ p l. one_more_lem s.offered k p (omega (arith, sound.offered));
          sent = λ p l. refl;
          way = inr (record {
            drops = drops;
            lost = λ p l. one_more_lem s.lost v p (omega (arith, sound.lost));
            front = left_in_front s.queues k v _ (omega (arith, sound.queues)) (omega (arith, sound.queues));
          });
          sound = record {
            ports = sound.ports;
            cells = sound.cells;
            queues = length-set queues v _ ∙ long;
            offered = length-set s.offered k _ ∙ sound.offered;
            sent = sound.sent;
            lost = length-set s.lost v _ ∙ sound.lost;
            fits = omega (arith, drops_held n b k (held s) (λ p. length (get_or (without_tail queues v) p [])) port drops);
          };
        }

-- what an arrival for port k at place x comes to, by who loses
abbrev pub outcome : {R : Type 0} → Meaning R → State R → ℕ → ℕ → Option ℕ → State R
outcome meaning s k x o = elim o [ None ↦ enqueued s k x | Some v ↦ pushed_out meaning (enqueued s k x) v ]

-- a rule that keeps the law picks a port of the greatest counted length
module _ {R : Type 0} (meaning : Meaning R) (law : Lawful meaning.picks) (s : State R) (few : s.ports ≤ 256) (k : ℕ) (port : k < s.ports) where
  candidate : ℕ → Candidate
  candidate p = record { marked = eqb (counted_length s k p) (greatest s.ports (counted_length s k)); stamp = stamp s k p }

  some_marked : (p : ℕ) × (is_marked (candidates s k) p ≡ true)
  unfolding candidate
  some_marked =
      let m : (m : ℕ) × (s.ports ≡ suc m) = (s.ports - 1, omega arith) in
      let best : (p : ℕ) × (p < s.ports) × (counted_length s k p ≡ greatest s.ports (counted_length s k)) = subst (λ n. (p : ℕ) × (p < n) × (counted_length s k p ≡ greatest n (counted_length s k))) (sym m.1) (greatest_reached m.0 (counted_length s k)) in
      (best.0, marked_at s.ports few candidate best.0 best.1 ∙ eq-eqb _ _ best.2)

  pick_marked : is_marked (candidates s k) (meaning.picks s.rule (candidates s k)) ≡ true
  pick_marked = law.some s.rule (candidates s k) some_marked.0 some_marked.1

  pub pick_port : meaning.picks s.rule (candidates s k) < s.ports
  unfolding candidate
  pick_port = marked_below s.ports few candidate _ pick_marked

  pub pick_longest : (p : ℕ) → p < s.ports → counted_length s k p ≤ counted_length s k (meaning.picks s.rule (candidates s k))
  unfolding candidate
  pick_longest p l =
      let here : counted_length s k (meaning.picks s.rule (candidates s k)) ≡ greatest s.ports (counted_length s k) = eqb-true _ _ (sym (marked_at s.ports few candidate _ pick_port) ∙ pick_marked) in
      omega (arith, greatest_above s.ports (counted_length s k) p l)

module _ {R : Type 0} (meaning : Meaning R) (law : Lawful meaning.picks) (n b : ℕ) (few : n ≤ 256) where
  -- an arrival goes one of two ways: it finds room, or a port of the greatest counted length loses
  pub by_loser : (s : State R) (k : ℕ) → Sound n b s → k < s.ports → (P : Option ℕ → Type 0) → (in_all n (held s) < b → P None) → ((v : ℕ) → b ≤ in_all n (held s) → v < n → ((p : ℕ) → p < n → counted_length s k p ≤ counted_length s k v) → P (Some v)) → P (loser meaning s k)
  unfolding loser
  by_loser s k sound port P room full =
      let v : ℕ = meaning.picks s.rule (candidates s k) in
      let all : held_in_all s ≡ in_all n (held s) = ap (λ m. in_all m (held s)) sound.ports in
      let small : s.ports ≤ 256 = omega (arith, sound.ports) in
      cond_both (ltb (held_in_all s) s.cells) None (Some v) P
      (λ t. room (omega (arith, ltb-true _ _ t, sound.cells)))
      (λ f. full v (omega (arith, ltb-false _ _ f, sound.cells)) (omega (arith, pick_port meaning law s small k port, sound.ports)) (λ p l. pick_longest meaning law s small k port p (omega (arith, sound.ports))))

module _ {R : Type 0} (meaning : Meaning R) (law : Lawful meaning.picks) (n b : ℕ) (few : n ≤ 256) where
  arrive_facts : (s : State R) (k x : ℕ) → Sound n b s → k < s.ports → Arrived n b k s (arrive meaning s k x)
  unfolding arrive
  arrive_facts s k x sound own =
      let port : k < n = omega (arith, sound.ports) in
      by_loser meaning law n b few s k sound own (λ o. Arrived n b k s (outcome meaning s k x o))
      (λ room. kept_facts n b s sound k x port room)
      (λ v full loses longest. lost_facts n b s sound meaning k x v port full loses longest)

  pub step_facts : (e : Event) (s t : State R) → Sound n b s → Step meaning s e t → Facts n b s e t
  step_facts (arrival k) s t sound step = subst (Arrived n b k s) (sym step.gives) (arrive_facts s k step.place sound step.port)
  step_facts tick s t sound step = subst (Ticked n b s) (sym step) (tick_facts n b s sound)

  step_sound : (e : Event) (s t : State R) → Facts n b s e t → Sound n b t
  step_sound (arrival k) s t facts = facts.sound
  step_sound tick s t facts = facts.sound

  -- every switch that can be reached has its shape
  pub run_sound : {rule : R} {es : List Event} {s : State R} → Run meaning rule n b es s → Sound n b s
  run_sound {rule} (begins start) = subst (Sound n b) (sym start) (opened_sound rule n b)
  run_sound (goes {e = e} {s = s} {t = t} run step) = step_sound e s t (step_facts e s t (run_sound run) step)

module _ {R : Type 0} (n b : ℕ) (s : State R) (sound : Sound n b s) where
  pub held_all : held_in_all s ≡ in_all n (held s)
  held_all = ap (λ m. in_all m (held s)) sound.ports

  sent_all : sent_in_all s ≡ in_all n (sent_by s)
  sent_all = ap (λ m. in_all m (sent_by s)) sound.ports

module _ {R : Type 0} (n b : ℕ) (s t : State R) (sound : Sound n b s) where
  pub arrived_sent : (k : ℕ) → Arrived n b k s t → sent_in_all t ≡ sent_in_all s
  arrived_sent k facts = sent_all n b t facts.sound ∙ sums_same n (sent_by t) (sent_by s) facts.sent ∙ sym (sent_all n b s sound)

  pub ticked_sent : Ticked n b s t → sent_in_all t ≡ sent_in_all s + in_all n (λ p. min (held s p) 1)
  ticked_sent facts =
      let sums = sums_same n (sent_by t) (λ p. sent_by s p + min (held s p) 1) facts.sent in
      omega (arith, sent_all n b t facts.sound, sent_all n b s sound, sums_add n (sent_by s) (λ p. min (held s p) 1))
