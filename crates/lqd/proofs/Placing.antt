-- A cell that is kept always finds a place, so every list of events is taken; and every held cell has a place of its own. Assumes nothing but the law of picks.
use Rattle.std.proofs.Common.{◌≡◌, ℕ, zero, suc, ◌+◌, ◌-◌, ◌<◌, ◌≤◌, cond, eqb, List, [], ◌∷◌, ◌++◌, map, length, get_or, take, drop, set, Some, None, sum_by, sum, Option, sym, refl, ap, ◌∙◌, subst, ⊎_elim, arith}
use Rattle.std.specs.List.{AllByRecursion}
use Rattle.std.proofs.lemmas.List.FromFn.{fill_by_all}
use Rattle.std.proofs.lemmas.List.{length-map, length-set, length-take, get_or-map}
use Rattle.std.proofs.lemmas.List.Sums.{sum_by-cons, sum-map}
use Rattle.std.proofs.lemmas.Bool.{cases_eq, cases_lt}
use Rattle.tie.specs.Rules.{Lawful}
use Rattle.lqd.specs.Ports.{in_all, one}
use Rattle.lqd.specs.Events.{Event, arrival, tick, begins, goes, ForPorts}
use Rattle.lqd.specs.LongestQueueDrop.{Meaning, Held, State, opened, held, counted_length, without_tail, enqueued, cells_at, Free, PlaceFor, arrive, ticked, Step, Run}
use Rattle.lqd.specs.Promises.{Apart, TakesEveryList, PlacesStayApart}
use Rattle.lqd.proofs.Sums.{sums_add, sums_same, sums_le, sums_zero, sums_one, sums_one_past, one_here, one_other, one_small, all_or_some, in_all_none, in_all_more}
use Rattle.lqd.proofs.Queues.{lowered, at, same_queue, other_queue, joined_at, without_at, heads_at, empty_at}
use Rattle.lqd.proofs.Steps.{Sound, outcome, by_loser, run_sound}

-- a cell lies at one place at most
one_place : (b k : ℕ) → in_all b (one k) ≤ 1
one_place b k = ⊎_elim (λ (h : k < b). omega (arith, sums_one b k h)) (λ (h : b ≤ k). omega (arith, sums_one_past b k h)) (cases_lt k b)

queue_places : (b : ℕ) (q : List Held) → in_all b (λ x. at x q) ≤ length q
queue_places b [] = omega (arith, sums_zero b)
queue_places b (cell ∷ q) =
    let split : in_all b (λ x. at x (cell ∷ q)) ≡ in_all b (λ x. one cell.place x + at x q) = sums_same b _ _ (λ x l. sum_by-cons (λ cell. cond (eqb x cell.place) 1 0) cell q) in
    omega (arith, sums_add b (one cell.place) (λ x. at x q), one_place b cell.place, queue_places b q)

-- no more cells lie at the b places than are held
all_places : (b : ℕ) (queues : List (List Held)) → in_all b (cells_at queues) ≤ sum_by length queues
all_places b [] = omega (arith, sums_zero b)
all_places b (q ∷ queues) =
    let split : in_all b (cells_at (q ∷ queues)) ≡ in_all b (λ x. at x q + cells_at queues x) = sums_same b _ _ (λ x l. sum_by-cons (at x) q queues) in
    omega (arith, sums_add b (λ x. at x q) (cells_at queues), queue_places b q, all_places b queues, sum_by-cons (length {A = Held}) q queues)

-- the cells of a list of queues, port by port
all_held : (n : ℕ) (queues : List (List Held)) → length queues ≡ n → in_all n (λ p. length (get_or queues p [])) ≡ sum_by length queues
unfolding in_all
all_held n queues long =
    ap sum (sym (fill_by_all (λ p. length (get_or queues p [])) (map length queues) n 0 (length-map queues length ∙ long) (λ p l. get_or-map length queues p [] 0 (omega (arith, long))))) ∙ sum-map length queues

in_all_ones : (n : ℕ) → in_all n (λ p. 1) ≡ n
in_all_ones zero = in_all_none (λ p. 1)
in_all_ones (suc n) = in_all_more n (λ p. 1) ∙ omega (arith, in_all_ones n)

-- where fewer than b cells are held, one of the b places is free
free_place : (n b : ℕ) (queues : List (List Held)) → length queues ≡ n → in_all n (λ p. length (get_or queues p [])) < b → (x : ℕ) × Free b queues x
free_place n b queues long few = ⊎_elim
    (λ (all : (x : ℕ) → x < b → 1 ≤ cells_at queues x). absurd (let bad : ⊥ = omega (arith, sums_le b (λ x. 1) (cells_at queues) all, in_all_ones b, all_places b queues, all_held n queues long) in bad))
    (λ (some : (x : ℕ) × (x < b) × (cells_at queues x < 1)). (some.0, (some.1, omega (arith, some.2))))
    (all_or_some b (λ x. 1) (cells_at queues))

-- x is a place for the cell that arrives for port k, by who loses
abbrev Vacant : {R : Type 0} → State R → ℕ → ℕ → Option ℕ → Type 0
Vacant s k x o = elim o [ None ↦ Free s.cells s.queues x | Some v ↦ (v ≡ k → ⊥) → Free s.cells (without_tail s.queues v) x ]

-- a cell joins queues in which its place is free
apart_joined : (b : ℕ) (queues : List (List Held)) (k : ℕ) (c : Held) → k < length queues → Free b queues c.place → Apart b queues → Apart b (set queues k (get_or queues k [] ++ c ∷ []))
apart_joined b queues k c l free apart = record {
  own = λ x. ⊎_elim
      (λ (e : x ≡ c.place). omega (arith, joined_at queues k c x l, ap (cells_at queues) e, free.1, one_small c.place x))
      (λ (ne : x ≡ c.place → ⊥). omega (arith, joined_at queues k c x l, one_other c.place x ne, apart.own x))
      (cases_eq x c.place);
  below = λ x h. omega (arith, joined_at queues k c x l, one_other c.place x (λ e. omega (arith, free.0)), apart.below x h);
}

-- queues that have no more cells anywhere
apart_fewer : (b : ℕ) (queues fewer : List (List Held)) → ((x : ℕ) → cells_at fewer x ≤ cells_at queues x) → Apart b queues → Apart b fewer
apart_fewer b queues fewer less apart = record { own = λ x. omega (arith, less x, apart.own x); below = λ x h. omega (arith, less x, apart.below x h) }

module _ {R : Type 0} (n b : ℕ) where
  -- the loser, if it is another port than that of the arriving cell, gives up a place
  place_given : (s : State R) (k v : ℕ) → Sound n b s → k < n → v < n → counted_length s k k ≤ counted_length s k v → (x : ℕ) × ((v ≡ k → ⊥) → Free s.cells (without_tail s.queues v) x)
  place_given s k v sound port loses longest = ⊎_elim
      (λ (same : v ≡ k). (0, λ ne. absurd (ne same)))
      (λ (ne : v ≡ k → ⊥).
      let q : List Held = get_or s.queues v [] in
      let some : 1 ≤ length q = omega (arith, one_here k, one_other k v ne) in
      let shorter : length (take (length q - 1) q) + 1 ≡ length q = omega (arith, length-take (length q - 1) q) in
      let fewer = sums_same n (λ p. length (get_or (without_tail s.queues v) p []) + one v p) (held s) (λ p l. lowered length s.queues v p _ [] (omega (arith, sound.queues)) shorter) in
      let left : ℕ → ℕ = λ p. length (get_or (without_tail s.queues v) p []) in
      let place = free_place n s.cells (without_tail s.queues v) (length-set s.queues v _ ∙ sound.queues) (omega (arith, sound.fits, sound.cells, sums_add n left (one v), sums_one n v loses)) in
      (place.0, λ apart. place.1))
      (cases_eq v k)

  -- a cell joins queue k, and another queue loses its tail, or the cell itself is lost
  apart_lost : (s : State R) (k v x : ℕ) → Sound n b s → k < n → v < n → ((v ≡ k → ⊥) → Free s.cells (without_tail s.queues v) x) → Apart b s.queues → Apart b (without_tail (enqueued s k x).queues v)
  apart_lost s k v x sound port loses free apart =
      let cell : Held = record { place = x; period = s.period } in
      let joins : k < length s.queues = omega (arith, sound.queues) in
      ⊎_elim
      (λ (e : v ≡ k). subst (Apart b) (sym (same_queue s.queues k v cell joins e)) apart)
      (λ (ne : v ≡ k → ⊥).
      let fewer : Apart b (without_tail s.queues v) = apart_fewer b s.queues (without_tail s.queues v) (λ y. without_at s.queues v y (omega (arith, sound.queues))) apart in
      subst (Apart b) (sym (other_queue s.queues k v cell joins ne))
      (apart_joined b (without_tail s.queues v) k cell (omega (arith, length-set s.queues v (take (length (get_or s.queues v []) - 1) (get_or s.queues v [])))) (subst (λ c. Free c (without_tail s.queues v) x) sound.cells (free ne)) fewer))
      (cases_eq v k)

module _ {R : Type 0} (meaning : Meaning R) (law : Lawful meaning.picks) (n b : ℕ) (few : n ≤ 256) where
  -- whatever port a cell arrives for, there is a place for it
  place_for : (s : State R) (k : ℕ) → Sound n b s → k < n → (x : ℕ) × PlaceFor meaning s k x
  place_for s k sound port =
      by_loser meaning law n b few s k sound (omega (arith, sound.ports)) (λ o. (x : ℕ) × Vacant s k x o)
      (λ room. free_place n s.cells s.queues sound.queues (omega (arith, sound.cells)))
      (λ v full loses longest. place_given n b s k v sound port loses (longest k port))

  taken : (rule : R) (es : List Event) → AllByRecursion (ForPorts n) es → (s : State R) × Run meaning rule n b es s
  taken rule [] all = (opened rule n b, begins refl)
  taken rule (arrival k ∷ es) all =
      let before = taken rule es all.1 in
      let s : State R = before.0 in
      let sound = run_sound meaning law n b few before.1 in
      let place = place_for s k sound all.0 in
      (arrive meaning s k place.0, goes before.1 (record { port = omega (arith, sound.ports, all.0); place = place.0; free = place.1; gives = refl }))
  taken rule (tick ∷ es) all = let before = taken rule es all.1 in (ticked before.0, goes before.1 refl)

  apart_arrival : (s : State R) (k x : ℕ) → Sound n b s → k < s.ports → PlaceFor meaning s k x → Apart b s.queues → Apart b (arrive meaning s k x).queues
  unfolding arrive
  apart_arrival s k x sound own free apart =
      let port : k < n = omega (arith, sound.ports) in
      by_loser meaning law n b few s k sound own (λ o. Vacant s k x o → Apart b (outcome meaning s k x o).queues)
      (λ room free. apart_joined b s.queues k _ (omega (arith, sound.queues)) (subst (λ c. Free c s.queues x) sound.cells free) apart)
      (λ v full loses longest free. apart_lost n b s k v x sound port loses free apart)
      free

  apart_step : (e : Event) (s t : State R) → Sound n b s → Step meaning s e t → Apart b s.queues → Apart b t.queues
  unfolding ticked
  apart_step (arrival k) s t sound step apart = subst (λ t. Apart b t.queues) (sym step.gives) (apart_arrival s k step.place sound step.port step.free apart)
  apart_step tick s t sound step apart = subst (λ t. Apart b t.queues) (sym step) (apart_fewer b s.queues (map (drop 1) s.queues) (heads_at s.queues) apart)

  apart_run : {rule : R} {es : List Event} {s : State R} → Run meaning rule n b es s → Apart b s.queues
  apart_run (begins start) = subst (λ s. Apart b s.queues) (sym start) (record { own = λ x. omega (arith, empty_at n x); below = λ x h. empty_at n x })
  apart_run (goes {e = e} {s = s} {t = t} run step) = apart_step e s t (run_sound meaning law n b few run) step (apart_run run)

pub takes_every_list_lem : {R : Type 0} (meaning : Meaning R) → Lawful meaning.picks → TakesEveryList meaning
takes_every_list_lem meaning law rule n b few es all = taken meaning law n b few rule es all

pub places_stay_apart_lem : {R : Type 0} (meaning : Meaning R) → Lawful meaning.picks → PlacesStayApart meaning
places_stay_apart_lem meaning law rule n b few es s run = apart_run meaning law n b few run
