-- Going round the ports from a start: the step at which a port comes is its distance, so the first marked port that comes is the nearest. Assumes nothing.
use Rattle.std.proofs.Common.{◌≡◌, ℕ, ◌+◌, ◌-◌, ◌%◌, ◌<◌, ◌≤◌, Bool, true, false, List, length, map, get_or, Some, None, Option, sym, ap, ◌∙◌, subst, mod-lt, mod-eq_of_lt, ⊎_elim, refl, arith}
use native.Mathlib.Nat.{mod-add-mod, add-mod-mod, add-mod_right}
use Rattle.std.specs.List.{range_with_len, AllWithin, HoldsAt}
use Rattle.std.specs.Option.{MatchOption, SomeIff, unwrap_or}
use Rattle.std.proofs.lemmas.Bool.{both_ways, cases_lt}
use Rattle.std.proofs.lemmas.List.FromFn.{length-map-range_with_len, get_or-map-range_with_len}
use Rattle.tie.specs.declared.candidate.Candidate.{Candidate}
use Rattle.tie.specs.Candidates.{that_count, is_marked}
use Rattle.tie.specs.Rules.{least_marked, Chosen, distance, GoesRound}
use Rattle.tie.specs.Picking.{Best, Sofar, counts}
use Rattle.tie.proofs.Searching.{not_less, not_below, best_by, Finds, finds_none, finds_some}

-- the port that comes at a step, going round n ports from s
abbrev pub turn : ℕ → ℕ → ℕ → ℕ
turn n s step = (s % n + step) % n

module _ (n s : ℕ) where
  -- a port comes at the step that is its distance
  turn_distance : (q : ℕ) → q < n → turn n s (distance n s q) ≡ q
  turn_distance q l =
      let small : s % n < n = mod-lt s (omega arith) in
      let around : s % n + (q + (n - s % n)) ≡ q + n = omega arith in
      add-mod-mod (s % n) (q + (n - s % n)) n ∙ ap (λ k. k % n) around ∙ add-mod_right q n ∙ mod-eq_of_lt l

  -- the distance of the port that comes at a step is that step
  distance_turn : (step : ℕ) → step < n → distance n s (turn n s step) ≡ step
  distance_turn step l =
      let small : s % n < n = mod-lt s (omega arith) in
      let around : s % n + step + (n - s % n) ≡ step + n = omega arith in
      mod-add-mod (s % n + step) n (n - s % n) ∙ ap (λ k. k % n) around ∙ add-mod_right step n ∙ mod-eq_of_lt l

  pub goes_round : GoesRound n s
  goes_round = record {
    below = λ p l. mod-lt (p + (n - s % n)) (omega arith);
    there = λ p l. sym (mod-add-mod s n (distance n s p)) ∙ turn_distance p l;
    only = λ p d l h e. sym (distance_turn d h) ∙ ap (distance n s) (mod-add-mod s n d ∙ e);
  }

-- the turns from a start below n, as `checked_rem` gives it
pub turns : (o : Option ℕ) (n s : ℕ) → SomeIff o (0 < n) (s % n) → map (λ step. (unwrap_or o 0 + step) % n) (range_with_len 0 n) ≡ map (turn n s) (range_with_len 0 n)
turns None n s none =
    let empty : 0 ≡ n = omega (arith, not_less 0 n none) in
    subst (λ k. map (λ step. (0 + step) % k) (range_with_len 0 k) ≡ map (turn k s) (range_with_len 0 k)) empty refl
turns (Some x) n s is = ap (λ start. map (λ step. (start + step) % n) (range_with_len 0 n)) is.1

-- r is the first of these ports that passes the test m, or `None` where none does
abbrev pub First : (ℕ → Bool) → List ℕ → Option ℕ → Type 0
First m ports r = MatchOption r (AllWithin (λ p. m p ≡ false) ports 0 (length ports)) (λ p. m p ≡ true × (k : ℕ) × k < length ports × HoldsAt (λ q. q ≡ p) ports k × AllWithin (λ q. m q ≡ false) ports 0 k)

-- a test of n ports, which are asked in turn, going round from s
module _ (m : ℕ → Bool) (n s : ℕ) where
  abbrev pub Fails : ℕ → Type 0
  Fails p = m p ≡ false

  abbrev pub round : List ℕ
  round = map (turn n s) (range_with_len 0 n)

  came : (d : ℕ) → d < n → get_or round d 0 ≡ turn n s d
  came d l = get_or-map-range_with_len (turn n s) 0 n d d 0 l (omega arith)

  -- a port has failed whose turn came before that of the first that passes
  failed : (step q : ℕ) → AllWithin Fails round 0 step → q < n → distance n s q < step → Fails q
  failed step q before l h =
      subst Fails (came (distance n s q) ((goes_round n s).below q l) ∙ turn_distance n s q l) (before (distance n s q) 0 (omega arith) h)

  -- the first that passes is the nearest of those that pass
  first_is_nearest : (step : ℕ) → step < n → m (turn n s step) ≡ true → AllWithin Fails round 0 step → Best m (distance n s) n (turn n s step)
  first_is_nearest step at here before =
      let own : distance n s (turn n s step) ≡ step = distance_turn n s step at in
      let port : turn n s step < n = mod-lt (s % n + step) (omega arith) in
      let later : (q : ℕ) → q < n → m q ≡ true → step ≤ distance n s q = λ q l t. not_less (distance n s q) step (λ h. both_ways (m q) (failed step q before l h) t) in
      best_by m (distance n s) n (turn n s step) port here (λ q l t. omega (arith, later q l t)) (λ q h t. ⊎_elim
      (λ (l : step < distance n s q). omega arith)
      (λ (l : distance n s q ≤ step). let same : turn n s step ≡ q = ap (turn n s) (omega (arith, later q (omega arith) t)) ∙ turn_distance n s q (omega arith) in absurd (omega arith))
      (cases_lt step (distance n s q)))

  -- so what a search finds in turn is the nearest
  pub nearest : (r : Option ℕ) → First m round r → Sofar m (distance n s) n r
  nearest None f = λ q l. failed (length round) q f l (omega (arith, length-map-range_with_len (turn n s) 0 n, (goes_round n s).below q l))
  nearest (Some p) (here, step, l, at, before) =
      let within : step < n = omega (arith, length-map-range_with_len (turn n s) 0 n) in
      let same : turn n s step ≡ p = sym (came step within) ∙ at 0 in
      subst (Best m (distance n s) n) same (first_is_nearest step within (subst (λ q. m q ≡ true) (sym same) here) before)

-- a loop that goes round the n candidates that count, and stops at the first that is marked
module _ (cs : List Candidate) (n s : ℕ) (all : n ≡ length (that_count cs)) where
  -- a marked port comes at its distance
  comes : (q : ℕ) → is_marked cs q ≡ true → is_marked cs (turn n s (distance n s q)) ≡ true
  comes q t = subst (λ k. is_marked cs k ≡ true) (sym (turn_distance n s q (omega (arith, counts cs q t)))) t

  -- the marked port that comes first is chosen
  chosen_turn : (step port : ℕ) → step < n → port ≡ turn n s step → is_marked cs port ≡ true → ((d : ℕ) → d < step → is_marked cs (turn n s d) ≡ false) → Chosen (distance n s) cs port
  chosen_turn step port l at e before =
      let own : distance n s port ≡ step = ap (distance n s) at ∙ distance_turn n s step l in
      let later : (q : ℕ) → is_marked cs q ≡ true → step ≤ distance n s q = λ q t. not_below (λ d. is_marked cs (turn n s d)) step before (distance n s q) (comes q t) in
      record {
        some = λ q t. e;
        none = λ h. absurd (both_ways (is_marked cs port) (h port) e);
        least = λ q t. omega (arith, own, later q t);
        first = λ q t k. let same : port ≡ q = at ∙ ap (turn n s) (sym own ∙ sym k) ∙ turn_distance n s q (omega (arith, counts cs q t)) in omega arith;
      }

  -- an answer to a search by distance, as a contract states it
  abbrev pub Comes : Option ℕ → Type 0
  Comes r = let k = length (that_count cs) in record { value : r ≡ least_marked (distance k s) cs; law : Chosen (distance k s) cs (unwrap_or r 256); round : GoesRound k s }

  as_comes : (r : Option ℕ) → Finds (distance n s) cs r → Comes r
  as_comes r h =
      let found = subst (λ k. Finds (distance k s) cs r) all h in
      record { value = found.value; law = found.law; round = goes_round (length (that_count cs)) s }

  -- the marked port that comes first is found
  pub comes_some : (step port : ℕ) → step < n → port ≡ turn n s step → is_marked cs port ≡ true → ((d : ℕ) → d < step → is_marked cs (turn n s d) ≡ false) → Comes (Some port)
  comes_some step port l at e before = as_comes (Some port) (finds_some (distance n s) cs port e (chosen_turn step port l at e before))

  -- where no port that comes is marked, none is
  pub comes_none : ((d : ℕ) → d < n → is_marked cs (turn n s d) ≡ false) → Comes None
  comes_none never = as_comes None (finds_none (distance n s) cs (λ q t.
      both_ways (is_marked cs (turn n s (distance n s q))) (never (distance n s q) ((goes_round n s).below q (omega (arith, counts cs q t)))) (comes q t)))
