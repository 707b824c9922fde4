-- The worked runs, by computing; and one of them under any rule, which shows that a schedule can send more than the switch. Assumes nothing.
use Rattle.std.proofs.Common.{◌≡◌, ℕ, zero, suc, ◌+◌, ◌<◌, ◌≤◌, Bool, true, false, cond, not, ◌&&◌, leb, List, [], ◌∷◌, get_or, Some, sym, refl, ap, ◌∙◌, arith}
use Rattle.std.proofs.lemmas.Bool.{ne_eqb, leb-true, and_parts}
use Rattle.tie.specs.declared.candidate.Candidate.{Candidate}
use Rattle.tie.specs.declared.lowest_port.LowestPort.{LowestPort}
use Rattle.tie.specs.declared.oldest_head.OldestHead.{OldestHead}
use Rattle.tie.specs.declared.rotating.Rotating.{Rotating}
use Rattle.tie.specs.declared.sheltering.Sheltering.{Sheltering}
use Rattle.tie.specs.Rules.{Lawful, OnlyMarked, least_marked, lowest, nearest, turned, oldest}
use Rattle.tie.specs.Sheltered.{handed_down, layered, told_below}
use Rattle.tie.specs.Picking.{lawful_only}
use Rattle.lqd.specs.Ports.{in_all, greatest, one}
use Rattle.lqd.specs.Events.{Event, arrival, tick, begins, goes}
use Rattle.lqd.specs.LongestQueueDrop.{Meaning, State, opened, held, lost_by, candidates, enqueued, pushed_out, sent_in_all, loser, arrive, ticked}
use Rattle.lqd.specs.Schedules.{Stock, AtFirst, Schedule}
use Rattle.lqd.specs.Promises.{NotAlwaysBest}
use Rattle.lqd.specs.WorkedRuns.{in_order, four_each, four_each_and_ticks, WorkedRuns}
use Rattle.lqd.proofs.Steps.{outcome}
use Rattle.lqd.proofs.Placing.{takes_every_list_lem}
use Rattle.lqd.proofs.Replaying.{replayed, losses_in, replays}

-- what holds of ports 0 and 1 holds of both ports
both : (P : ℕ → Type 0) → P 0 → P 1 → (p : ℕ) → p < 2 → P p
both P zeroth first zero l = zeroth
both P zeroth first (suc zero) l = first
both P zeroth first (suc (suc p)) l = absurd (omega arith)

-- a schedule of two ports
two : ℕ → ℕ → ℕ → Stock
two h₀ h₁ sent = record { held = λ p. get_or (h₀ ∷ h₁ ∷ []) p 0; sent = sent }

nothing : AtFirst 2 (two 0 0 0)
unfolding two
nothing = record { held = both (λ p. get_or (0 ∷ 0 ∷ []) p 0 ≡ 0) refl refl; sent = refl }

-- what may be held after an arrival for port k, as a test
may : ℕ → ℕ → ℕ → ℕ → ℕ → Bool
may k h₀ h₁ g₀ g₁ = leb g₀ (h₀ + one k 0) && (leb g₁ (h₁ + one k 1) && leb (g₀ + g₁) 4)

module _ {es : List Event} where
  -- from h₀ and h₁ cells to g₀ and g₁, at an arrival
  comes : (k h₀ h₁ g₀ g₁ sent : ℕ) → may k h₀ h₁ g₀ g₁ ≡ true → Schedule 2 4 es (two h₀ h₁ sent) → Schedule 2 4 (arrival k ∷ es) (two g₀ g₁ sent)
  unfolding in_all two may
  comes k h₀ h₁ g₀ g₁ sent test before =
      let fits = and_parts _ _ test in
      let rest = and_parts _ _ fits.1 in
      goes before (record {
        held = both (λ p. get_or (g₀ ∷ g₁ ∷ []) p 0 ≤ get_or (h₀ ∷ h₁ ∷ []) p 0 + one k p) (leb-true _ _ fits.0) (leb-true _ _ rest.0);
        room = omega (arith, leb-true _ _ rest.1);
        sent = refl;
      })

  -- both ports send
  ticks : (h₀ h₁ sent : ℕ) → Schedule 2 4 es (two (suc h₀) (suc h₁) sent) → Schedule 2 4 (tick ∷ es) (two h₀ h₁ (sent + 2))
  unfolding in_all two
  ticks h₀ h₁ sent before = goes before (record {
    sends = λ p. 1;
    once = λ p l. omega arith;
    held = both (λ p. get_or (h₀ ∷ h₁ ∷ []) p 0 + 1 ≤ get_or (suc h₀ ∷ suc h₁ ∷ []) p 0) (omega arith) (omega arith);
    sent = refl;
  })

-- three cells for port 0 and one for port 1 are taken
keeps_three : Schedule 2 4 (in_order four_each) (two 3 1 0)
unfolding may
keeps_three =
    comes 1 3 1 3 1 0 refl (comes 1 3 1 3 1 0 refl (comes 1 3 1 3 1 0 refl (comes 1 3 0 3 1 0 refl
    (comes 0 3 0 3 0 0 refl (comes 0 2 0 3 0 0 refl (comes 0 1 0 2 0 0 refl (comes 0 0 0 1 0 0 refl (begins nothing))))))))

-- and then all that come
sends_six : Schedule 2 4 (in_order four_each_and_ticks) (two 0 0 6)
unfolding may
sends_six = ticks 0 0 4 (comes 1 1 0 1 1 4 refl (ticks 1 0 2 (comes 1 2 0 2 1 2 refl (ticks 2 0 0 keeps_three))))

-- the meanings of the rules
abbrev pub unmoved : {R : Type 0} → R → ℕ → R
unmoved rule v = rule

abbrev by_lowest : Meaning LowestPort
by_lowest = record { LETTER = 76; picks = lowest; after = unmoved }

abbrev by_rotating : Meaning Rotating
by_rotating = record { LETTER = 82; picks = nearest; after = turned }

abbrev by_oldest : Meaning OldestHead
by_oldest = record { LETTER = 79; picks = oldest; after = unmoved }

abbrev by_layer : Meaning (Sheltering LowestPort)
by_layer = record { LETTER = 76; picks = layered lowest; after = told_below unmoved }

pub worked : WorkedRuns by_lowest by_rotating by_oldest by_layer
unfolding in_all greatest least_marked handed_down loser arrive ticked replayed losses_in two may comes ticks keeps_three sends_six
worked = record {
  lowest_port = λ rule s run. (replays _ _ _ _ run).loses;
  rotating = λ s run. (replays _ _ _ _ run).loses;
  oldest_head = λ rule s run. (replays _ _ _ _ run).loses;
  sheltered = λ rule s run. (replays _ _ _ _ run).loses;
  rotating_is_told = λ s run. (replays _ _ _ _ run).loses;
  tail_is_lost = λ rule s run. (replays _ _ _ _ run).loses;
  head_is_sent = λ rule s run. (replays _ _ _ _ run).loses;
  empty_queue_is_young = λ rule s run. (replays _ _ _ _ run).loses;
  rule_is_given = λ rule s run. ap (λ s. candidates s 1) (replays _ _ _ _ run).state;
  even_split = λ rule s run. let e = (replays _ _ _ _ run).state in (ap (λ s. held s 0) e, ap (λ s. held s 1) e, ap (λ s. lost_by s 0) e, ap (λ s. lost_by s 1) e);
  switch_sends = λ rule s run. ap sent_in_all (replays _ _ _ _ run).state;
  schedule_sends = (two 0 0 6, sends_six, refl, refl, refl);
}

-- two candidates: the first is marked, or the second
abbrev one_of : Bool → List Candidate
one_of first = record { marked = first; stamp = 0 } ∷ record { marked = not first; stamp = 0 } ∷ []

only_one : (first : Bool) → OnlyMarked (one_of first) (cond first 0 1)
only_one true zero = refl
only_one true (suc zero) = refl
only_one true (suc (suc q)) = sym (ne_eqb (suc (suc q)) 0 (λ e. omega arith))
only_one false zero = refl
only_one false (suc zero) = refl
only_one false (suc (suc q)) = sym (ne_eqb (suc (suc q)) 1 (λ e. omega arith))

-- under a rule that keeps the law
module _ {R : Type 0} (meaning : Meaning R) (law : Lawful meaning.picks) where
  picks_one : (first : Bool) (rule : R) → meaning.picks rule (one_of first) ≡ cond first 0 1
  picks_one first rule = lawful_only meaning.picks law rule (one_of first) (cond first 0 1) (only_one first)

  loses_to : (s : State R) (k x v : ℕ) → loser meaning s k ≡ Some v → arrive meaning s k x ≡ pushed_out meaning (enqueued s k x) v
  unfolding arrive
  loses_to s k x v e = ap (outcome meaning s k x) e

  -- a cell for port 1 arrives, and port v loses one
  abbrev loses : ℕ → State R → ℕ → State R
  loses v s x = pushed_out meaning (enqueued s 1 x) v

  -- a cell arrives for port k
  abbrev comes_to : ℕ → State R → ℕ → State R
  comes_to k s x = arrive meaning s k x

  module _ (rule : R) (a b c d : ℕ) where
    -- port 0 holds 4 cells
    four : State R
    four = comes_to 0 (comes_to 0 (comes_to 0 (comes_to 0 (opened rule 2 4) a) b) c) d

    -- no two queues are longest, so every rule picks the same
    splits : (e f g h : ℕ) → comes_to 1 (comes_to 1 (comes_to 1 (comes_to 1 four e) f) g) h ≡ loses 1 (loses 1 (loses 0 (loses 0 four e) f) g) h
    unfolding in_all greatest loser arrive four
    splits e f g h =
        ap (λ s. comes_to 1 (comes_to 1 (comes_to 1 s f) g) h) (loses_to four 1 e 0 (ap (λ v. Some v) (picks_one true _))) ∙
        ap (λ s. comes_to 1 (comes_to 1 s g) h) (loses_to (loses 0 four e) 1 f 0 (ap (λ v. Some v) (picks_one true _))) ∙
        ap (λ s. comes_to 1 s h) (loses_to (loses 0 (loses 0 four e) f) 1 g 1 (ap (λ v. Some v) (picks_one false _))) ∙
        loses_to (loses 1 (loses 0 (loses 0 four e) f) g) 1 h 1 (ap (λ v. Some v) (picks_one false _))

    sends_five : (e f g h i j : ℕ) → sent_in_all (ticked (comes_to 1 (ticked (comes_to 1 (ticked (comes_to 1 (comes_to 1 (comes_to 1 (comes_to 1 four e) f) g) h)) i)) j)) ≡ 5
    unfolding in_all greatest loser arrive ticked four
    sends_five e f g h i j = ap (λ s. sent_in_all (ticked (comes_to 1 (ticked (comes_to 1 (ticked s) i)) j))) (splits e f g h)

  pub not_always_best_lem : R → NotAlwaysBest meaning
  unfolding two replayed four
  not_always_best_lem rule always =
      let taken = takes_every_list_lem meaning law rule 2 4 (omega arith) (in_order four_each_and_ticks) (omega arith) in
      let replay = replays meaning rule 2 4 taken.1 in
      let five : sent_in_all taken.0 ≡ 5 = ap sent_in_all replay.state ∙ sends_five rule _ _ _ _ _ _ _ _ _ _ in
      let six = always rule 2 4 (omega arith) (in_order four_each_and_ticks) taken.0 (two 0 0 6) taken.1 sends_six 0 in
      omega arith
