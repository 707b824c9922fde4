-- A layer of sheltering keeps the law of the rule below it. Assumes nothing.
use Rattle.std.specs.Prelude.{◌≡◌, ℕ, ◌+◌, ◌<◌, ◌≤◌, Bool, true, false, cond, not, ◌&&◌, List, [], ◌∷◌, ◌||◌, length, slice_index_or, count_by, nat_lt, refl}
use Rattle.std.proofs.Common.{sym, ◌∙◌, ⊎_elim, arith}
use Rattle.std.proofs.Math.Path.{ap}
use Rattle.std.specs.List.{range_with_len, list_any}
use Rattle.std.proofs.lemmas.List.Folds.{list_any_at, list_any_none}
use Rattle.std.proofs.lemmas.List.FromFn.{length-range_with_len, get_or-range_with_len, length-map-range_with_len, get_or-map-range_with_len}
use Rattle.std.proofs.lemmas.List.{take_all, take-take, get_or_past}
use Rattle.std.proofs.lemmas.List.Sums.{sum_by_from}
use Rattle.std.proofs.lemmas.Bool.{cases_Bool, cases_lt, both_ways, lt-ltb, and_parts}
use Rattle.tie.specs.declared.candidate.Candidate.{Candidate}
use Rattle.tie.specs.Candidates.{that_count, nobody, is_marked}
use Rattle.tie.specs.Rules.{Lawful}
use Rattle.tie.specs.Sheltered.{is_sheltered, exposed, exposes, unmarked, handed_down, layered}
use Rattle.tie.specs.Picking.{refuted, few}

-- one passes, or none is counted
pub any_counted : {X : Type 0} (f : X → Bool) (xs : List X) → list_any f xs ≡ nat_lt 0 (count_by f xs)
any_counted f [] = refl
any_counted {X} f (x ∷ xs) = ap (λ (b : Bool). f x || b) (any_counted f xs) ∙ both (f x) (count_by f xs) ∙ ap (nat_lt 0) (sym (sum_by_from (λ (y : X). cond (f y) 1 0) (0 + cond (f x) 1 0) xs))
  where
    both : (b : Bool) (n : ℕ) → (b || nat_lt 0 n) ≡ nat_lt 0 (0 + cond b 1 0 + n)
    both true n = sym (lt-ltb 0 (1 + n) (omega arith))
    both false n = ap (λ k. nat_lt 0 k) (omega arith)

-- a port that passes is counted
some_counted : (f : ℕ → Bool) (n p : ℕ) → p < n → f p ≡ true → nat_lt 0 (count_by f (range_with_len 0 n)) ≡ true
some_counted f n p l e = sym (any_counted f (range_with_len 0 n)) ∙ list_any_at f (range_with_len 0 n) p 0 (omega (arith, length-range_with_len 0 n)) (ap f (get_or-range_with_len 0 n p 0 l ∙ omega arith) ∙ e)

none_counted : (f : ℕ → Bool) (n : ℕ) → ((p : ℕ) → p < n → f p ≡ false) → nat_lt 0 (count_by f (range_with_len 0 n)) ≡ false
none_counted f n h = sym (any_counted f (range_with_len 0 n)) ∙ list_any_none f (range_with_len 0 n) (λ k d l. let within : k < n = omega (arith, length-range_with_len 0 n) in ap f (get_or-range_with_len 0 n k d within ∙ omega arith) ∙ h k within)

-- of the candidates that count all count
marked_counted : (cs : List Candidate) (p : ℕ) → is_marked (that_count cs) p ≡ is_marked cs p
marked_counted cs p = ap (λ (l : List Candidate). (slice_index_or l p nobody).marked) (take-take 256 256 cs (omega arith))

module _ (table : List Bool) (cs : List Candidate) where
  -- an exposed port that counts exposes the candidates
  pub exposes_some : (p : ℕ) → p < length (that_count cs) → exposed table cs p ≡ true → exposes table cs ≡ true
  exposes_some = some_counted (exposed table cs) (length (that_count cs))

  pub exposes_none : ((p : ℕ) → p < length (that_count cs) → exposed table cs p ≡ false) → exposes table cs ≡ false
  exposes_none = none_counted (exposed table cs) (length (that_count cs))

  length-unmarked : length (unmarked table cs) ≡ length (that_count cs)
  length-unmarked = length-map-range_with_len _ 0 (length (that_count cs))

  exposed_past : (p : ℕ) → length (that_count cs) ≤ p → exposed table cs p ≡ false
  exposed_past p h = ap (λ (c : Candidate). c.marked && not (is_sheltered table p)) (get_or_past (that_count cs) p nobody h)

  -- where the sheltered ports are unmarked, the exposed ones are marked
  marked_unmarked : (p : ℕ) → is_marked (unmarked table cs) p ≡ exposed table cs p
  marked_unmarked p =
      let whole : that_count (unmarked table cs) ≡ unmarked table cs = take_all 256 (unmarked table cs) (omega (arith, length-unmarked, few cs)) in
      ap (λ (l : List Candidate). (slice_index_or l p nobody).marked) whole ∙ ⊎_elim
      (λ (h : p < length (that_count cs)). ap (λ (c : Candidate). c.marked) (get_or-map-range_with_len _ 0 (length (that_count cs)) p p nobody h (omega arith)))
      (λ (h : length (that_count cs) ≤ p). ap (λ (c : Candidate). c.marked) (get_or_past (unmarked table cs) p nobody (omega (arith, length-unmarked))) ∙ sym (exposed_past p h))
      (cases_lt p (length (that_count cs)))

module _ {R : Type 0} (picks : R → List Candidate → ℕ) (law : Lawful picks) where
  -- what the rule below picks from the candidates that go down; b says whether the sheltered ones are unmarked
  module _ (rule : R) (table : List Bool) (cs : List Candidate) where
    -- where a port is exposed, an exposed port is picked
    pub picks_exposed : exposes table cs ≡ true → exposed table cs (picks rule (unmarked table cs)) ≡ true
    picks_exposed some = ⊎_elim
        (λ (h : is_marked (unmarked table cs) (picks rule (unmarked table cs)) ≡ true). sym (marked_unmarked table cs _) ∙ h)
        (λ (h : is_marked (unmarked table cs) (picks rule (unmarked table cs)) ≡ false).
        let hidden : (q : ℕ) → q < length (that_count cs) → exposed table cs q ≡ false = λ q l. refuted _ (λ t. both_ways _ h (law.some rule (unmarked table cs) q (marked_unmarked table cs q ∙ t))) in
        absurd (both_ways (exposes table cs) (exposes_none table cs hidden) some))
        (cases_Bool (is_marked (unmarked table cs) (picks rule (unmarked table cs))))

    below_some : (p : ℕ) → is_marked cs p ≡ true → (b : Bool) → exposes table cs ≡ b → is_marked cs (picks rule (cond b (unmarked table cs) (that_count cs))) ≡ true
    below_some p e true some = (and_parts _ _ (picks_exposed some)).0
    below_some p e false none = sym (marked_counted cs _) ∙ law.some rule (that_count cs) p (marked_counted cs p ∙ e)

    below_none : ((p : ℕ) → is_marked cs p ≡ false) → (b : Bool) → picks rule (cond b (unmarked table cs) (that_count cs)) ≡ 256
    below_none h true = law.none rule (unmarked table cs) (λ p. marked_unmarked table cs p ∙ ap (λ b. b && not (is_sheltered table p)) (h p))
    below_none h false = law.none rule (that_count cs) (λ p. marked_counted cs p ∙ h p)

  -- a layer over a lawful rule is lawful
  pub layered_lawful : Lawful (layered picks)
  unfolding handed_down
  layered_lawful = record {
    some = λ layer cs p e. below_some layer.rule layer.shelters.sheltered cs p e _ refl;
    none = λ layer cs h. below_none layer.rule layer.shelters.sheltered cs h _;
  }
