-- The marked port with the smallest key: `least_marked` is it, so a rule that picks by a key keeps the law. Assumes nothing.
use Rattle.std.specs.Prelude.{◌≡◌, ℕ, zero, suc, ◌+◌, ◌<◌, ◌≤◌, Bool, true, false, cond, List, [], ◌∷◌, ◌++◌, length, Some, None, fold, filter, Option, ◌≢◌, nat_lt, refl}
use Rattle.std.proofs.Math.Path.{sym, ap, subst}
use Rattle.std.proofs.Common.{◌∙◌, ⊎_elim, append-nil, add-one, arith, below_more}
use Rattle.std.specs.List.{range_with_len}
use Rattle.std.specs.Option.{unwrap_or}
use Rattle.std.proofs.lemmas.List.FromFn.{filter_of_map_range_with_len_more}
use Rattle.std.proofs.lemmas.List.{map-id, length-take, get_or_past}
use Rattle.std.proofs.lemmas.List.Sums.{fold_push}
use Rattle.std.proofs.lemmas.Bool.{cases_lt, both_ways, ltb-true, ltb-false, eq-eqb, eqb-true, cond_both}
use Rattle.tie.specs.declared.candidate.Candidate.{Candidate}
use Rattle.tie.specs.Candidates.{that_count, nobody, is_marked, stamp_of}
use Rattle.tie.specs.Rules.{Lawful, smaller, smallest, least_marked, picked, Chosen, distance, lowest, nearest, oldest, OnlyMarked}

-- a test that cannot be passed fails
pub refuted : (b : Bool) → (b ≢ true) → b ≡ false
refuted true h = absurd (h refl)
refuted false h = refl

-- 256 candidates count at most
pub few : (cs : List Candidate) → length (that_count cs) ≤ 256
few cs = simp length-take (omega arith)

-- a marked port counts
pub counts : (cs : List Candidate) (p : ℕ) → is_marked cs p ≡ true → p < length (that_count cs)
counts cs p e = ⊎_elim (λ (h : p < length (that_count cs)). h) (λ (h : length (that_count cs) ≤ p). absurd (both_ways (is_marked cs p) (ap (λ (c : Candidate). c.marked) (get_or_past (that_count cs) p nobody h)) e)) (cases_lt p (length (that_count cs)))

-- of the ports below i, b is the marked one with the smallest key, the lower among equals
pub record Best (m : ℕ → Bool) (key : ℕ → ℕ) (i b : ℕ) : Type 0 where
  pub here : (b < i) × (m b ≡ true)
  pub least : (q : ℕ) → q < i → m q ≡ true → key b ≤ key q
  pub first : (q : ℕ) → q < i → m q ≡ true → key q ≡ key b → b ≤ q

-- the best of the ports below i, if one of them is marked
abbrev pub Sofar : (ℕ → Bool) → (ℕ → ℕ) → ℕ → Option ℕ → Type 0
Sofar m key i None = (q : ℕ) → q < i → m q ≡ false
Sofar m key i (Some b) = Best m key i b

-- the marked ports below i
unfoldable pub ports : (ℕ → Bool) → ℕ → List ℕ
ports m i = filter m (range_with_len 0 i)

pub ports_more : (m : ℕ → Bool) (i : ℕ) → ports m (i + 1) ≡ ports m i ++ cond (m i) (i ∷ []) []
unfolding ports
ports_more m i = simp map-id at (filter_of_map_range_with_len_more m (λ (k : ℕ). k) 0 i i (omega arith))

module _ (m : ℕ → Bool) (key : ℕ → ℕ) where
  -- what is said of the ports below i + 1, from what is said of those below i and of i itself
  split : {P : Type 0} (i q : ℕ) → q < i + 1 → (q < i → P) → (q ≡ i → P) → P
  split i q l below here = ⊎_elim below (λ (h : i ≤ q). here (omega arith)) (cases_lt q i)

  -- port i is not marked
  pub sofar_passes : (i : ℕ) (best : Option ℕ) → Sofar m key i best → m i ≡ false → Sofar m key (i + 1) best
  sofar_passes i None s e = below_more _ _ s e
  sofar_passes i (Some b) s e =
      let unmarked : (q : ℕ) → m q ≡ true → q ≡ i → ⊥ = λ q t h. both_ways (m i) e (subst (λ k. m k ≡ true) h t) in
      record {
        here = (omega (arith, s.here.0), s.here.1);
        least = λ q l t. split i q l (λ below. s.least q below t) (λ h. absurd (unmarked q t h));
        first = λ q l t k. split i q l (λ below. s.first q below t k) (λ h. absurd (unmarked q t h));
      }

  -- the key of port i is not smaller than that of the best
  best_keeps : (i b : ℕ) → Best m key i b → key b ≤ key i → Best m key (i + 1) b
  best_keeps i b s k = record {
    here = (omega (arith, s.here.0), s.here.1);
    least = λ q h e. split i q h (λ below. s.least q below e) (λ here. subst (λ j. key b ≤ key j) (sym here) k);
    first = λ q h e j. split i q h (λ below. s.first q below e j) (λ here. omega (arith, s.here.0));
  }

  -- port i is marked, and its key is smaller than that of every marked port below it
  pub best_takes : (i : ℕ) → m i ≡ true → ((q : ℕ) → q < i → m q ≡ true → key i < key q) → Best m key (i + 1) i
  best_takes i e k = record {
    here = (omega arith, e);
    least = λ q h t. split i q h (λ below. omega (arith, k q below t)) (λ here. subst (λ j. key i ≤ key j) (sym here) (omega arith));
    first = λ q h t j. split i q h (λ below. absurd (omega (arith, k q below t))) (λ here. omega arith);
  }

  -- port i is marked, and so it or the best is the best of both
  pub best_more : (i b : ℕ) → Best m key i b → m i ≡ true → Best m key (i + 1) (smaller key b i)
  best_more i b s e = cond_both (nat_lt (key i) (key b)) i b (Best m key (i + 1))
      (λ t. best_takes i e (λ q h u. omega (arith, ltb-true (key i) (key b) t, s.least q h u)))
      (λ f. best_keeps i b s (ltb-false (key i) (key b) f))

  -- port i is the first that is marked
  pub best_first : (i : ℕ) → Sofar m key i None → m i ≡ true → Best m key (i + 1) i
  best_first i s e = best_takes i e (λ q h t. absurd (both_ways (m q) (s q h) t))

  smallest_push : (i : ℕ) → m i ≡ true → (ps : List ℕ) → Sofar m key i (smallest key ps) → Sofar m key (i + 1) (smallest key (ps ++ i ∷ []))
  smallest_push i e [] s = best_first i s e
  smallest_push i e (p ∷ ps) s = subst (Best m key (i + 1)) (sym (fold_push (smaller key) p ps i)) (best_more i (fold (smaller key) p ps) s e)

  -- the first of the marked ports below i with the smallest key is the best
  sofar_ports : (i : ℕ) → Sofar m key i (smallest key (ports m i))
  unfolding ports
  sofar_ports zero = λ q l. absurd (omega arith)
  sofar_ports (suc i) =
      let before : Sofar m key i (smallest key (ports m i)) = sofar_ports i in
      subst (λ n. Sofar m key n (smallest key (ports m n))) (add-one i)
      (subst (λ ps. Sofar m key (i + 1) (smallest key ps)) (sym (ports_more m i))
      (cond_both (m i) (i ∷ []) [] (λ qs. Sofar m key (i + 1) (smallest key (ports m i ++ qs)))
      (λ e. smallest_push i e (ports m i) before)
      (λ e. subst (λ ps. Sofar m key (i + 1) (smallest key ps)) (sym (append-nil (ports m i))) (sofar_passes i (smallest key (ports m i)) before e))))

-- where no port is marked, 256 is
pub chosen_none : (key : ℕ → ℕ) (cs : List Candidate) → ((q : ℕ) → is_marked cs q ≢ true) → Chosen key cs 256
chosen_none key cs never = record {
  some = λ q t. absurd (never q t);
  none = λ h. refl;
  least = λ q t. absurd (never q t);
  first = λ q t k. absurd (never q t);
}

-- the best of all that count is the one that is chosen
pub chosen_sofar : (key : ℕ → ℕ) (cs : List Candidate) (i : ℕ) (best : Option ℕ) → length (that_count cs) ≤ i → Sofar (is_marked cs) key i best → Chosen key cs (unwrap_or best 256)
chosen_sofar key cs i None all s = chosen_none key cs (λ q t. both_ways (is_marked cs q) (s q (omega (arith, counts cs q t))) t)
chosen_sofar key cs i (Some b) all s = record {
  some = λ q t. s.here.1;
  none = λ h. absurd (both_ways (is_marked cs b) (h b) s.here.1);
  least = λ q t. s.least q (omega (arith, counts cs q t)) t;
  first = λ q t k. s.first q (omega (arith, counts cs q t)) t k;
}

pub sofar_least : (key : ℕ → ℕ) (cs : List Candidate) → Sofar (is_marked cs) key (length (that_count cs)) (least_marked key cs)
unfolding least_marked ports
sofar_least key cs = sofar_ports (is_marked cs) key (length (that_count cs))

-- what is picked by a key is chosen
pub chosen_picked : (key : ℕ → ℕ) (cs : List Candidate) → Chosen key cs (picked key cs)
chosen_picked key cs = chosen_sofar key cs (length (that_count cs)) (least_marked key cs) (omega arith) (sofar_least key cs)

-- a rule that picks by a key keeps the law
pub picked_lawful : {S : Type 0} (key : S → List Candidate → ℕ → ℕ) → Lawful (λ (s : S) cs. picked (key s cs) cs)
picked_lawful key = record {
  some = λ s cs p e. (chosen_picked (key s cs) cs).some p e;
  none = λ s cs h. (chosen_picked (key s cs) cs).none h;
}

pub lowest_lawful : Lawful lowest
lowest_lawful = picked_lawful (λ rule cs p. p)

pub nearest_lawful : Lawful nearest
nearest_lawful = picked_lawful (λ rule cs. distance (length (that_count cs)) rule.start)

pub oldest_lawful : Lawful oldest
oldest_lawful = picked_lawful (λ rule cs. stamp_of cs)

-- a rule that keeps the law picks the only marked port
pub lawful_only : {S : Type 0} (picks : S → List Candidate → ℕ) → Lawful picks → (s : S) (cs : List Candidate) (p : ℕ) → OnlyMarked cs p → picks s cs ≡ p
lawful_only picks law s cs p only =
    let here : is_marked cs p ≡ true = only p ∙ eq-eqb p p refl in
    eqb-true (picks s cs) p (sym (only (picks s cs)) ∙ law.some s cs p here)
