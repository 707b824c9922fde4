-- What the code of a layer of sheltering hands down to the rule below is what its definition says. Assumes nothing.
use Rattle.std.proofs.Common.{◌≡◌, ℕ, ◌+◌, ◌-◌, ◌<◌, ◌≤◌, Bool, true, false, cond, not, ◌&&◌, ◌||◌, List, [], ◌∷◌, map, length, min, get_or, slice_index_or, slice_set, take, sym, ap, ◌∙◌, subst, refl, arith}
use Rattle.std.specs.List.{list_any, range_with_len, zip, enumerate_from}
use Rattle.std.proofs.lemmas.Bool.{both_ways, and_right, and_from, and_parts, not-true, not-false}
use Rattle.std.proofs.Math.Bool.{and-true}
use Rattle.std.proofs.lemmas.List.{take_all, take-take, length-take, length-set, length-take-le, get_or-take, get_or_default, ext_get_or}
use Rattle.std.proofs.lemmas.List.FromFn.{fill_by_all, length-enumerate_from, get_or-enumerate_from}
use Rattle.std.proofs.lemmas.List.Edits.{fill_by_more}
use Rattle.std.proofs.lemmas.Slice.Zip.{get_or-zip, length-zip}
use Rattle.tie.specs.declared.candidate.Candidate.{Candidate}
use Rattle.tie.specs.declared.sheltering.Sheltering.{Sheltering}
use Rattle.tie.specs.Rules.{Lawful}
use Rattle.tie.specs.Candidates.{that_count, nobody, is_marked, stamp_of}
use Rattle.tie.specs.Sheltered.{is_sheltered, exposed, exposes, unmarked, handed_down, layered, Spares}
use Rattle.tie.specs.Picking.{refuted, few, counts}
use Rattle.tie.specs.Layers.{any_counted, exposes_some, picks_exposed}

-- a candidate is marked and its port not sheltered
abbrev pub open_to : Candidate × Bool → Bool
open_to x = x.0.marked && not x.1

list_any-map : {X Y : Type 0} (f : Y → Bool) (g : X → Y) (xs : List X) → list_any f (map g xs) ≡ list_any (λ x. f (g x)) xs
list_any-map f g [] = refl
list_any-map f g (x ∷ xs) = ap (λ b. f (g x) || b) (list_any-map f g xs)

-- a candidate, not marked if it is sheltered
abbrev pub spared : Bool → Candidate → Candidate
spared b c = cond b (record { marked = false; stamp = c.stamp }) c

-- the first i candidates have gone down to a table of 256; b says whether the sheltered ones are unmarked
abbrev pub Down : List Bool → List Candidate → Bool → ℕ → List Candidate → Type 0
Down table cs b i below = (length below ≡ 256) × ((q : ℕ) → q < i → slice_index_or below q nobody ≡ spared (b && is_sheltered table q) (slice_index_or (that_count cs) q nobody))

spared_marked : (b : Bool) (c : Candidate) → spared b c ≡ record { marked = c.marked && not b; stamp = c.stamp }
spared_marked true c = ap (λ (m : Bool). record { marked = m; stamp = c.stamp }) (sym (and_right c.marked false refl))
spared_marked false c = ap (λ (m : Bool). record { marked = m; stamp = c.stamp }) (sym (and-true c.marked))

module _ (table : List Bool) (cs : List Candidate) where
  -- one more candidate goes down
  pub down_more : (b : Bool) (below : List Candidate) (p : ℕ) (c : Candidate) → p < 256 → c ≡ spared (b && is_sheltered table p) (slice_index_or (that_count cs) p nobody) → Down table cs b p below → Down table cs b (p + 1) (slice_set below p c)
  down_more b below p c l e h =
      let f : ℕ → Candidate = λ q. spared (b && is_sheltered table q) (slice_index_or (that_count cs) q nobody) in
      subst (λ x. Down table cs b (p + 1) (slice_set below p x)) (sym e) (length-set below p (f p) ∙ h.0, fill_by_more f below p nobody (omega (arith, h.0)) h.1)

  -- a list of the candidates as they go down
  gone_down : (b : Bool) (xs : List Candidate) → length xs ≡ length (that_count cs) → ((q : ℕ) → q < length xs → slice_index_or xs q nobody ≡ spared (b && is_sheltered table q) (slice_index_or (that_count cs) q nobody)) → xs ≡ cond b (unmarked table cs) (that_count cs)
  gone_down true xs long at = fill_by_all _ xs (length (that_count cs)) nobody long (λ q l. at q (omega arith) ∙ spared_marked (is_sheltered table q) (slice_index_or (that_count cs) q nobody))
  gone_down false xs long at = ext_get_or nobody xs (that_count cs) long at

  -- all that count have gone down
  pub down_all : (b : Bool) (below : List Candidate) (i : ℕ) → length (that_count cs) ≤ i → b ≡ exposes table cs → Down table cs b i below → take (length (that_count cs)) below ≡ handed_down table cs
  unfolding handed_down
  down_all b below i all e h =
      let n = length (that_count cs) in
      let long : length (take n below) ≡ n = length-take-le n below (omega (arith, few cs, h.0)) in
      subst (λ t. take n below ≡ cond t (unmarked table cs) (that_count cs)) e
      (gone_down b (take n below) long (λ q l. get_or-take n below q nobody (omega arith) ∙ h.1 q (omega arith)))

-- what is handed down of the candidates that count is what is handed down of the list
pub down_counted : (table : List Bool) (cs counted below : List Candidate) → counted ≡ that_count cs → take (length counted) below ≡ handed_down table counted → take (length counted - 0) below ≡ handed_down table cs
unfolding handed_down
down_counted table cs counted below is down =
    let part : length counted - 0 ≡ length counted = omega arith in
    ap (λ n. take n below) part ∙ down ∙ ap (handed_down table) is ∙ simp (take-take 256 256 cs (omega arith), exposed, is_marked, stamp_of, that_count)

-- in a list of at most 256 candidates, a port is exposed as its candidate and its yes or no say
pub read_exposed : (table : List Bool) (cs : List Candidate) → length cs ≤ 256 → (p : ℕ) (b : Bool) → b ≡ ((get_or cs p nobody).marked && not (is_sheltered table p)) → exposed table cs p ≡ b
read_exposed table cs short p b r = sym (r ∙ ap (λ (l : List Candidate). (get_or l p nobody).marked && not (is_sheltered table p)) (sym (take_all 256 cs short)))

-- the candidates, each beside the yes or no of its port, as the code goes through them
module _ (table : List Bool) (cs : List Candidate) (full : length table ≡ 256) where
  -- those that count stand there
  pub pairs_long : length (zip cs table) ≡ length (that_count cs)
  pairs_long = omega (arith, length-zip cs table, length-take 256 cs)

  pair_at : (k : ℕ) → k < length (zip cs table) → slice_index_or (zip cs table) k (nobody, false) ≡ (slice_index_or (that_count cs) k nobody, is_sheltered table k)
  pair_at k l =
      let short : k < min (length cs) 256 = omega (arith, length-zip cs table) in
      get_or-zip cs table k (nobody, false) (omega arith) (omega arith) ∙ ap (λ (c : Candidate). (c, is_sheltered table k)) (sym (get_or-take 256 cs k nobody (omega arith)))

  -- turn i of a loop over the numbered pairs reads port i
  pub turn_reads : (i port : ℕ) (c : Candidate) (b : Bool) → i < length (enumerate_from 0 (zip cs table)) → (port, (c, b)) ≡ get_or (enumerate_from 0 (zip cs table)) i (port, (c, b)) → (port ≡ i) × (i < 256) × (c ≡ slice_index_or (that_count cs) i nobody) × (b ≡ is_sheltered table i)
  turn_reads i port c b l e =
      let long : i < length (zip cs table) = omega (arith, length-enumerate_from 0 (zip cs table)) in
      let own : ◌≡◌ {A = ℕ × (Candidate × Bool)} (port, (c, b)) (0 + i, get_or (zip cs table) i (c, b)) = e ∙ get_or-enumerate_from 0 (zip cs table) i (port, (c, b)) long in
      let pair : ◌≡◌ {A = Candidate × Bool} (c, b) (slice_index_or (that_count cs) i nobody, is_sheltered table i) = ap (λ x. x.1) own ∙ get_or_default (zip cs table) i (c, b) (nobody, false) long ∙ pair_at i long in
      (ap (λ x. x.0) own ∙ omega arith, omega (arith, pairs_long, few cs), ap (λ x. x.0) pair, ap (λ x. x.1) pair)

  pub exposes_zip : list_any open_to (zip cs table) ≡ exposes table cs
  exposes_zip =
      let n = length (that_count cs) in
      let pair : ℕ → Candidate × Bool = λ k. (slice_index_or (that_count cs) k nobody, is_sheltered table k) in
      ap (list_any open_to) (fill_by_all pair (zip cs table) n (nobody, false) pairs_long (λ k l. pair_at k (omega (arith, pairs_long)))) ∙ list_any-map open_to pair (range_with_len 0 n) ∙ any_counted (exposed table cs) (range_with_len 0 n)

module _ {R : Type 0} (picks : R → List Candidate → ℕ) (law : Lawful picks) where
  below_spares : (rule : R) (table : List Bool) (cs : List Candidate) (b : Bool) → exposes table cs ≡ b → Spares table cs (picks rule (cond b (unmarked table cs) (that_count cs)))
  below_spares rule table cs true some h q t = absurd (both_ways _ (not-true _ (and_parts _ _ (picks_exposed picks law rule table cs some)).1) h)
  below_spares rule table cs false none h q t = not-false _ (refuted _ (λ f. both_ways _ none (exposes_some table cs q (counts cs q t) (and_from _ _ t f))))

  -- the pick of a layer, as the contract of its code states it
  pub as_layered : (layer : Sheltering R) (cs : List Candidate) (p : ℕ) → p ≡ layered picks layer cs → record { value : p ≡ layered picks layer cs; law : Spares layer.shelters.sheltered cs p }
  unfolding handed_down
  as_layered layer cs p e = record {
    value = e;
    law = subst (Spares layer.shelters.sheltered cs) (sym e) (below_spares layer.rule layer.shelters.sheltered cs _ refl);
  }
