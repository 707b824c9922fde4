use Rattle.std.proofs.Common.{rules, tests, ◌≡◌, ℕ, Bool, true, cond, nat_lt, List, length, slice_index_or, Some, None, Option, refl, sym, ap, ◌∙◌, arith}
use Rattle.std.specs.Option.{option_map}
use Rattle.std.proofs.lemmas.Bool.{cond-true, cond-false, cond_both}
use Rattle.tie.specs.declared.candidate.Candidate.{Candidate}
use Rattle.tie.specs.Candidates.{nobody, that_count, stamp_of, is_marked}
use Rattle.tie.specs.Rules.{least_marked}
use Rattle.tie.specs.Picking.{ports}
use Rattle.tie.proofs.Searching.{kept, smallest_more}
use Rattle.tie.proofs.oldest_head.oldest_marked.Goals as goal
use Rattle.tie.proofs.oldest_head.oldest_marked.Goals.{then-is_none_or, else-is_none_or}

-- a port beside its key
abbrev keyed : (ℕ → ℕ) → Option ℕ → Option (ℕ × ℕ)
keyed key o = option_map (λ (p : ℕ). (p, key p)) o

-- the best after a marked port i with key k; t says whether it comes before the best so far
taken : (key : ℕ → ℕ) (i k : ℕ) (o : Option ℕ) (best : Option (ℕ × ℕ)) (t : Bool) → k ≡ key i → best ≡ keyed key o → (best ≡ None → t ≡ true) → ((x : ℕ × ℕ) → best ≡ Some x → t ≡ nat_lt k x.1) → cond t (Some (i, k)) best ≡ keyed key (Some (kept key o i))
taken key i k None best t age is none some = rw (none is, age) refl
taken key i k (Some b) best t age is none some = rw (some (b, key b) is, is, age) (cond_both (nat_lt (key i) (key b)) i b (λ p. cond {A = Option (ℕ × ℕ)} (nat_lt (key i) (key b)) (Some (i, key i)) (Some (b, key b)) ≡ Some (p, key p)) (cond-true _ _ _) (cond-false _ _ _))

-- the port of the best alone
unkeyed : (key : ℕ → ℕ) (o : Option ℕ) (best : Option (ℕ × ℕ)) (r : Option ℕ) → best ≡ keyed key o → (best ≡ None → r ≡ None) → ((x : ℕ × ℕ) → best ≡ Some x → r ≡ Some x.0) → r ≡ o
unkeyed key None best r is none some = none is
unkeyed key (Some p) best r is none some = some (p, key p) is

pub loop-port-init : goal.loop-port-init
unfolding ports
loop-port-init c = refl

pub loop-port-preserved-then-not-is_marked : goal.loop-port-preserved-then-not-is_marked
loop-port-preserved-then-not-is_marked c =
    let m = is_marked c.args.candidates.now in
    let key = stamp_of c.args.candidates.now in
    let here : c.is_marked.result ≡ m c.loop-port.port = c.is_marked.ensures.value ∙ ap (λ (l : List Candidate). (slice_index_or l c.loop-port.port nobody).marked) c.that_count-candidate-items.ensures.value in
    c.loop-port.invariant ∙ ap (keyed key) (sym (smallest_more m key c.loop-port.port ∙ cond-false _ _ _ (sym here ∙ c.if-not-is_marked.true)))

pub loop-port-preserved : goal.loop-port-preserved
loop-port-preserved c =
    let is = c.that_count-candidate-items.ensures.value in
    let m = is_marked c.args.candidates.now in
    let key = stamp_of c.args.candidates.now in
    let port = c.loop-port.port in
    let best = c.loop-port.best in
    let here : c.is_marked.result ≡ m port = c.is_marked.ensures.value ∙ ap (λ (l : List Candidate). (slice_index_or l port nobody).marked) is in
    let age : c.stamp-stamp.result ≡ key port = c.stamp-stamp.ensures.value ∙ ap (λ (l : List Candidate). (slice_index_or l port nobody).stamp) is in
    let more = smallest_more m key port in
    let after = ap (keyed key) (sym (more ∙ cond-true _ _ _ (sym here ∙ c.if-not-is_marked.false))) in
    let turn = taken key port _ _ best c.is_none_or.result age c.loop-port.invariant (λ e. rw e at c.is_none_or.ensures) (λ x e. search (rules, tests)) in
    elim c.if-is_none_or.branch [
      | then-is_none_or w ↦ w.best-is ∙ sym (cond-true _ _ best w.if-is_none_or.true) ∙ turn ∙ after
      | else-is_none_or w ↦ w.best-is ∙ sym (cond-false _ _ best w.if-is_none_or.false) ∙ turn ∙ after
    ]

pub returns : goal.returns
unfolding least_marked ports
returns c =
    let cs = c.args.candidates.now in
    let all : c.loop-port.port ≡ length (that_count cs) = omega (arith, ap length c.that_count-candidate-items.ensures.value) in
    let best : c.loop-port.best ≡ keyed (stamp_of cs) (least_marked (stamp_of cs) cs) = rw (← all) c.loop-port.invariant in
    unkeyed (stamp_of cs) _ _ c.map.result best (λ e. search (rules, tests)) (λ x e. search (rules, tests))
