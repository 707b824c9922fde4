use Rattle.std.proofs.Common.{rules, tests, ◌≡◌, ◌+◌, ◌%◌, true, false, length, slice_index_or, map, List, subst, ap, ◌∙◌, refl, arith}
use Rattle.std.specs.List.{range_with_len}
use Rattle.std.proofs.lemmas.Iterator.{YieldsList-from_range, YieldsList-from_map, first_from_find}
use Rattle.std.proofs.lemmas.Iterator.Consumers.{YieldsList-at}
use Rattle.tie.specs.declared.candidate.Candidate.{Candidate}
use Rattle.tie.specs.Candidates.{nobody}
use Rattle.tie.specs.Rules.{distance}
use Rattle.tie.specs.Picking.{Sofar}
use Rattle.tie.proofs.Searching.{sofar_is_least}
use Rattle.tie.proofs.Turning.{First, turns, nearest}
use Rattle.tie.proofs.rotating.Rotating.next_marked.Goals as goal

pub returns : goal.returns
returns c =
    let cs = c.args.candidates.now in
    let counted = c.that_count-candidates.result.now in
    let n = length counted in
    let s = c.args.self.now.start in
    let start = c.unwrap_or-start.result in
    let r = c.find.result in
    let steps = YieldsList-at c.map.ensures.source (YieldsList-from_range 0 n n refl (omega arith)) in
    let found = first_from_find c.find.new.self _ r (λ p. (slice_index_or counted p nobody).marked ≡ true) (λ p. (slice_index_or counted p nobody).marked ≡ false) c.find.ensures.ran
    (YieldsList-from_map _ (λ step. (start + step) % n) steps c.map.ensures.closure (λ x r q k. search rules)) (λ x q k. search (rules, tests)) (λ x q k. search (rules, tests)) in
    let from = ap (λ k. map (λ step. (k + step) % n) (range_with_len 0 n)) c.unwrap_or-start.ensures ∙ turns c.checked_rem.result n s c.checked_rem.ensures in
    let round = subst (λ ports. First (λ p. (slice_index_or counted p nobody).marked) ports r) from found in
    let all = subst (λ (l : List Candidate). Sofar (λ p. (slice_index_or l p nobody).marked) (distance (length l) s) (length l) r) c.that_count-candidates.ensures.value (nearest _ n s r round) in
    sofar_is_least _ cs r all
