use Rattle.std.proofs.Common.{◌≡◌, ◌+◌, ◌&&◌, length, slice_set, sym, ◌∙◌, subst, arith}
use Rattle.std.specs.List.{zip}
use Rattle.std.proofs.lemmas.List.{length_push}
use Rattle.std.proofs.lemmas.List.FromFn.{length-enumerate_from}
use Rattle.std.proofs.lemmas.Iterator.{YieldsList-from_slice, YieldsList-from_zip}
use Rattle.std.proofs.lemmas.Iterator.Consumers.{YieldsList-at, YieldsList-from_enumerate, YieldsList-turn, YieldsList-end}
use Rattle.tie.proofs.HandingDown.{Down, spared, pairs_long, turn_reads, down_more, down_all}
use Rattle.tie.proofs.shelters.Shelters.hand_down.Goals as goal
use Rattle.tie.proofs.shelters.Shelters.hand_down.Goals.{then-exposes+then-sheltered, else-exposes, else-exposes-via-then-exposes+else-sheltered, else-exposes-via-else-exposes}

pub loop-port-preserved : goal.loop-port-preserved
loop-port-preserved c =
    let cs = c.args.candidates.now in
    let table = c.args.self.now.sheltered in
    let full : length table ≡ 256 = omega arith in
    let pairs = YieldsList-from_zip (YieldsList-at c.zip.ensures.first (YieldsList-from_slice cs c.iter.ensures.rest)) (YieldsList-from_slice table c.zip.ensures.second.0) in
    let items = YieldsList-at c.into_iter-port-iterator.ensures.into_iter_gives (YieldsList-from_enumerate (YieldsList-at c.enumerate-port-items.ensures.source pairs) c.enumerate-port-items.ensures.count) in
    let turn = YieldsList-turn items c.loop-port.yielded c.loop-port.port-iterator c.loop-port.yielded_by c.next.result c.next.new.self _ c.in-Some.is c.next.ensures.steps in
    let reads = turn_reads table cs full (length c.loop-port.yielded) c.in-Some.port c.in-Some.candidate.now c.in-Some.sheltered.now turn.0 turn.1 in
    let exposes = c.exposes-exposes.result in
    let down : c.if-exposes.below ≡ spared (exposes && c.in-Some.sheltered.now) c.in-Some.candidate.now = elim c.if-exposes.branch [
      | then-exposes+then-sheltered w ↦ rw (w.if-exposes.true, w.if-sheltered.true) (w.below-is ∙ w.unmarked.ensures)
      | else-exposes w ↦ elim w.else-exposes.branch [
        | else-exposes-via-then-exposes+else-sheltered w' ↦ rw (w'.if-exposes.true, w'.if-sheltered.false) w.below-is
        | else-exposes-via-else-exposes w' ↦ rw w'.if-exposes.false w.below-is
      ]
    ] in
    let value = down ∙ (λ k. spared (exposes && reads.3 k) (reads.2 k)) in
    let more = down_more table cs exposes c.loop-port.below (length c.loop-port.yielded) c.if-exposes.below reads.1 value c.loop-port.invariant in
    subst (λ n. Down table cs exposes n (slice_set c.loop-port.below c.in-Some.port c.if-exposes.below)) (sym (length_push c.loop-port.yielded _))
    (subst (λ p. Down table cs exposes (length c.loop-port.yielded + 1) (slice_set c.loop-port.below p c.if-exposes.below)) (sym reads.0) more)

pub returns-clause-value : goal.returns-clause-value
returns-clause-value c =
    let cs = c.args.candidates.now in
    let table = c.args.self.now.sheltered in
    let full : length table ≡ 256 = omega arith in
    let pairs = YieldsList-from_zip (YieldsList-at c.zip.ensures.first (YieldsList-from_slice cs c.iter.ensures.rest)) (YieldsList-from_slice table c.zip.ensures.second.0) in
    let items = YieldsList-at c.into_iter-port-iterator.ensures.into_iter_gives (YieldsList-from_enumerate (YieldsList-at c.enumerate-port-items.ensures.source pairs) c.enumerate-port-items.ensures.count) in
    let all = YieldsList-end items c.loop-port.yielded c.loop-port.port-iterator c.loop-port.yielded_by c.next.result c.next.new.self c.in-None.is c.next.ensures.steps in
    down_all table cs c.exposes-exposes.result c.loop-port.below _ (omega (arith, all.1, length-enumerate_from 0 (zip cs table), pairs_long table cs full)) c.exposes-exposes.ensures c.loop-port.invariant
