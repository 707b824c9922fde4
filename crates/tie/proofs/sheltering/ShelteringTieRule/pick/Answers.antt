use Rattle.std.proofs.Common.{List, length, take, sym, ap, ◌∙◌, arith}
use Rattle.std.proofs.lemmas.List.{length-take-le}
use Rattle.tie.specs.declared.candidate.Candidate.{Candidate}
use Rattle.tie.specs.Picking.{few}
use Rattle.tie.proofs.HandingDown.{as_layered}
use Rattle.tie.proofs.sheltering.ShelteringTieRule.pick.Goals as goal

pub slice_bounds-below-end : goal.slice_bounds-below-end
slice_bounds-below-end g c = omega (arith, few c.args.candidates.now, ap length c.that_count.ensures.value)

pub slice_bounds-pick-end : goal.slice_bounds-pick-end
slice_bounds-pick-end g c = sym (length-take-le _ c.hand_down.new.below (omega (arith, few c.args.candidates.now, ap length c.that_count.ensures.value, c.hand_down.ensures.len)))

pub returns : goal.returns
returns g c =
    let picks = g.R.TieRule.picks c.args.self.now.rule in
    let counted = ap (λ (l : List Candidate). picks (take (length l) c.hand_down.new.below)) c.that_count.ensures.value in
    as_layered g.R.TieRule.picks g.met.R.TieRule.lawful c.args.self.now c.args.candidates.now _ (c.pick.ensures.value ∙ counted ∙ ap picks c.hand_down.ensures.value)
