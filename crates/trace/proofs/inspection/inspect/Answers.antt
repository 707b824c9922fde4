use Rattle.std.proofs.Common.{◌≡◌, ◌+◌, Ok, Err, sym, ap, ◌∙◌, refl, subst, rules}
use Rattle.std.proofs.lemmas.Result.{err_from_is_err_and}
use Rattle.std.proofs.lemmas.List.Sorted.{answers_always}
use Rattle.trace.specs.Line.{head_in}
use Rattle.trace.specs.Steps.{Opened}
use Rattle.trace.specs.Rule.{letter_of}
use Rattle.trace.specs.Text.{lines_of}
use Rattle.trace.specs.Inspection.{event_for, Inspected}
use Rattle.trace.proofs.Cutting.{part_cut, loses_nothing}
use Rattle.trace.proofs.Verdicts.{head_back}
use Rattle.trace.proofs.Inspecting.{Sofar, head_some, head_damaged, sofar_none, sofar_more, sofar_damaged, sofar_whole}
use Rattle.trace.proofs.inspection.inspect.Goals as goal

pub returns-in_err-rule-clause-answer : goal.returns-in_err-rule-clause-answer
returns-in_err-rule-clause-answer c =
    let damage = c.in_err-rule.field-0.0 in
    let first : damage.line ≡ 1 = search rules in
    let refused : c.opening.result ≡ Err damage.refusal = search rules in
    let answer = err_from_is_err_and c.from_residual.result c.from_residual.ensures.1 in
    subst (Inspected (lines_of c.args.text.now)) (sym (answer.1 ∙ ap Err answer.2))
    (head_damaged _ _ _ damage c.cut.ensures.places c.cut.ensures.law first (subst (Opened c.cut.result.0.now) refused c.opening.ensures))

pub loop-line-init : goal.loop-line-init
loop-line-init c =
    let cut = c.cut.ensures in
    let opened : c.opening.result ≡ Ok (c.in_ok-rule.rule, c.in_ok-rule.ports, c.in_ok-rule.cells) = search rules in
    let head : head_in c.cut.result.0.now ≡ Ok (letter_of c.in_ok-rule.rule, c.in_ok-rule.ports, c.in_ok-rule.cells) = subst (Opened c.cut.result.0.now) opened c.opening.ensures in
    let few = ((head_back _ _).0 head).ports.1 in
    let rest : c.into_iter-line-iterator.result.rest.now ≡ c.cut.result.1.now = ap (λ it. it.rest.now) c.into_iter-line-iterator.ensures.into_iter_gives ∙ c.split_inclusive-line-items.ensures.rest in
    record {
      sofar = subst (Sofar c.args.text.now _) (sym rest) (sofar_none _ _ _ _ _ _ (head_some _ _ _ _ cut.places head) cut.places cut.law head few);
      ports = refl;
    }

pub returns-in_err-event-clause-answer : goal.returns-in_err-event-clause-answer
returns-in_err-event-clause-answer c =
    let damage = c.in_err-event.field-0.0 in
    let here : damage.line ≡ c.loop-line.summary.lines + 1 = search rules in
    let refused : c.event_for.result ≡ Err damage.refusal = search rules in
    let answer = err_from_is_err_and c.from_residual-in_err-event.result c.from_residual-in_err-event.ensures.1 in
    let part = c.in-Some.ensures.steps in
    let cut = part_cut _ _ _ _ _ _ part (answers_always _ _ _ (λ f a r g called. search rules)) in
    subst (Inspected (lines_of c.args.text.now)) (sym (answer.1 ∙ ap Err answer.2))
    (sofar_damaged _ _ _ _ _ c.loop-line.invariant.sofar part.2 cut (loses_nothing _ _ _ cut) damage here (ap (λ n. event_for n c.in-Some.line.now) (sym c.loop-line.invariant.ports) ∙ sym c.event_for.ensures ∙ refused))

pub loop-line-preserved : goal.loop-line-preserved
loop-line-preserved c =
    let taken : c.event_for.result ≡ Ok c.in_ok-event.event = search rules in
    let part = c.in-Some.ensures.steps in
    let cut = part_cut _ _ _ _ _ _ part (answers_always _ _ _ (λ f a r g called. search rules)) in
    record {
      sofar = subst (λ s. Sofar c.args.text.now s c.next.new.self.rest.now) (sym c.count.ensures)
          (sofar_more _ _ _ _ _ c.loop-line.invariant.sofar part.2 cut (loses_nothing _ _ _ cut) _ (ap (λ n. event_for n c.in-Some.line.now) (sym c.loop-line.invariant.ports) ∙ sym c.event_for.ensures ∙ taken));
      ports = c.loop-line.invariant.ports ∙ sym (ap (λ s. s.ports) c.count.ensures);
    }

pub returns-clause-answer : goal.returns-clause-answer
returns-clause-answer c = sofar_whole _ _ _ c.loop-line.invariant.sofar c.in-None.ensures.steps.0
