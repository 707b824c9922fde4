use Rattle.std.proofs.Common.{◌≡◌, ap, ◌∙◌, length, rules}
use Rattle.std.specs.Option.{option_map_or}
use Rattle.std.proofs.lemmas.List.Sorted.{answers_always}
use Rattle.trace.specs.Text.{line_length}
use Rattle.trace.proofs.Cutting.{next_length}
use Rattle.trace.proofs.lines.line_length.Goals as goal

pub returns : goal.returns
returns c =
    let is : c.map_or.result ≡ option_map_or (λ l. length l.now) c.next.result 0 = search rules in
    is ∙ next_length _ _ _ _ _ _ _ (answers_always _ _ _ (λ f a r g called. search rules)) c.next.ensures.steps ∙ ap line_length c.split_inclusive-lines.ensures.rest
