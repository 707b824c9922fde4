use Rattle.std.proofs.Common.{◌≡◌, ℕ, ◌≤◌, length, None, sym, ap, ◌∙◌, subst, rules}
use Rattle.std.proofs.lemmas.List.{take_all}
use Rattle.trace.specs.Field.{greatest, field, number_in, Shows, FieldsApart}
use Rattle.trace.proofs.Fields.{length-field, number_from_shows, same_from_field}
use Rattle.trace.proofs.Reading.{Front, front_shows, stuck_at, room_at}
use Rattle.trace.proofs.field.number.Goals as goal

pub returns-then-octets-ne8 : goal.returns-then-octets-ne8
returns-then-octets-ne8 c =
    let none : (n : ℕ) → n ≤ greatest → c.args.octets.now ≡ field n → ⊥ = λ n h e. c.if-octets-ne8.true (ap length e ∙ length-field n h) in
    record { value = number_from_shows _ None none; law = none; apart = same_from_field }

pub returns-then-eq : goal.returns-then-eq
returns-then-eq c =
    let none = stuck_at c.args.octets.now _ _ c.loop-octet-test.true c.loop-octet.invariant (record {
      space = search rules;
      digit = search rules;
    }) in
    record { value = number_from_shows _ None none; law = none; apart = same_from_field }

pub returns-in_err-digit : goal.returns-in_err-digit
returns-in_err-digit c =
    let none = stuck_at c.args.octets.now _ _ c.loop-octet-test.true c.loop-octet.invariant (record {
      space = search rules;
      digit = λ _. search rules;
    }) in
    let is : c.from_residual.result ≡ None = search rules in
    subst (λ r. record { value : r ≡ number_in c.args.octets.now; law : Shows c.args.octets.now r; apart : FieldsApart }) (sym is)
    (record { value = number_from_shows _ None none; law = none; apart = same_from_field })

pub overflow_mul-value : goal.overflow_mul-value
overflow_mul-value c = search (rules, room_at _ _ _ c.loop-octet-test.true c.loop-octet.invariant)

pub overflow_add-value : goal.overflow_add-value
overflow_add-value c = search (rules, room_at _ _ _ c.loop-octet-test.true c.loop-octet.invariant)

pub returns : goal.returns
returns c =
    let f = subst (λ l. Front l c.loop-octet.value) (take_all _ _ c.loop-octet-test.false) c.loop-octet.invariant in
    let shown = front_shows _ _ f c.if-octets-ne8.false in
    record { value = number_from_shows _ _ shown; law = shown; apart = same_from_field }
