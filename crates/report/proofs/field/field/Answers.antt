use Rattle.std.proofs.Common.{◌≡◌, ℕ, ◌+◌, ◌-◌, List, ◌++◌, length, take, drop, replicate, sym, ap, ◌∙◌, append-nil, take-append-drop, arith, rules}
use Rattle.std.proofs.lemmas.List.{take-replicate}
use Rattle.std.proofs.lemmas.Fmt.{length-decimal-le}
use Rattle.trace.specs.Field.{field, justified}
use Rattle.report.proofs.field.field.Goals as goal

-- digits behind the first `start` of eight spaces
at_the_end : (octets digits : List ℕ) (start : ℕ) → start + length digits ≡ 8 → take start octets ≡ take start (replicate 8 32) → drop start octets ≡ digits → octets ≡ justified digits
at_the_end octets digits start e before written =
    let spaces : start ≡ 8 - length digits = omega arith in
    sym (take-append-drop start octets)
    ∙ (λ i. (before ∙ take-replicate start 8 32 (omega arith)) i ++ written i)
    ∙ ap (λ k. replicate k 32 ++ digits) spaces

pub write_digits-requires : goal.write_digits-requires
write_digits-requires c = search (rules, length-decimal-le 8)

pub returns : goal.returns
unfolding field
returns c =
    let w = c.write_digits.ensures in
    rw (at_the_end c.write_digits.new.buf _ _ w.start w.before (w.written ∙ append-nil _)) (search rules)
