use Rattle.std.proofs.Common.{◌≡◌, ℕ, suc, ◌+◌, ◌-◌, ◌≤◌, List, [], ◌∷◌, ◌++◌, length, drop, set, sym, ap, ◌∙◌, one-add, append_assoc, arith, rules}
use borrow.Rule.Slice.PartMut.{put_mid}
use Rattle.std.proofs.lemmas.List.{drop_more, set_at}
use Rattle.report.proofs.ReadBack.{fields_back, head_written, line_of_fields}
use Rattle.report.proofs.writer.write.Goals as goal

-- a letter, columns and octet 10 in the place of the octets that a text begins with
put : (letter : ℕ) (columns octets all text : List ℕ) → octets ≡ columns → columns ≡ all → length columns + 2 ≤ length text → set (put_mid 1 (1 + length columns - 1) (set text 0 letter) octets) (1 + length columns) 10 ≡ letter ∷ ((all ++ 10 ∷ []) ++ drop (length columns + 2) text)
put letter columns octets all [] e is h = absurd (omega arith)
put letter columns octets all (c ∷ text) e is h =
    let wide : 1 + length columns - 1 ≡ length columns = omega arith in
    let end : suc (length columns + 1) ≡ length columns + 2 = omega arith in
    rw (e, wide, drop_more text (length columns) 0 (omega arith))
    (set_at (letter ∷ columns) _ _ 10 _ (sym (one-add (length columns)))
    ∙ (λ i. letter ∷ (is i ++ 10 ∷ drop (end i) (c ∷ text)))
    ∙ ap (λ l. letter ∷ l) (sym (append_assoc all (10 ∷ []) _)))

pub returns-clause-text : goal.returns-clause-text
returns-clause-text c =
    let room : 34 ≤ length c.args.text.now = search rules in
    put _ _ _ _ _ c.copy_from_slice.ensures.after c.as_flattened-columns.ensures.value (omega (arith, room))

pub returns-clause-fields : goal.returns-clause-fields
returns-clause-fields c ns fit is _ = fields_back _ _ _ _ fit (line_of_fields _ _ _ _ _ is (returns-clause-text c))

pub returns-clause-head : goal.returns-clause-head
returns-clause-head c ports cells is _ = head_written _ _ _ _ _ (line_of_fields _ _ (ports ∷ cells ∷ []) _ _ is (returns-clause-text c))
