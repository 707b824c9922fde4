-- What was written is read back. Assumes nothing.
use Rattle.std.proofs.Common.{◌≡◌, ℕ, zero, suc, ◌+◌, ◌-◌, ◌*◌, ◌<◌, ◌≤◌, Bool, true, false, leb, List, [], ◌∷◌, ◌++◌, length, get_or, take, drop, Some, Ok, Result, map, refl, ap, ◌∙◌, append_assoc, one-add, arith, length-append}
use Rattle.std.specs.List.{flat_map}
use Rattle.std.proofs.lemmas.List.{take_at, drop_at, drop-drop, length-take-le}
use Rattle.std.proofs.lemmas.List.Folds.{flat_map-map}
use Rattle.std.proofs.lemmas.Bool.{and_parts, leb-true}
use Rattle.refusal.specs.declared.Refusal.{Refusal}
use Rattle.refusal.specs.declared.Refusal.TheVariants.{NumberTooLarge}
use Rattle.trace.specs.Field.{greatest, field, number_in}
use Rattle.trace.specs.Line.{line_of, field_at, head_in, unless}
use Rattle.trace.proofs.Fields.{length-field, number_in_field}
use Rattle.trace.proofs.Verdicts.{head_back, in_range_lem}
use Rattle.report.specs.Written.{all_fit, NumberBack, FieldsBack, HeadBack}

-- what is not refused has passed the test
passed : {T : Type 0} (test : Bool) (refusal : Refusal) (x : T) (r : Result T Refusal) → Ok x ≡ unless test refusal r → (test ≡ true) × (Ok x ≡ r)
passed true refusal x r e = (refl, e)
passed false refusal x r e = absurd cc

pub fit_at : (ns : List ℕ) (k : ℕ) → all_fit ns ≡ true → k < length ns → get_or ns k 0 ≤ greatest
fit_at [] k e h = absurd (omega arith)
fit_at (n ∷ ns) zero e h = leb-true _ _ (and_parts (leb n greatest) (all_fit ns) e).0
fit_at (n ∷ ns) (suc k) e h = fit_at ns k (and_parts (leb n greatest) (all_fit ns) e).1 (omega arith)

-- the field of number k among the fields of ns
among_fields : (ns rest : List ℕ) (k : ℕ) → all_fit ns ≡ true → k < length ns → take 8 (drop (8 * k) (flat_map field ns ++ rest)) ≡ field (get_or ns k 0)
among_fields [] rest k e h = absurd (omega arith)
among_fields (n ∷ ns) rest zero e h =
    let long : length (field n) ≡ 8 = length-field n (fit_at (n ∷ ns) 0 e h) in
    rw append_assoc (take_at (field n) _ 8 long)
among_fields (n ∷ ns) rest (suc k) e h =
    let long : length (field n) ≡ 8 = length-field n (fit_at (n ∷ ns) 0 e (omega arith)) in
    let step : 8 * suc k ≡ 8 + 8 * k = omega arith in
    rw (step, append_assoc, ← drop-drop (8 * k) 8, drop_at (field n) (flat_map field ns ++ rest) 8 long) (among_fields ns rest k (and_parts (leb n greatest) (all_fit ns) e).1 (omega arith))

field_of_line : (letter : ℕ) (ns rest : List ℕ) (k : ℕ) → all_fit ns ≡ true → k < length ns → field_at k (line_of letter ns ++ rest) ≡ field (get_or ns k 0)
field_of_line letter ns rest k e h =
    let wide : 9 + 8 * k - (1 + 8 * k) ≡ 8 = omega arith in
    rw (wide, one-add, append_assoc) (among_fields ns (10 ∷ rest) k e h)

-- a field that was put after at octets
pub number_back : (n at : ℕ) (s rest t : List ℕ) → n ≤ greatest → at + 8 ≤ length s → t ≡ take at s ++ (field n ++ rest) → number_in (take 8 (drop at t)) ≡ Some n
number_back n at s rest t h within is =
    ap (λ l. number_in (take 8 (drop at l))) is
    ∙ ap (λ l. number_in (take 8 l)) (drop_at (take at s) (field n ++ rest) at (length-take-le at s (omega arith)))
    ∙ ap number_in (take_at (field n) rest 8 (length-field n h))
    ∙ number_in_field n h

-- the field of n that a text begins with, where it was not refused
pub first_back : (n : ℕ) (octets columns rest : List ℕ) → Ok octets ≡ unless (leb n greatest) NumberTooLarge (Ok (field n)) → columns ≡ octets → NumberBack n (columns ++ rest)
first_back n octets columns rest e is =
    let p = passed (leb n greatest) NumberTooLarge octets (Ok (field n)) e in
    let fits : n ≤ greatest = leb-true _ _ p.0 in
    let shown : columns ≡ field n = cc in
    ap (λ l. number_in (take 8 (l ++ rest))) shown ∙ ap number_in (take_at (field n) rest 8 (length-field n fits)) ∙ number_in_field n fits

-- the fields of numbers, one after the other
pub fields_joined : (ns : List ℕ) → flat_map (λ octets. octets) (map field ns) ≡ flat_map field ns
fields_joined ns = flat_map-map (λ octets. octets) field ns

-- fields that are those of ns, in a line
pub line_of_fields : (letter : ℕ) (fields : List (List ℕ)) (ns rest s : List ℕ) → fields ≡ map field ns → s ≡ (letter ∷ (flat_map (λ octets. octets) fields ++ 10 ∷ [])) ++ rest → s ≡ line_of letter ns ++ rest
line_of_fields letter fields ns rest s shown is =
    is ∙ ap (λ l. letter ∷ ((l ++ 10 ∷ []) ++ rest)) (ap (flat_map (λ octets. octets)) shown ∙ fields_joined ns)

pub fields_back : (letter : ℕ) (ns rest s : List ℕ) → all_fit ns ≡ true → s ≡ line_of letter ns ++ rest → FieldsBack ns s
fields_back letter ns rest s e is k h =
    ap number_in (ap (field_at k) is ∙ field_of_line letter ns rest k e h) ∙ number_in_field (get_or ns k 0) (fit_at ns k e h)

pub head_written : (letter a b : ℕ) (rest s : List ℕ) → s ≡ line_of letter (a ∷ b ∷ []) ++ rest → HeadBack letter a b s
head_written letter a b rest s is l p q =
    let ports_in = in_range_lem 1 256 a p in
    let cells_in = in_range_lem 1 4096 b q in
    let long : length (line_of letter (a ∷ b ∷ [])) ≡ 18 = simp (length-append {A = ℕ}) (omega (arith, length-field a (omega arith), length-field b (omega arith))) in
    ap head_in (ap (take 18) is ∙ take_at (line_of letter (a ∷ b ∷ [])) rest 18 long)
    ∙ (head_back (line_of letter (a ∷ b ∷ [])) (letter, a, b)).1 (record { letter = l; ports = ports_in; cells = cells_in; octets = refl })
