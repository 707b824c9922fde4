-- Fields: their length, and that reading one gives the number back. Assumes nothing.
use Rattle.std.proofs.Common.{◌≡◌, ℕ, zero, suc, ◌-◌, ◌≤◌, true, ◌&&◌, leb, List, ◌++◌, length, replicate, Some, None, decimal, Option, sym, refl, ap, ◌∙◌, arith, length-append}
use lib.ListN.{length-replicate}
use Rattle.std.specs.Str.{bytes_eq}
use Rattle.std.proofs.lemmas.Fmt.{length-decimal-le}
use Rattle.std.proofs.lemmas.Slice.Eq.{bytes_eq-Decides}
use Rattle.std.proofs.lemmas.Bool.{le-leb, leb-true, and_from, and_parts, cond-true, cond_both, both_ways}
use Rattle.trace.specs.Field.{greatest, field, read_on, number_in, Shows}
use Rattle.trace.proofs.Digits.{read_decimal}

pub length-field : (n : ℕ) → n ≤ greatest → length (field n) ≡ 8
unfolding field
length-field n h =
    simp (length-append, length-replicate) (omega (arith, length-decimal-le 8 n (omega arith) (omega arith) (omega arith)))

-- spaces in front change nothing
read_spaces : (k : ℕ) (bs : List ℕ) → read_on 0 (replicate k 32 ++ bs) ≡ read_on 0 bs
read_spaces zero bs = refl
read_spaces (suc k) bs = read_spaces k bs

pub read_field : (n : ℕ) → n ≤ greatest → read_on 0 (field n) ≡ n
unfolding field
read_field n h = read_spaces (8 - length (decimal n)) (decimal n) ∙ read_decimal n (omega arith)

-- different numbers have different fields
pub same_from_field : (m n : ℕ) → m ≤ greatest → n ≤ greatest → field m ≡ field n → m ≡ n
same_from_field m n p q e = sym (read_field m p) ∙ ap (read_on 0) e ∙ read_field n q

-- the test in `number_in` passes at a field
is_field : (bs : List ℕ) (n : ℕ) → n ≤ greatest → bs ≡ field n → (leb (read_on 0 bs) greatest && bytes_eq bs (field (read_on 0 bs))) ≡ true
is_field bs n h e =
    let back : read_on 0 bs ≡ n = ap (read_on 0) e ∙ read_field n h in
    and_from _ _ (le-leb _ _ (omega arith)) ((bytes_eq-Decides _ _).1 (e ∙ ap field (sym back)))

-- the field of a number is read as that number
pub number_in_field : (n : ℕ) → n ≤ greatest → number_in (field n) ≡ Some n
unfolding number_in
number_in_field n h = cond-true _ _ _ (is_field (field n) n h refl) ∙ ap Some (read_field n h)

-- only one answer is shown, and `number_in` gives it
pub number_from_shows : (bs : List ℕ) (r : Option ℕ) → Shows bs r → r ≡ number_in bs
unfolding number_in
number_from_shows bs (Some n) (h, e) = sym (ap number_in e ∙ number_in_field n h)
number_from_shows bs None none =
    cond_both (leb (read_on 0 bs) greatest && bytes_eq bs (field (read_on 0 bs))) (Some (read_on 0 bs)) None (λ r. None ≡ r)
    (λ t. let p = and_parts _ _ t in absurd (none _ (leb-true _ _ p.0) ((bytes_eq-Decides _ _).0 p.1)))
    (λ f. refl)

pub shows_number : (bs : List ℕ) → Shows bs (number_in bs)
unfolding number_in
shows_number bs =
    cond_both (leb (read_on 0 bs) greatest && bytes_eq bs (field (read_on 0 bs))) (Some (read_on 0 bs)) None (Shows bs)
    (λ t. let p = and_parts _ _ t in (leb-true _ _ p.0, (bytes_eq-Decides _ _).0 p.1))
    (λ f n h e. both_ways _ f (is_field bs n h e))
