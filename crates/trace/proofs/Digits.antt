-- The decimal digits of a number, one more at the end. Assumes nothing.
use Rattle.std.proofs.Common.{◌≡◌, ℕ, ◌+◌, ◌*◌, ◌/◌, ◌%◌, ◌^◌, ◌<◌, ◌≤◌, [], ◌∷◌, ◌++◌, length, get_or, decimal, ◌∙◌, subst, arith, rules}
use Rattle.std.specs.Int.{IsInRange}
use Rattle.std.proofs.lemmas.Str.Parse.{IsNumeralModel, numerals_by_fold, tells_by_index, digits_value_short}
use Rattle.std.proofs.lemmas.Fmt.{decimal_step, digits_decimal, digits_value-decimal}
use Rattle.trace.specs.Field.{read_on}

-- reading with `read_on`, as the library's lemmas on digits have it
pub own : IsNumeralModel (λ ds. (i : ℕ) → i < length ds → IsInRange 48 57 (get_or ds i 0)) (read_on 0)
own = numerals_by_fold _ tells_by_index read_on (search rules)

pub read_decimal : (n : ℕ) → n < 2 ^ 64 → read_on 0 (decimal n) ≡ n
read_decimal n h = digits_value-decimal own n h

-- each octet of a number's digits is a digit
pub digit_at : (n i : ℕ) → n < 2 ^ 64 → i < length (decimal n) → IsInRange 48 57 (get_or (decimal n) i 0)
digit_at n i h l = digits_decimal own n h i l

-- a number with few digits is small
pub short : (n k : ℕ) → n < 2 ^ 64 → length (decimal n) ≤ k → n < 10 ^ k
short n k h l = subst (λ m. m < 10 ^ k) (read_decimal n h) (digits_value_short own (decimal n) k (digits_decimal own n h) l)

-- a digit after a number above 0
pub decimal_push : (n d : ℕ) → 0 < n → d < 10 → n < 2 ^ 32 → decimal (n * 10 + d) ≡ decimal n ++ (48 + d) ∷ []
decimal_push n d some small h =
    let front : (n * 10 + d) / 10 ≡ n = omega arith in
    let last : (n * 10 + d) % 10 ≡ d = omega arith in
    let step = decimal_step (n * 10 + d) (omega arith) (omega arith) in
    step ∙ (λ i. decimal (front i) ++ (48 + last i) ∷ [])
