-- How the reader of a field goes from octet to octet. Assumes nothing.
use Rattle.std.proofs.Common.{◌≡◌, ◌≢◌, ℕ, zero, suc, ◌+◌, ◌-◌, ◌*◌, ◌^◌, ◌<◌, ◌≤◌, List, [], ◌∷◌, ◌++◌, length, get_or, take, drop, replicate, Some, None, Option, decimal, sym, refl, ap, ◌∙◌, subst, ⊎_elim, append_assoc, append-nil, arith, length-append, take-append-drop, length-take}
use lib.ListN.{length-replicate}
use Rattle.std.specs.Int.{IsInRange}
use Rattle.std.proofs.lemmas.Fmt.{decimal_digit, decimal_nonempty, first_decimal}
use Rattle.std.proofs.lemmas.List.{replicate_more, get_or_at, get_or_append_left, take_more, drop_more}
use Rattle.std.specs.Option.{unwrap_or}
use Rattle.std.proofs.lemmas.Bool.{cases_lt}
use Rattle.trace.specs.Field.{greatest, field, Shows}
use Rattle.trace.proofs.Digits.{digit_at, short, decimal_push}

-- the digits of the value so far; none, before there is a value
abbrev pub digits : Option ℕ → List ℕ
digits None = []
digits (Some value) = decimal value

-- the value so far, 0 before there is one
abbrev pub so_far : Option ℕ → ℕ
so_far value = unwrap_or value 0

-- one more digit may follow: the value so far is not 0
abbrev pub GoesOn : Option ℕ → Type 0
GoesOn None = Unit {0}
GoesOn (Some value) = 0 < value

goes_on : (value : Option ℕ) → (value ≢ Some 0) → GoesOn value
goes_on None h = tt
goes_on (Some value) h = ⊎_elim (λ (some : 0 < value). some) (λ (none : value ≤ 0). let is : value ≡ 0 = omega arith in absurd (h (ap (λ (n : ℕ). Some n) is))) (cases_lt 0 value)

-- the octets bs are spaces and then the digits of the value so far
pub record Front (bs : List ℕ) (value : Option ℕ) : Type 0 where
  pub spaces : ℕ
  pub is : bs ≡ replicate spaces 32 ++ digits value
  pub fits : so_far value < 2 ^ 32

pub front_space : (bs : List ℕ) → Front bs None → Front (bs ++ 32 ∷ []) None
front_space bs f = record {
  spaces = f.spaces + 1;
  is = ap (λ l. l ++ 32 ∷ []) (f.is ∙ append-nil _) ∙ replicate_more f.spaces 32 ∙ sym (append-nil _);
  fits = f.fits;
}

-- at most seven octets leave room for one more digit
pub front_room : (bs : List ℕ) (value : Option ℕ) → Front bs value → length bs ≤ 7 → so_far value < 10000000
front_room bs None f h = omega arith
front_room bs (Some value) f h =
    let long = ap length f.is ∙ length-append (replicate f.spaces 32) (decimal value) in
    short value 7 (omega (arith, f.fits)) (omega arith)

-- a digit put after the digits so far, unless those are a zero
digits_push : (value : Option ℕ) (d : ℕ) → GoesOn value → so_far value < 2 ^ 32 → d < 10 → digits value ++ (48 + d) ∷ [] ≡ decimal (so_far value * 10 + d)
digits_push None d go small h =
    let alone : so_far None * 10 + d ≡ d = omega arith in
    sym (ap decimal alone ∙ decimal_digit d h)
digits_push (Some value) d go small h = sym (decimal_push value d go h small)

pub front_digit : (bs : List ℕ) (value : Option ℕ) (d : ℕ) → Front bs value → length bs ≤ 7 → GoesOn value → d < 10 → Front (bs ++ (48 + d) ∷ []) (Some (so_far value * 10 + d))
front_digit bs value d f h go low =
    let room = front_room bs value f h in
    record {
      spaces = f.spaces;
      is = ap (λ l. l ++ (48 + d) ∷ []) f.is ∙ append_assoc (replicate f.spaces 32) (digits value) ((48 + d) ∷ []) ∙ ap (λ l. replicate f.spaces 32 ++ l) (digits_push value d go f.fits low);
      fits = omega arith;
    }

-- eight octets are the field of their value
pub front_all : (bs : List ℕ) (value : ℕ) → Front bs (Some value) → length bs ≡ 8 → (value ≤ greatest) × (bs ≡ field value)
unfolding field
front_all bs value f h =
    let long = ap length f.is ∙ length-append (replicate f.spaces 32) (decimal value) in
    let wide : length (replicate {A = ℕ} f.spaces 32) ≡ f.spaces = length-replicate f.spaces 32 in
    let count : f.spaces ≡ 8 - length (decimal value) = omega arith in
    (omega (arith, short value 8 (omega (arith, f.fits)) (omega arith)), f.is ∙ ap (λ k. replicate k 32 ++ decimal value) count)

-- the first of the digits of n is a digit
first_digit : (n c : ℕ) (rest : List ℕ) → n ≤ greatest → c ∷ rest ≡ decimal n → IsInRange 48 57 c
first_digit n c rest h e =
    subst (IsInRange 48 57) (sym (ap (λ l. get_or l 0 0) e)) (digit_at n 0 (omega arith) (decimal_nonempty n (omega arith)))

-- no digit follows a leading zero
no_leading_zero : (n c : ℕ) (rest : List ℕ) → n ≤ greatest → 48 ∷ c ∷ rest ≡ decimal n → ⊥
no_leading_zero n c rest h e =
    ⊎_elim
    (λ (some : 0 < n). omega (arith, first_decimal n some (omega arith), ap (λ l. get_or l 0 0) e))
    (λ (none : n ≤ 0). let zero_is : n ≡ 0 = omega arith in omega (arith, ap length (e ∙ ap decimal zero_is ∙ decimal_digit 0 (omega arith))))
    (cases_lt 0 n)

-- the reader does not take the octet c
pub record Untaken (value : Option ℕ) (c : ℕ) : Type 0 where
  pub space : value ≡ None → c ≡ 32 → ⊥
  pub digit : GoesOn value → (d : ℕ) → d < 10 → c ≡ 48 + d → ⊥

-- such an octet stands in no field: not among the digits, not where a space should be
among : (value : Option ℕ) (c n : ℕ) (rest : List ℕ) → n ≤ greatest → Untaken value c → digits value ++ c ∷ rest ≡ decimal n → ⊥
among None c n rest h u e =
    let here = first_digit n c rest h e in
    u.digit tt (c - 48) (omega arith) (omega arith)
among (Some value) c n rest h u e =
    let k = length (decimal value) in
    let long : length (decimal n) ≡ k + suc (length rest) = ap length (sym e) ∙ length-append (decimal value) (c ∷ rest) in
    let here : IsInRange 48 57 c = subst (IsInRange 48 57) (ap (λ l. get_or l k 0) (sym e) ∙ get_or_at (decimal value) c rest 0 k refl) (digit_at n k (omega arith) (omega arith)) in
    ⊎_elim
    (λ (some : 0 < value). u.digit some (c - 48) (omega arith) (omega arith))
    (λ (none : value ≤ 0).
    let is : value ≡ 0 = omega arith in
    no_leading_zero n c rest h (sym (ap (λ l. l ++ c ∷ rest) (ap decimal is ∙ decimal_digit 0 (omega arith))) ∙ e))
    (cases_lt 0 value)

before : (value : Option ℕ) (c : ℕ) (rest more : List ℕ) → so_far value < 2 ^ 32 → Untaken value c → digits value ++ c ∷ rest ≡ 32 ∷ more → ⊥
before None c rest more fits u e = u.space refl (ap (λ l. get_or l 0 0) e)
before (Some value) c rest more fits u e =
    let some = decimal_nonempty value (omega arith) in
    omega (arith, digit_at value 0 (omega arith) some, sym (get_or_append_left (decimal value) (c ∷ rest) 0 0 some) ∙ ap (λ l. get_or l 0 0) e)

module _ (value : Option ℕ) (c n : ℕ) (rest : List ℕ) (fits : so_far value < 2 ^ 32) (h : n ≤ greatest) (u : Untaken value c) where
  in_no_field : (k m : ℕ) → replicate k 32 ++ (digits value ++ c ∷ rest) ≡ replicate m 32 ++ decimal n → ⊥
  in_no_field zero zero e = among value c n rest h u e
  in_no_field zero (suc m) e = before value c rest _ fits u e
  in_no_field (suc k) zero e = omega (arith, first_digit n 32 _ h e)
  in_no_field (suc k) (suc m) e = in_no_field k m (ap (drop 1) e)

pub front_stuck : (bs : List ℕ) (value : Option ℕ) (c : ℕ) (rest : List ℕ) → Front bs value → Untaken value c → (n : ℕ) → n ≤ greatest → bs ++ c ∷ rest ≡ field n → ⊥
unfolding field
front_stuck bs value c rest f u n h e =
    in_no_field value c n rest f.fits h u f.spaces (8 - length (decimal n))
    (sym (append_assoc (replicate f.spaces 32) (digits value) (c ∷ rest)) ∙ ap (λ l. l ++ c ∷ rest) (sym f.is) ∙ e)

-- spaces alone are the field of no number
only_spaces : (n k m : ℕ) → n ≤ greatest → replicate k 32 ≡ replicate m 32 ++ decimal n → ⊥
only_spaces n zero zero h e = omega (arith, decimal_nonempty n (omega arith), ap length e)
only_spaces n zero (suc m) h e = omega (arith, ap length e)
only_spaces n (suc k) zero h e = omega (arith, first_digit n 32 _ h e)
only_spaces n (suc k) (suc m) h e = only_spaces n k m h (ap (drop 1) e)

pub front_idle : (bs : List ℕ) → Front bs None → (n : ℕ) → n ≤ greatest → bs ≡ field n → ⊥
unfolding field
front_idle bs f n h e = only_spaces n f.spaces (8 - length (decimal n)) h (sym (append-nil _) ∙ sym f.is ∙ e)

-- what was read of all eight octets is the number that they show
pub front_shows : (bs : List ℕ) (value : Option ℕ) → Front bs value → length bs ≡ 8 → Shows bs value
front_shows bs None f h = front_idle bs f
front_shows bs (Some value) f h = front_all bs value f h

-- the same at an index of the octets
module _ (bs : List ℕ) (i : ℕ) (value : Option ℕ) (inside : i < length bs) (f : Front (take i bs) value) where
  pub stuck_at : Untaken value (get_or bs i 0) → (n : ℕ) → n ≤ greatest → bs ≡ field n → ⊥
  stuck_at u n h e =
      front_stuck (take i bs) value (get_or bs i 0) (drop (i + 1) bs) f u n h
      (ap (λ l. take i bs ++ l) (sym (drop_more bs i 0 inside)) ∙ take-append-drop i bs ∙ e)

  pub space_at : value ≡ None → get_or bs i 0 ≡ 32 → Front (take (i + 1) bs) value
  space_at e c =
      subst (λ l. Front l value) (sym (take_more bs i 0 inside))
      (subst (Front (take i bs ++ get_or bs i 0 ∷ [])) (sym e)
      (subst (λ x. Front (take i bs ++ x ∷ []) None) (sym c) (front_space (take i bs) (subst (Front (take i bs)) e f))))

  pub digit_taken : (d : ℕ) → i < 8 → (value ≢ Some 0) → d < 10 → get_or bs i 0 ≡ 48 + d → Front (take (i + 1) bs) (Some (so_far value * 10 + d))
  digit_taken d few some low c =
      subst (λ l. Front l (Some (so_far value * 10 + d))) (sym (take_more bs i 0 inside ∙ ap (λ x. take i bs ++ x ∷ []) c))
      (front_digit (take i bs) value d f (simp length-take (omega arith)) (goes_on value some) low)

  pub room_at : i < 8 → so_far value < 10000000
  room_at few = front_room (take i bs) value f (simp length-take (omega arith))

-- one more digit was read, of eight octets
pub digit_more : (bs : List ℕ) (i : ℕ) (value : Option ℕ) (n d : ℕ) → i < length bs → length bs ≡ 8 → Front (take i bs) value → (value ≢ Some 0) → n ≡ so_far value → d < 10 → get_or bs i 0 ≡ 48 + d → Front (take (i + 1) bs) (Some (n * 10 + d))
digit_more bs i value n d inside long f some is low c =
    subst (λ m. Front (take (i + 1) bs) (Some (m * 10 + d))) (sym is) (digit_taken bs i value inside f d (omega arith) some low c)
