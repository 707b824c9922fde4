-- Sums over the ports, and the greatest number among them. What holds port by port holds of the sums. Assumes nothing.
use Rattle.std.proofs.Common.{◌≡◌, ℕ, zero, suc, ◌+◌, ◌*◌, ◌<◌, ◌≤◌, max, cond, eqb, ◌⊎◌, map, fold, sym, refl, ap, ◌∙◌, subst, inl, inr, ⊎_elim, suc-mul, mul-add, add-one, arith}
use Rattle.std.specs.List.{range_with_len}
use Rattle.std.proofs.lemmas.List.FromFn.{map-range_with_len_more, sum_by-map-range_with_len_more}
use Rattle.std.proofs.lemmas.List.Sums.{fold_push}
use Rattle.std.proofs.lemmas.Bool.{eq-eqb, ne_eqb, cases_lt, cond_both}
use Rattle.lqd.specs.Ports.{in_all, greatest, one}

pub in_all_none : (f : ℕ → ℕ) → in_all 0 f ≡ 0
unfolding in_all
in_all_none f = refl

pub in_all_more : (n : ℕ) (f : ℕ → ℕ) → in_all (suc n) f ≡ in_all n f + f n
unfolding in_all
in_all_more n f = ap (λ m. in_all m f) (sym (add-one n)) ∙ sum_by-map-range_with_len_more (λ x. x) f 0 n n (omega arith)

-- with a weight for one of the sums
pub sums_weigh : (w n : ℕ) (a b c d e f : ℕ → ℕ) → ((p : ℕ) → p < n → a p + b p + c p ≤ d p + w * e p + f p) → in_all n a + in_all n b + in_all n c ≤ in_all n d + w * in_all n e + in_all n f
sums_weigh w zero a b c d e f h = rw (in_all_none a, in_all_none b, in_all_none c) (omega arith)
sums_weigh w (suc n) a b c d e f h =
    let before = sums_weigh w n a b c d e f (λ p l. h p (omega arith)) in
    let here = h n (omega arith) in
    rw (in_all_more n a, in_all_more n b, in_all_more n c, in_all_more n d, in_all_more n e, in_all_more n f, mul-add w (in_all n e) (e n)) (omega arith)

pub sums_zero : (n : ℕ) → in_all n (λ p. 0) ≡ 0
sums_zero zero = in_all_none (λ p. 0)
sums_zero (suc n) = in_all_more n (λ p. 0) ∙ omega (arith, sums_zero n)

pub sums_le : (n : ℕ) (f g : ℕ → ℕ) → ((p : ℕ) → p < n → f p ≤ g p) → in_all n f ≤ in_all n g
sums_le n f g h = omega (arith, sums_zero n, sums_weigh 0 n f (λ p. 0) (λ p. 0) g (λ p. 0) (λ p. 0) (λ p l. omega (arith, h p l)))

pub sums_same : (n : ℕ) (f g : ℕ → ℕ) → ((p : ℕ) → p < n → f p ≡ g p) → in_all n f ≡ in_all n g
sums_same n f g h = omega (arith, sums_le n f g (λ p l. omega (arith, h p l)), sums_le n g f (λ p l. omega (arith, h p l)))

pub sums_add : (n : ℕ) (f g : ℕ → ℕ) → in_all n (λ p. f p + g p) ≡ in_all n f + in_all n g
sums_add n f g =
    let up = sums_weigh 0 n (λ p. f p + g p) (λ p. 0) (λ p. 0) f (λ p. 0) g (λ p l. omega arith) in
    let down = sums_weigh 0 n f g (λ p. 0) (λ p. f p + g p) (λ p. 0) (λ p. 0) (λ p l. omega arith) in
    omega (arith, sums_zero n)

pub one_here : (k : ℕ) → one k k ≡ 1
one_here k = ap (λ b. cond b 1 0) (eq-eqb k k refl)

pub one_other : (k p : ℕ) → (p ≡ k → ⊥) → one k p ≡ 0
one_other k p ne = ap (λ b. cond b 1 0) (ne_eqb p k ne)

pub one_small : (k p : ℕ) → one k p ≤ 1
one_small k p = cond_both (eqb p k) 1 0 (λ m. m ≤ 1) (λ e. omega arith) (λ e. omega arith)

-- a port that is not below n adds nothing
pub sums_one_past : (n k : ℕ) → n ≤ k → in_all n (one k) ≡ 0
sums_one_past n k h = sums_same n (one k) (λ p. 0) (λ p l. one_other k p (λ e. omega arith)) ∙ sums_zero n

pub sums_one : (n k : ℕ) → k < n → in_all n (one k) ≡ 1
sums_one zero k l = absurd (omega arith)
sums_one (suc n) k l = in_all_more n (one k) ∙ ⊎_elim
    (λ (h : k < n). omega (arith, sums_one n k h, one_other k n (λ e. omega arith)))
    (λ (h : n ≤ k). let e : k ≡ n = omega arith in omega (arith, sums_one_past n k h, subst (λ m. one k m ≡ 1) e (one_here k)))
    (cases_lt k n)

-- a bound for each port is a bound for the sum
pub sums_most : (n : ℕ) (f : ℕ → ℕ) (m : ℕ) → ((p : ℕ) → p < n → f p ≤ m) → in_all n f ≤ n * m
sums_most zero f m h = rw in_all_none (omega arith)
sums_most (suc n) f m h = rw (in_all_more, suc-mul) (omega (arith, sums_most n f m (λ p l. h p (omega arith)), h n (omega arith)))

-- one function is nowhere above another, or somewhere
pub all_or_some : (n : ℕ) (f g : ℕ → ℕ) → ((p : ℕ) → p < n → f p ≤ g p) ⊎ ((p : ℕ) × (p < n) × (g p < f p))
all_or_some zero f g = inl (λ p l. absurd (omega arith))
all_or_some (suc n) f g = ⊎_elim
    (λ (all : (p : ℕ) → p < n → f p ≤ g p). ⊎_elim
    (λ (h : g n < f n). inr (n, omega arith, h))
    (λ (h : f n ≤ g n). inl (λ p l. ⊎_elim (λ (below : p < n). all p below) (λ (at : n ≤ p). let e : p ≡ n = omega arith in omega (arith, ap f e, ap g e)) (cases_lt p n)))
    (cases_lt (g n) (f n)))
    (λ (some : (p : ℕ) × (p < n) × (g p < f p)). inr (some.0, omega arith, some.2))
    (all_or_some n f g)

greatest_more : (n : ℕ) (f : ℕ → ℕ) → greatest (suc n) f ≡ max (greatest n f) (f n)
unfolding greatest
greatest_more n f =
    ap (λ m. fold max 0 (map f (range_with_len 0 m))) (sym (add-one n)) ∙ ap (fold max 0) (map-range_with_len_more f 0 n n (omega arith)) ∙ fold_push max 0 (map f (range_with_len 0 n)) (f n)

pub greatest_above : (n : ℕ) (f : ℕ → ℕ) (p : ℕ) → p < n → f p ≤ greatest n f
greatest_above zero f p l = absurd (omega arith)
greatest_above (suc n) f p l = rw greatest_more (⊎_elim
    (λ (h : p < n). omega (arith, greatest_above n f p h))
    (λ (h : n ≤ p). let e : p ≡ n = omega arith in omega (arith, ap f e))
    (cases_lt p n))

greatest_none : (f : ℕ → ℕ) → greatest 0 f ≡ 0
unfolding greatest
greatest_none f = refl

-- some port has the greatest number
pub greatest_reached : (n : ℕ) (f : ℕ → ℕ) → (p : ℕ) × (p < suc n) × (f p ≡ greatest (suc n) f)
greatest_reached zero f = (0, omega arith, omega (arith, greatest_more 0 f, greatest_none f))
greatest_reached (suc n) f =
    let below = greatest_reached n f in ⊎_elim
    (λ (h : f (suc n) < greatest (suc n) f). (below.0, omega arith, omega (arith, greatest_more (suc n) f, below.2)))
    (λ (h : greatest (suc n) f ≤ f (suc n)). (suc n, omega arith, omega (arith, greatest_more (suc n) f)))
    (cases_lt (f (suc n)) (greatest (suc n) f))
