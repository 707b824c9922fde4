-- Why no schedule sends more than twice what the switch sends: what stays true of numbers by port. Assumes nothing.
-- q and o are what the switch and the schedule hold for each port, S and T what they have sent; a prime marks what they are after the event.
use Rattle.std.proofs.Common.{◌≡◌, ℕ, ◌+◌, ◌-◌, ◌*◌, ◌<◌, ◌≤◌, min, ap, subst, ⊎_elim, arith}
use Rattle.std.proofs.lemmas.Bool.{cases_lt, cases_eq}
use Rattle.lqd.specs.Ports.{in_all, one}
use Rattle.lqd.proofs.Sums.{sums_weigh, sums_le, sums_same, sums_zero, one_here, one_other, one_small}
use Rattle.lqd.proofs.Moves.{Drops, drops_held}

-- at level i: what the schedule has above the switch, no cell counted above i, is paid for by what the switch holds up to i
abbrev pub Twice : ℕ → (ℕ → ℕ) → ℕ → (ℕ → ℕ) → ℕ → ℕ → Type 0
Twice n q S o T i = T + in_all n (λ p. min (o p) i - q p) ≤ 2 * S + in_all n (λ p. min (q p) i)

-- a tick: level i comes from level i + 1
pub twice_tick : (n : ℕ) (q q' o o' t : ℕ → ℕ) (S T i : ℕ) → ((p : ℕ) → p < n → q' p ≡ q p - 1) → ((p : ℕ) → p < n → t p ≤ 1) → ((p : ℕ) → p < n → o' p + t p ≤ o p) → Twice n q S o T (i + 1) → Twice n q' (S + in_all n (λ p. min (q p) 1)) o' (T + in_all n t) i
twice_tick n q q' o o' t S T i shorter once sent before =
    let sums = sums_weigh 2 n t (λ p. min (o' p) i - q' p) (λ p. min (q p) (i + 1)) (λ p. min (o p) (i + 1) - q p) (λ p. min (q p) 1) (λ p. min (q' p) i)
    (λ p l. omega (arith, shorter p l, once p l, sent p l)) in
    omega arith

-- nothing gets worse at any port
twice_arrival : (n : ℕ) (q q' o o' : ℕ → ℕ) (S T i : ℕ) → ((p : ℕ) → p < n → (min (o' p) i - q' p) + min (q p) i ≤ (min (o p) i - q p) + min (q' p) i) → Twice n q S o T i → Twice n q' S o' T i
twice_arrival n q q' o o' S T i each before =
    let sums = sums_weigh 0 n (λ p. min (o' p) i - q' p) (λ p. min (q p) i) (λ p. 0) (λ p. min (o p) i - q p) (λ p. 0) (λ p. min (q' p) i)
    (λ p l. omega (arith, each p l)) in
    omega (arith, sums_zero n)

-- an arrival that finds room
pub twice_room : (n k : ℕ) (q q' o o' : ℕ → ℕ) (S T i : ℕ) → ((p : ℕ) → p < n → q' p ≡ q p + one k p) → ((p : ℕ) → p < n → o' p ≤ o p + one k p) → Twice n q S o T i → Twice n q' S o' T i
twice_room n k q q' o o' S T i longer taken before =
    twice_arrival n q q' o o' S T i (λ p l. omega (arith, longer p l, taken p l, one_small k p)) before

-- nothing is counted at level 0
pub twice_end : (n : ℕ) (q o : ℕ → ℕ) (S T : ℕ) → Twice n q S o T 0 → T ≤ 2 * S
twice_end n q o S T h = omega (arith, sums_zero n, sums_same n (λ p. min (q p) 0) (λ p. 0) (λ p l. omega arith))

-- an arrival that finds the memory full
pub twice_full : (n b k : ℕ) (q q' o o' : ℕ → ℕ) (S T : ℕ) → k < n → Drops n b k q q' → ((p : ℕ) → p < n → o' p ≤ o p + one k p) → in_all n o' ≤ b → ((i : ℕ) → Twice n q S o T i) → (i : ℕ) → Twice n q' S o' T i
twice_full n b k q q' o o' S T port d taken fits before i = ⊎_elim
    (λ (low : i < q d.v + one k d.v). twice_arrival n q q' o o' S T i
    (λ p l. ⊎_elim
    (λ (e : p ≡ d.v). let here = subst (λ r. q' r + one d.v r ≡ q r + one k r) e (d.changed p l) in omega (arith, one_here d.v, ap q e, ap q' e))
    (λ (ne : p ≡ d.v → ⊥). omega (arith, one_other d.v p ne, d.changed p l, taken p l, one_small k p))
    (cases_eq p d.v))
    (before i))
    (λ (high : q d.v + one k d.v ≤ i).
    let whole = sums_same n (λ p. min (q' p) i) q' (λ p l. omega (arith, d.changed p l, d.longest p l)) in
    let above = sums_le n (λ p. min (o' p) i - q' p) o' (λ p l. omega arith) in
    omega (arith, drops_held n b k q q' port d, twice_end n q o S T (before 0)))
    (cases_lt i (q d.v + one k d.v))

-- what is held may be counted too, and that of the switch only once
abbrev pub HeldOnce : ℕ → (ℕ → ℕ) → ℕ → (ℕ → ℕ) → ℕ → Type 0
HeldOnce n q S o T = T + in_all n o ≤ 2 * S + in_all n q

pub once_tick : (n : ℕ) (q q' o o' t : ℕ → ℕ) (S T : ℕ) → ((p : ℕ) → p < n → q' p ≡ q p - 1) → ((p : ℕ) → p < n → o' p + t p ≤ o p) → HeldOnce n q S o T → HeldOnce n q' (S + in_all n (λ p. min (q p) 1)) o' (T + in_all n t)
once_tick n q q' o o' t S T shorter sent before =
    let sums = sums_weigh 1 n t o' q o (λ p. min (q p) 1) q' (λ p l. omega (arith, shorter p l, sent p l)) in
    omega arith

pub once_room : (n k : ℕ) (q q' o o' : ℕ → ℕ) (S T : ℕ) → ((p : ℕ) → p < n → q' p ≡ q p + one k p) → ((p : ℕ) → p < n → o' p ≤ o p + one k p) → HeldOnce n q S o T → HeldOnce n q' S o' T
once_room n k q q' o o' S T longer taken before =
    let sums = sums_weigh 0 n o' q (λ p. 0) o (λ p. 0) q' (λ p l. omega (arith, longer p l, taken p l)) in
    omega (arith, sums_zero n)

-- as many cells are held as there are
pub once_full : (n b k : ℕ) (q q' o' : ℕ → ℕ) (S T : ℕ) → k < n → Drops n b k q q' → in_all n o' ≤ b → T ≤ 2 * S → HeldOnce n q' S o' T
once_full n b k q q' o' S T port d fits twice = omega (arith, drops_held n b k q q' port d)
