-- What an event makes of the lengths of a switch's queues, port by port: all that the promises rest on. Assumes nothing.
-- q are the lengths of the queues of n ports; a prime marks what they are after the event.
use Rattle.std.proofs.Common.{◌≡◌, ℕ, ◌+◌, ◌*◌, ◌/◌, ◌<◌, ◌≤◌, mul_comm, div-lt_iff_lt-mul, arith}
use Rattle.lqd.specs.Ports.{in_all, one}
use Rattle.lqd.proofs.Sums.{sums_add, sums_same, sums_most, sums_one, one_here}

-- an arrival for port k that finds room in b cells
pub record Takes (n b k : ℕ) (q q' : ℕ → ℕ) : Type 0 where
  pub room : in_all n q < b
  pub longer : (p : ℕ) → p < n → q' p ≡ q p + one k p

-- an arrival for port k that finds the b cells held: port v, one of the longest with the arriving cell counted in, loses one
pub record Drops (n b k : ℕ) (q q' : ℕ → ℕ) : Type 0 where
  pub full : in_all n q ≡ b
  pub v : ℕ
  pub port : v < n
  pub longest : (p : ℕ) → p < n → q p + one k p ≤ q v + one k v
  pub changed : (p : ℕ) → p < n → q' p + one v p ≡ q p + one k p

-- as many cells are held after a loss as before
pub drops_held : (n b k : ℕ) (q q' : ℕ → ℕ) → k < n → Drops n b k q q' → in_all n q' ≡ b
drops_held n b k q q' l d =
    let sums = sums_same n (λ p. q' p + one d.v p) (λ p. q p + one k p) d.changed in
    omega (arith, sums_add n q' (one d.v), sums_add n q (one k), sums_one n k l, sums_one n d.v d.port)

-- no queue is more than one cell longer than that of the loser
pub drops_level : (n b k : ℕ) (q q' : ℕ → ℕ) (d : Drops n b k q q') (p : ℕ) → p < n → q' p ≤ q' d.v + 1
drops_level n b k q q' d p l = omega (arith, one_here d.v, d.changed p l, d.changed d.v d.port, d.longest p l)

-- the loser still holds its share: with the arriving cell, b + 1 cells were counted, and no queue counted more than the loser's
pub drops_share : (n b k : ℕ) (q q' : ℕ → ℕ) → k < n → (d : Drops n b k q q') → b / n ≤ q' d.v
drops_share n b k q q' l d =
    let counted = sums_most n (λ p. q p + one k p) (q' d.v + 1) (λ p m. omega (arith, one_here d.v, d.changed d.v d.port, d.longest p m)) in
    let short : b < (q' d.v + 1) * n = omega (arith, sums_add n q (one k), sums_one n k l, d.full, mul_comm n (q' d.v + 1)) in
    let some : 0 < n = omega arith in
    omega (arith, (div-lt_iff_lt-mul {k = n} {x = b} {y = q' d.v + 1} some).1 short)
