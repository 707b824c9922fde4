-- Numbers by port. Assumes nothing.
--     in_all n f       the sum of f over the ports 0 to n - 1
--     greatest n f     the greatest f among the ports 0 to n - 1
--     one k p          1 for port k, and 0 for any other
--     one_more xs k    a list of numbers by port, with one more for port k
use Rattle.std.specs.Prelude.{ℕ, ◌+◌, max, cond, List, fold, sum, ◌==◌, slice_index, slice_set}
use Rattle.tie.specs.Candidates.{by_port}

-- the sum of f over the ports 0 to n - 1
unfoldable pub in_all : ℕ → (ℕ → ℕ) → ℕ
in_all n f = sum (by_port n f)

-- the greatest f among the ports 0 to n - 1
unfoldable pub greatest : ℕ → (ℕ → ℕ) → ℕ
greatest n f = fold max 0 (by_port n f)

-- 1 for port k, and 0 for any other port
abbrev pub one : ℕ → ℕ → ℕ
one k p = cond (p == k) 1 0

-- one more for port k
abbrev pub one_more : List ℕ → ℕ → List ℕ
one_more xs k = slice_set xs k (slice_index xs k + 1)
