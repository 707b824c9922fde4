-- The candidates that a tie rule is given, one for each port, from port 0 on. Assumes nothing.
--     by_port n f        a list with an entry for each of n ports
--     that_count cs      the candidates that count
--     is_marked cs p     port p counts and is marked
--     stamp_of cs p      the stamp of port p
--     marked_ports cs    the marked ports, from the lowest up
use Rattle.std.specs.Prelude.{ℕ, Bool, false, List, map, length, take, filter, slice_index_or}
use Rattle.std.specs.List.{range_with_len}
use Rattle.tie.specs.declared.candidate.Candidate.{Candidate}

-- f of each of the ports 0 to n - 1
abbrev pub by_port : {X : Type 0} → ℕ → (ℕ → X) → List X
by_port n f = map f (range_with_len 0 n)

-- only the first 256 candidates count
abbrev pub that_count : List Candidate → List Candidate
that_count cs = take 256 cs

-- what is read of a port that has no candidate
abbrev pub nobody : Candidate
nobody = record { marked = false; stamp = 0 }

-- whether port p counts and is marked
abbrev pub is_marked : List Candidate → ℕ → Bool
is_marked cs p = (slice_index_or (that_count cs) p nobody).marked

-- the stamp of port p
abbrev pub stamp_of : List Candidate → ℕ → ℕ
stamp_of cs p = (slice_index_or (that_count cs) p nobody).stamp

-- the marked ports, from the lowest up
abbrev pub marked_ports : List Candidate → List ℕ
marked_ports cs = filter (is_marked cs) (range_with_len 0 (length (that_count cs)))
