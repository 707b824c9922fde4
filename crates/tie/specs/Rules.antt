-- What a tie rule picks. Assumes nothing.
--     Lawful picks               the law that every rule keeps
--     least_marked key cs        the marked port with the smallest key, the lower port among equals, if a port is marked
--     picked key cs              that port, and 256 where no port is marked
--     Chosen key cs p            p is what is picked, said of all marked ports
--     distance n s p             (p - s) mod n, which GoesRound says of it
--     lowest, nearest, oldest    what the three plain rules pick
--     AgreeOnOne                 the three agree where just one port is marked
use Rattle.std.specs.Prelude.{◌≡◌, ℕ, ◌+◌, ◌-◌, ◌%◌, ◌<◌, ◌≤◌, true, false, cond, List, [], ◌∷◌, length, Some, None, fold, Option, ◌==◌, nat_le, nat_lt}
use Rattle.std.specs.Option.{unwrap_or}
use Rattle.tie.specs.declared.candidate.Candidate.{Candidate}
use Rattle.tie.specs.declared.lowest_port.LowestPort.{LowestPort}
use Rattle.tie.specs.declared.oldest_head.OldestHead.{OldestHead}
use Rattle.tie.specs.declared.rotating.Rotating.{Rotating}
use Rattle.tie.specs.Candidates.{that_count, is_marked, stamp_of, marked_ports}

-- in every state and for every list: a marked port is picked if a port is marked, and 256 otherwise
pub record Lawful {S : Type 0} (picks : S → List Candidate → ℕ) : Type 0 where
  pub some : (s : S) (cs : List Candidate) (p : ℕ) → is_marked cs p ≡ true → is_marked cs (picks s cs) ≡ true
  pub none : (s : S) (cs : List Candidate) → ((p : ℕ) → is_marked cs p ≡ false) → picks s cs ≡ 256

-- of two ports the one with the smaller key; p where the keys are equal
abbrev pub smaller : (ℕ → ℕ) → ℕ → ℕ → ℕ
smaller key p q = cond (nat_lt (key q) (key p)) q p

-- of these ports the first with the smallest key, if there is a port
abbrev pub smallest : (ℕ → ℕ) → List ℕ → Option ℕ
smallest key [] = None
smallest key (p ∷ ps) = Some (fold (smaller key) p ps)

-- the marked port with the smallest key, the lower port among equals, if a port is marked
unfoldable pub least_marked : (ℕ → ℕ) → List Candidate → Option ℕ
least_marked key cs = smallest key (marked_ports cs)

-- the same as a pick: 256 where no port is marked
abbrev pub picked : (ℕ → ℕ) → List Candidate → ℕ
picked key cs = unwrap_or (least_marked key cs) 256

-- p is what is picked: it is marked if any port is, and 256 otherwise; its key is at most that of every marked port, and no marked port with the same key is lower
pub record Chosen (key : ℕ → ℕ) (cs : List Candidate) (p : ℕ) : Type 0 where
  pub some : (q : ℕ) → is_marked cs q ≡ true → is_marked cs p ≡ true
  pub none : ((q : ℕ) → is_marked cs q ≡ false) → p ≡ 256
  pub least : (q : ℕ) → is_marked cs q ≡ true → key p ≤ key q
  pub first : (q : ℕ) → is_marked cs q ≡ true → key q ≡ key p → p ≤ q

-- lowest port: the marked port with the smallest number
abbrev pub lowest : LowestPort → List Candidate → ℕ
lowest rule cs = picked (λ p. p) cs

-- (p - s) mod n, a remainder from 0 to n - 1, for a port p below n: how far p lies after s, going round n ports
abbrev pub distance : ℕ → ℕ → ℕ → ℕ
distance n s p = (p + (n - s % n)) % n

-- so it is, for every port p below n: of the numbers d from 0 to n - 1 the one, and the only one, with (s + d) mod n = p
pub record GoesRound (n s : ℕ) : Type 0 where
  pub below : (p : ℕ) → p < n → distance n s p < n
  pub there : (p : ℕ) → p < n → (s + distance n s p) % n ≡ p
  pub only : (p d : ℕ) → p < n → d < n → (s + d) % n ≡ p → d ≡ distance n s p

-- rotating: the marked port with the smallest (p - start) mod n, where n candidates count
abbrev pub nearest : Rotating → List Candidate → ℕ
nearest rule cs = picked (distance (length (that_count cs)) rule.start) cs

-- rotating, told of v: the start is v + 1; a v above 255 moves nothing
abbrev pub turned : Rotating → ℕ → Rotating
turned rule v = record { start = cond (nat_le v 255) (v + 1) rule.start }

-- oldest head: the marked port with the smallest stamp
abbrev pub oldest : OldestHead → List Candidate → ℕ
oldest rule cs = picked (stamp_of cs) cs

-- port p, and no other, is marked
abbrev pub OnlyMarked : List Candidate → ℕ → Type 0
OnlyMarked cs p = (q : ℕ) → is_marked cs q ≡ (q == p)

-- where just one port is marked, each of the three plain rules picks it, in any state
pub record AgreeOnOne : Type 0 where
  pub lowest_port : (rule : LowestPort) (cs : List Candidate) (p : ℕ) → OnlyMarked cs p → lowest rule cs ≡ p
  pub rotating : (rule : Rotating) (cs : List Candidate) (p : ℕ) → OnlyMarked cs p → nearest rule cs ≡ p
  pub oldest_head : (rule : OldestHead) (cs : List Candidate) (p : ℕ) → OnlyMarked cs p → oldest rule cs ≡ p
