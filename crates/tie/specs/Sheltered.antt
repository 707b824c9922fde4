-- What a layer of sheltering makes of the rule below it. Assumes nothing. A table has a yes or no for each port.
--     exposed table cs p               port p is marked and not sheltered
--     handed_down table cs             the candidates that go to the rule below
--     layered picks                    what a layer picks over a rule that picks so
--     Spares table cs p                a sheltered port is picked only where every marked port is sheltered
--     told_below after                 what a layer is after it is told of a port, over a rule that is moved so
--     shelter_answer, shelter_after    what the call `shelter` answers, and what it makes of a layer
use Rattle.std.specs.Prelude.{◌≡◌, ℕ, Bool, true, false, cond, not, ◌&&◌, List, length, Ok, Err, count_by, Result, nat_le, nat_lt, slice_index_or, slice_set}
use Rattle.std.specs.List.{range_with_len}
use Rattle.refusal.specs.declared.Refusal.{Refusal}
use Rattle.refusal.specs.declared.Refusal.TheVariants.{ShelterPort}
use Rattle.tie.specs.declared.candidate.Candidate.{Candidate}
use Rattle.tie.specs.declared.sheltering.Sheltering.{Sheltering}
use Rattle.tie.specs.Candidates.{by_port, that_count, is_marked, stamp_of}

-- port p is sheltered
abbrev pub is_sheltered : List Bool → ℕ → Bool
is_sheltered table p = slice_index_or table p false

-- port p is marked and not sheltered
abbrev pub exposed : List Bool → List Candidate → ℕ → Bool
exposed table cs p = is_marked cs p && not (is_sheltered table p)

-- a port that counts is marked and not sheltered
abbrev pub exposes : List Bool → List Candidate → Bool
exposes table cs = nat_lt 0 (count_by (exposed table cs) (range_with_len 0 (length (that_count cs))))

-- the candidates that count, the sheltered ones unmarked, every stamp as it is
abbrev pub unmarked : List Bool → List Candidate → List Candidate
unmarked table cs = by_port (length (that_count cs)) (λ p. record { marked = exposed table cs p; stamp = stamp_of cs p })

-- the candidates that count go down: if one of them is marked and not sheltered, with the sheltered ones unmarked, and otherwise as they are
unfoldable pub handed_down : List Bool → List Candidate → List Candidate
handed_down table cs = cond (exposes table cs) (unmarked table cs) (that_count cs)

-- a layer picks what the rule below picks from the candidates that go down
abbrev pub layered : {R : Type 0} → (R → List Candidate → ℕ) → Sheltering R → List Candidate → ℕ
layered picks layer cs = picks layer.rule (handed_down layer.shelters.sheltered cs)

-- the pick p spares the sheltered ports: it is one of them only where every marked port is
abbrev pub Spares : List Bool → List Candidate → ℕ → Type 0
Spares table cs p = is_sheltered table p ≡ true → (q : ℕ) → is_marked cs q ≡ true → is_sheltered table q ≡ true

-- what a layer is told goes down
abbrev pub told_below : {R : Type 0} → (R → ℕ → R) → Sheltering R → ℕ → Sheltering R
told_below after layer v = record { shelters = layer.shelters; rule = after layer.rule v }

-- a port above 255 cannot be sheltered
abbrev pub shelter_answer : ℕ → Result (Unit {0}) Refusal
shelter_answer p = cond (nat_le p 255) (Ok tt) (Err ShelterPort)

-- the yes or no of port p becomes b, and no other changes; at a refusal the layer is as it was
abbrev pub shelter_after : {R : Type 0} → Sheltering R → ℕ → Bool → Sheltering R
shelter_after layer p b = cond (nat_le p 255) (record { shelters = record { sheltered = slice_set layer.shelters.sheltered p b }; rule = layer.rule }) layer
