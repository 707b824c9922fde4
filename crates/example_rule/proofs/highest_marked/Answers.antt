use Rattle.std.proofs.Common.{rules, ◌≡◌, ℕ, ◌<◌, true, false, List, length, None, Some, arith}
use Rattle.std.proofs.iter.runs.Made.{chains}
use Rattle.std.proofs.lemmas.Bool.{both_ways}
use Rattle.tie.specs.declared.candidate.Candidate.{Candidate}
use Rattle.tie.specs.Candidates.{that_count, is_marked}
use Rattle.tie.specs.Picking.{few, counts, Best}
use Rattle.tie.proofs.Searching.{not_less, best_by, is_least}
use Rattle.example_rule.specs.Highest.{from_the_top}
use Rattle.example_rule.proofs.highest_marked.Goals as goal

-- the last marked port lies the least below the top
last_is_best : (cs : List Candidate) (p : ℕ) → is_marked cs p ≡ true → ((q : ℕ) → p < q → q < length (that_count cs) → is_marked cs q ≡ false) → Best (is_marked cs) from_the_top (length (that_count cs)) p
last_is_best cs p here after =
    let low : p < 256 = omega (arith, counts cs p here, few cs) in
    best_by (is_marked cs) from_the_top (length (that_count cs)) p (counts cs p here) here
    (λ q l t. omega (arith, not_less p q (λ h. both_ways (is_marked cs q) (after q h l) t)))
    (λ q h t. omega arith)

pub returns : goal.returns
returns c =
    let cs = c.args.candidates.now in
    let r = c.rposition.result in
    let none : r ≡ None → (q : ℕ) → q < length (that_count cs) → is_marked cs q ≡ false = λ e q l. search (rules, chains) in
    let here : (p : ℕ) → r ≡ Some p → is_marked cs p ≡ true = λ p e. search (rules, chains) in
    let after : (p : ℕ) → r ≡ Some p → (q : ℕ) → p < q → q < length (that_count cs) → is_marked cs q ≡ false = λ p e q h l. search (rules, chains) in
    is_least from_the_top cs r none (λ p e. last_is_best cs p (here p e) (after p e))
