use Rattle.std.proofs.Common.{rules, ◌≡◌, ℕ, ◌<◌, true, false, length, None, Some}
use Rattle.std.proofs.iter.runs.Made.{chains}
use Rattle.tie.specs.Candidates.{that_count, is_marked}
use Rattle.tie.proofs.Searching.{is_least, first_is_best}
use Rattle.tie.proofs.lowest_port.lowest_marked.Goals as goal

pub returns : goal.returns
returns c =
    let cs = c.args.candidates.now in
    let r = c.position.result in
    let none : r ≡ None → (q : ℕ) → q < length (that_count cs) → is_marked cs q ≡ false = λ e q l. search (rules, chains) in
    let here : (p : ℕ) → r ≡ Some p → is_marked cs p ≡ true = λ p e. search (rules, chains) in
    let before : (p : ℕ) → r ≡ Some p → (q : ℕ) → q < p → is_marked cs q ≡ false = λ p e q l. search (rules, chains) in
    is_least _ cs r none (λ p e. first_is_best cs p (here p e) (before p e))
