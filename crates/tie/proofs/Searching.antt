-- What a search through the candidates finds is the marked port with the smallest key, and there is just one. Assumes nothing.
use Rattle.std.proofs.Common.{◌≡◌, ◌≢◌, ℕ, ◌+◌, ◌<◌, ◌≤◌, Bool, true, false, cond, List, [], ◌∷◌, ◌++◌, length, min, take, slice_index_or, Some, None, Option, ⊎_elim, unwrap_or, append-nil, sym, ap, ◌∙◌, subst, refl, arith}
use Rattle.std.proofs.lemmas.Bool.{both_ways, cases_Bool, cases_lt}
use Rattle.std.proofs.lemmas.List.{take_min}
use Rattle.std.proofs.lemmas.List.Sums.{fold_push}
use Rattle.tie.specs.declared.candidate.Candidate.{Candidate}
use Rattle.tie.specs.Candidates.{that_count, nobody, is_marked}
use Rattle.tie.specs.Rules.{smaller, smallest, least_marked, picked, Chosen}
use Rattle.tie.specs.Picking.{refuted, few, counts, Best, Sofar, ports, ports_more, chosen_none, chosen_sofar, sofar_least, chosen_picked}

pub not_less : (p q : ℕ) → (p < q → ⊥) → q ≤ p
not_less p q h = ⊎_elim (λ (l : p < q). absurd (h l)) (λ (l : q ≤ p). l) (cases_lt p q)

-- the front of a list that is as long as the list, but has 256 candidates at most, is what counts of it
pub counted_front : (cs : List Candidate) (n : ℕ) → n ≡ min (length cs) 256 → take n cs ≡ take 256 cs
counted_front cs n is =
    let end : n ≡ min 256 (length cs) = omega arith in
    ap (λ k. take k cs) end ∙ take_min 256 cs

-- what passes a test that every number below p fails is not below p
pub not_below : (f : ℕ → Bool) (p : ℕ) → ((q : ℕ) → q < p → f q ≡ false) → (q : ℕ) → f q ≡ true → p ≤ q
not_below f p fails q e = ⊎_elim (λ (l : q < p). absurd (both_ways (f q) (fails q l) e)) (λ (h : p ≤ q). h) (cases_lt q p)

-- of port i and the best so far, the one with the smaller key
abbrev pub kept : (ℕ → ℕ) → Option ℕ → ℕ → ℕ
kept key None i = i
kept key (Some b) i = smaller key b i

module _ (m : ℕ → Bool) (key : ℕ → ℕ) where
  smallest_kept : (b : Bool) (ps : List ℕ) (i : ℕ) → smallest key (ps ++ cond b (i ∷ []) []) ≡ cond b (Some (kept key (smallest key ps) i)) (smallest key ps)
  smallest_kept true [] i = refl
  smallest_kept true (p ∷ ps) i = ap (λ (b : ℕ). Some b) (fold_push (smaller key) p ps i)
  smallest_kept false ps i = ap (smallest key) (append-nil ps)

  -- the best of the marked ports below i + 1 is that of those below i, or i
  pub smallest_more : (i : ℕ) → smallest key (ports m (i + 1)) ≡ cond (m i) (Some (kept key (smallest key (ports m i)) i)) (smallest key (ports m i))
  smallest_more i = ap (smallest key) (ports_more m i) ∙ smallest_kept (m i) (ports m i) i

  -- b is the best where every marked port before it has a greater key
  pub best_by : (i b : ℕ) → b < i → m b ≡ true → ((q : ℕ) → q < i → m q ≡ true → key b ≤ key q) → ((q : ℕ) → q < b → m q ≡ true → key b < key q) → Best m key i b
  best_by i b below here least before = record {
    here = (below, here);
    least = least;
    first = λ q l t k. not_less q b (λ h. omega (arith, before q h t));
  }

-- the first marked port is the one with the smallest number
pub chosen_lowest : (cs : List Candidate) (p : ℕ) → is_marked cs p ≡ true → ((q : ℕ) → q < p → is_marked cs q ≡ false) → Chosen (λ q. q) cs p
chosen_lowest cs p e before =
    let later : (q : ℕ) → is_marked cs q ≡ true → p ≤ q = not_below (is_marked cs) p before in
    record { some = λ q t. e; none = λ h. absurd (both_ways (is_marked cs p) (h p) e); least = later; first = λ q t k. later q t }

-- at most one port is chosen
chosen_unique : (key : ℕ → ℕ) (cs : List Candidate) (p q : ℕ) → Chosen key cs p → Chosen key cs q → p ≡ q
chosen_unique key cs p q a b = ⊎_elim
    (λ (e : is_marked cs p ≡ true).
    let f : is_marked cs q ≡ true = b.some p e in
    let x = a.least q f in
    let y = b.least p e in
    let same : key q ≡ key p = omega arith in
    let v = a.first q f same in
    let w = b.first p e (sym same) in
    let r : p ≡ q = omega arith in r)
    (λ (e : is_marked cs p ≡ false).
    let h : (r : ℕ) → is_marked cs r ≡ false = λ r. refuted (is_marked cs r) (λ t. both_ways (is_marked cs p) e (a.some r t)) in
    a.none h ∙ sym (b.none h))
    (cases_Bool (is_marked cs p))

-- the answer r to a search is the marked port with the smallest key, by its definition and as said of all marked ports
abbrev pub Finds : (ℕ → ℕ) → List Candidate → Option ℕ → Type 0
Finds key cs r = record { value : r ≡ least_marked key cs; law : Chosen key cs (unwrap_or r 256) }

-- no port is marked
pub finds_none : (key : ℕ → ℕ) (cs : List Candidate) → ((q : ℕ) → is_marked cs q ≢ true) → Finds key cs None
finds_none key cs never = record { value = same (least_marked key cs) (sofar_least key cs); law = chosen_none key cs never }
  where
    same : (o : Option ℕ) → Sofar (is_marked cs) key (length (that_count cs)) o → None ≡ o
    same None s = refl
    same (Some b) s = absurd (never b s.here.1)

-- a marked port is chosen
pub finds_some : (key : ℕ → ℕ) (cs : List Candidate) (p : ℕ) → is_marked cs p ≡ true → Chosen key cs p → Finds key cs (Some p)
finds_some key cs p e chosen = record { value = same (least_marked key cs) (sofar_least key cs); law = chosen }
  where
    same : (o : Option ℕ) → Sofar (is_marked cs) key (length (that_count cs)) o → Some p ≡ o
    same None s = absurd (both_ways (is_marked cs p) (s p (counts cs p e)) e)
    same (Some b) s = ap (λ (n : ℕ). Some n) (chosen_unique key cs p b chosen (chosen_sofar key cs (length (that_count cs)) (Some b) (omega arith) s))

-- the best of all that count was kept
pub finds_sofar : (key : ℕ → ℕ) (cs : List Candidate) (i : ℕ) (best : Option ℕ) → length (that_count cs) ≤ i → Sofar (is_marked cs) key i best → Finds key cs best
finds_sofar key cs i None all s = finds_none key cs (λ q t. both_ways (is_marked cs q) (s q (omega (arith, counts cs q t))) t)
finds_sofar key cs i (Some b) all s = finds_some key cs b s.here.1 (chosen_sofar key cs i (Some b) all s)

-- what the code reads in the slice of the candidates that count
module _ (cs counted : List Candidate) (is : counted ≡ that_count cs) where
  pub read_marked : (p : ℕ) (b : Bool) → b ≡ (slice_index_or counted p nobody).marked → is_marked cs p ≡ b
  read_marked p b r = sym (r ∙ ap (λ (l : List Candidate). (slice_index_or l p nobody).marked) is)

  pub read_few : length counted ≤ 256
  read_few = omega (arith, few cs, ap length is)

  pub read_counts : (p : ℕ) → is_marked cs p ≡ true → p < length counted
  read_counts p e = omega (arith, counts cs p e, ap length is)

-- the best of all that count is the marked port with the smallest key
pub sofar_is_least : (key : ℕ → ℕ) (cs : List Candidate) (r : Option ℕ) → Sofar (is_marked cs) key (length (that_count cs)) r → r ≡ least_marked key cs
sofar_is_least key cs r s = (finds_sofar key cs (length (that_count cs)) r (omega arith) s).value

-- so is the answer of a search that is `None` where no port that counts is marked, and else the best
pub is_least : (key : ℕ → ℕ) (cs : List Candidate) (r : Option ℕ) → (r ≡ None → (q : ℕ) → q < length (that_count cs) → is_marked cs q ≡ false) → ((p : ℕ) → r ≡ Some p → Best (is_marked cs) key (length (that_count cs)) p) → r ≡ least_marked key cs
is_least key cs None none some = sofar_is_least key cs None (none refl)
is_least key cs (Some p) none some = sofar_is_least key cs (Some p) (some p refl)

-- so it is the best by its number
pub first_is_best : (cs : List Candidate) (p : ℕ) → is_marked cs p ≡ true → ((q : ℕ) → q < p → is_marked cs q ≡ false) → Best (is_marked cs) (λ q. q) (length (that_count cs)) p
first_is_best cs p here before =
    best_by (is_marked cs) (λ q. q) (length (that_count cs)) p (counts cs p here) here
    (λ q l t. not_below (is_marked cs) p before q t)
    (λ q h t. absurd (both_ways (is_marked cs q) (before q h) t))

-- so is an answer that equals it
pub chosen_by : (key : ℕ → ℕ) (cs : List Candidate) (p : ℕ) → p ≡ picked key cs → Chosen key cs p
chosen_by key cs p is = subst (Chosen key cs) (sym is) (chosen_picked key cs)
