-- What becomes of lists by port, and of queues, when one entry is changed. Assumes nothing.
use Rattle.std.proofs.Common.{◌≡◌, ℕ, zero, suc, ◌+◌, ◌-◌, ◌<◌, ◌≤◌, cond, eqb, List, [], ◌∷◌, ◌++◌, map, length, get_or, take, drop, set, replicate, count_by, sym, refl, ap, ◌∙◌, subst, ⊎_elim, arith}
use Rattle.std.proofs.lemmas.List.{length-take, length_push, get_or-set_same, get_or-set_other, set-set, set_comm, set-get_or, take_all, take-append-le}
use Rattle.std.proofs.lemmas.List.Sums.{sum_by-cons, sum_by_push, sum_by-set, sum_by-take-le}
use Rattle.std.proofs.lemmas.Bool.{cases_eq}
use Rattle.lqd.specs.Ports.{one, one_more}
use Rattle.lqd.specs.LongestQueueDrop.{Held, without_tail, cells_at}
use Rattle.lqd.proofs.Sums.{one_here, one_other}

-- one entry of a list by port is changed; f of it is one more
pub raised : {X : Type 0} (f : X → ℕ) (xs : List X) (k p : ℕ) (y d : X) → k < length xs → f y ≡ f (get_or xs k d) + 1 → f (get_or (set xs k y) p d) ≡ f (get_or xs p d) + one k p
raised f xs k p y d l e = ⊎_elim
    (λ (same : p ≡ k). subst (λ r. f (get_or (set xs k y) r d) ≡ f (get_or xs r d) + one k r) (sym same) (ap f (get_or-set_same xs k y d l) ∙ omega (arith, e, one_here k)))
    (λ (ne : p ≡ k → ⊥). omega (arith, ap f (get_or-set_other xs k p y d ne), one_other k p ne))
    (cases_eq p k)

-- or one less
pub lowered : {X : Type 0} (f : X → ℕ) (xs : List X) (k p : ℕ) (y d : X) → k < length xs → f y + 1 ≡ f (get_or xs k d) → f (get_or (set xs k y) p d) + one k p ≡ f (get_or xs p d)
lowered f xs k p y d l e = ⊎_elim
    (λ (same : p ≡ k). subst (λ r. f (get_or (set xs k y) r d) + one k r ≡ f (get_or xs r d)) (sym same) (omega (arith, ap f (get_or-set_same xs k y d l), e, one_here k)))
    (λ (ne : p ≡ k → ⊥). omega (arith, ap f (get_or-set_other xs k p y d ne), one_other k p ne))
    (cases_eq p k)

pub one_more_lem : (xs : List ℕ) (k p : ℕ) → k < length xs → get_or (one_more xs k) p 0 ≡ get_or xs p 0 + one k p
one_more_lem xs k p l = raised (λ x. x) xs k p (get_or xs k 0 + 1) 0 l refl

-- what is taken from the front of a list is as much of it as it is long
front_of : (xs ys : List Held) (m : ℕ) → m ≤ length xs → ys ≡ take m xs → ys ≡ take (length ys) xs
front_of xs ys m few e = e ∙ ap (λ k. take k xs) (let long : m ≡ length ys = omega (arith, length-take m xs, ap length e) in long)

-- a list without the last of one more
without_last : (xs : List Held) (c : Held) → take (length (xs ++ c ∷ []) - 1) (xs ++ c ∷ []) ≡ xs
without_last xs c =
    let long : length (xs ++ c ∷ []) - 1 ≡ length xs = omega (arith, length_push xs c) in
    ap (λ m. take m (xs ++ c ∷ [])) long ∙ take-append-le (length xs) xs (c ∷ []) (omega arith) ∙ take_all (length xs) xs (omega arith)

-- cell c joins queue k, and queue v loses its tail
module _ (queues : List (List Held)) (k v : ℕ) (c : Held) (joins : k < length queues) where
  abbrev pub joined : List (List Held)
  joined = set queues k (get_or queues k [] ++ c ∷ [])

  -- the same queue: it is as it was
  pub same_queue : v ≡ k → without_tail joined v ≡ queues
  same_queue e =
      let here : get_or joined v [] ≡ get_or queues k [] ++ c ∷ [] = ap (λ r. get_or joined r []) e ∙ get_or-set_same queues k (get_or queues k [] ++ c ∷ []) [] joins in
      ap (λ q. set joined v (take (length q - 1) q)) here ∙ ap (set joined v) (without_last (get_or queues k []) c) ∙ ap (λ r. set joined r (get_or queues k [])) e ∙
      set-set queues k (get_or queues k [] ++ c ∷ []) (get_or queues k []) ∙ set-get_or queues k []

  -- two queues: the order does not matter
  pub other_queue : (v ≡ k → ⊥) → without_tail joined v ≡ set (without_tail queues v) k (get_or (without_tail queues v) k [] ++ c ∷ [])
  other_queue ne =
      let tail : get_or joined v [] ≡ get_or queues v [] = get_or-set_other queues k v (get_or queues k [] ++ c ∷ []) [] ne in
      let head : get_or (without_tail queues v) k [] ≡ get_or queues k [] = get_or-set_other queues v k _ [] (λ e. ne (sym e)) in
      ap (λ q. set joined v (take (length q - 1) q)) tail ∙ set_comm queues k v (get_or queues k [] ++ c ∷ []) _ (λ e. ne (sym e)) ∙ ap (λ q. set (without_tail queues v) k (q ++ c ∷ [])) (sym head)

  -- what is left of the losing queue is the front of what it was
  pub left_in_front : v < length queues → get_or (without_tail joined v) v [] ≡ take (length (get_or (without_tail joined v) v [])) (get_or queues v [])
  left_in_front loses = ⊎_elim
      (λ (e : v ≡ k). front_of (get_or queues v []) _ (length (get_or queues v [])) (omega arith) (ap (λ (qs : List (List Held)). get_or qs v []) (same_queue e) ∙ sym (take_all (length (get_or queues v [])) (get_or queues v []) (omega arith))))
      (λ (ne : v ≡ k → ⊥). front_of (get_or queues v []) _ (length (get_or queues v []) - 1) (omega arith)
      (ap (λ (qs : List (List Held)). get_or qs v []) (other_queue ne) ∙ get_or-set_other (without_tail queues v) k v _ [] ne ∙ get_or-set_same queues v _ [] loses))
      (cases_eq v k)

-- how many cells of a queue lie at place x
abbrev pub at : ℕ → List Held → ℕ
at x q = count_by (λ cell. eqb x cell.place) q

-- one cell more
pub joined_at : (queues : List (List Held)) (k : ℕ) (c : Held) (x : ℕ) → k < length queues → cells_at (set queues k (get_or queues k [] ++ c ∷ [])) x ≡ cells_at queues x + one c.place x
joined_at queues k c x l = omega (arith, sum_by-set (at x) queues k (get_or queues k [] ++ c ∷ []) [] l, sum_by_push (λ cell. cond (eqb x cell.place) 1 0) (get_or queues k []) c)

-- a queue without its tail has no more cells anywhere
pub without_at : (queues : List (List Held)) (v x : ℕ) → v < length queues → cells_at (without_tail queues v) x ≤ cells_at queues x
without_at queues v x l = omega (arith, sum_by-set (at x) queues v (take (length (get_or queues v []) - 1) (get_or queues v [])) [] l, sum_by-take-le (λ cell. cond (eqb x cell.place) 1 0) (get_or queues v []) (length (get_or queues v []) - 1))

-- nor have the queues without their heads
head_at : (x : ℕ) (q : List Held) → at x (drop 1 q) ≤ at x q
head_at x [] = omega arith
head_at x (cell ∷ q) = omega (arith, sum_by-cons (λ cell. cond (eqb x cell.place) 1 0) cell q)

pub heads_at : (queues : List (List Held)) (x : ℕ) → cells_at (map (drop 1) queues) x ≤ cells_at queues x
heads_at [] x = omega arith
heads_at (q ∷ queues) x = omega (arith, sum_by-cons (at x) (drop 1 q) (map (drop 1) queues), sum_by-cons (at x) q queues, head_at x q, heads_at queues x)

-- no cell lies anywhere in empty queues
pub empty_at : (n x : ℕ) → cells_at (replicate n []) x ≡ 0
empty_at zero x = refl
empty_at (suc n) x = sum_by-cons (at x) [] (replicate n []) ∙ omega (arith, empty_at n x)
