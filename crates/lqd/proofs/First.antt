-- Why no schedule sends more than the switch as long as no arrival comes after the first tick. Assumes nothing.
-- q and o are what the switch and the schedule hold for each port, S and T what they have sent; a prime marks what they are after the event.
use Rattle.std.proofs.Common.{◌≡◌, ℕ, ◌+◌, ◌-◌, ◌<◌, ◌≤◌, min, ◌⊎◌, sym, ap, ◌∙◌, subst, inl, inr, ⊎_elim, arith}
use Rattle.std.proofs.lemmas.Bool.{cases_eq}
use Rattle.lqd.specs.Ports.{in_all, one}
use Rattle.lqd.proofs.Sums.{sums_weigh, sums_le, sums_same, sums_zero, one_here, one_other, one_small, all_or_some}
use Rattle.lqd.proofs.Moves.{Takes, Drops, drops_held, drops_level}

-- at level i: no cell counted above i, the schedule has no more than the switch
abbrev pub Ahead : ℕ → (ℕ → ℕ) → ℕ → (ℕ → ℕ) → ℕ → ℕ → Type 0
Ahead n q S o T i = T + in_all n (λ p. min (o p) i) ≤ S + in_all n (λ p. min (q p) i)

-- a tick: level i comes from level i + 1
pub ahead_tick : (n : ℕ) (q q' o o' t : ℕ → ℕ) (S T i : ℕ) → ((p : ℕ) → p < n → q' p ≡ q p - 1) → ((p : ℕ) → p < n → t p ≤ 1) → ((p : ℕ) → p < n → o' p + t p ≤ o p) → Ahead n q S o T (i + 1) → Ahead n q' (S + in_all n (λ p. min (q p) 1)) o' (T + in_all n t) i
ahead_tick n q q' o o' t S T i shorter once sent before =
    let sums = sums_weigh 1 n t (λ p. min (o' p) i) (λ p. min (q p) (i + 1)) (λ p. min (o p) (i + 1)) (λ p. min (q p) 1) (λ p. min (q' p) i)
    (λ p l. omega (arith, shorter p l, once p l, sent p l)) in
    omega arith

pub ahead_end : (n : ℕ) (q o : ℕ → ℕ) (S T : ℕ) → Ahead n q S o T 0 → T ≤ S
ahead_end n q o S T h = omega (arith, sums_zero n, sums_same n (λ p. min (q p) 0) (λ p. 0) (λ p l. omega arith))

-- while only arrivals have come, no queue is shorter than what the schedule holds for its port, or the memory is full and every queue that is has no queue more than one longer
pub record Level (n b : ℕ) (q o : ℕ → ℕ) : Type 0 where
  pub full : in_all n q ≡ b
  pub each : (p : ℕ) → p < n → (o p ≤ q p) ⊎ ((r : ℕ) → r < n → q r ≤ q p + 1)

abbrev pub Matched : ℕ → ℕ → (ℕ → ℕ) → (ℕ → ℕ) → Type 0
Matched n b q o = ((p : ℕ) → p < n → o p ≤ q p) ⊎ Level n b q o

pub matched_room : (n b k : ℕ) (q q' o o' : ℕ → ℕ) → Takes n b k q q' → ((p : ℕ) → p < n → o' p ≤ o p + one k p) → Matched n b q o → Matched n b q' o'
matched_room n b k q q' o o' t taken (inl all) = inl (λ p l. omega (arith, t.longer p l, taken p l, all p l))
matched_room n b k q q' o o' t taken (inr level) = absurd (omega (arith, t.room, level.full))

module _ (n b k : ℕ) (q q' o o' : ℕ → ℕ) (port : k < n) (d : Drops n b k q q') (taken : (p : ℕ) → p < n → o' p ≤ o p + one k p) where
  -- no queue becomes longer than it was, or than the loser's was
  grows_to : (r : ℕ) → r < n → (q' r ≤ q r) ⊎ (q' r ≤ q d.v)
  grows_to r l = ⊎_elim
      (λ (e : r ≡ k). ⊎_elim
      (λ (same : d.v ≡ k). inl (omega (arith, d.changed r l, one_small k r, subst (λ u. one u r ≡ 1) (e ∙ sym same) (one_here r))))
      (λ (ne : d.v ≡ k → ⊥). inr (omega (arith, d.changed r l, d.longest r l, one_other k d.v ne)))
      (cases_eq d.v k))
      (λ (ne : r ≡ k → ⊥). inl (omega (arith, d.changed r l, one_other k r ne)))
      (cases_eq r k)

  other_level : (p : ℕ) → p < n → (p ≡ d.v → ⊥) → (o p ≤ q p) ⊎ ((r : ℕ) → r < n → q r ≤ q p + 1) → (o' p ≤ q' p) ⊎ ((r : ℕ) → r < n → q' r ≤ q' p + 1)
  other_level p l ne (inl h) = inl (omega (arith, one_other d.v p ne, d.changed p l, taken p l))
  other_level p l ne (inr h) = inr (λ r m. ⊎_elim
      (λ (own : q' r ≤ q r). omega (arith, one_other d.v p ne, d.changed p l, h r m))
      (λ (loser : q' r ≤ q d.v). omega (arith, one_other d.v p ne, d.changed p l, h d.v d.port))
      (grows_to r m))

  each_level : ((p : ℕ) → p < n → (o p ≤ q p) ⊎ ((r : ℕ) → r < n → q r ≤ q p + 1)) → (p : ℕ) → p < n → (o' p ≤ q' p) ⊎ ((r : ℕ) → r < n → q' r ≤ q' p + 1)
  each_level each p l = ⊎_elim
      (λ (e : p ≡ d.v). inr (λ r m. omega (arith, ap q' e, drops_level n b k q q' d r m)))
      (λ (ne : p ≡ d.v → ⊥). other_level p l ne (each p l))
      (cases_eq p d.v)

  pub matched_full : Matched n b q o → Matched n b q' o'
  matched_full (inl all) = inr (record { full = drops_held n b k q q' port d; each = each_level (λ p l. inl (all p l)) })
  matched_full (inr level) = inr (record { full = drops_held n b k q q' port d; each = each_level level.each })

-- a queue that is shorter, and shorter than the level i, shows that no queue is longer than i
level_whole : (n b : ℕ) (q o : ℕ → ℕ) (p i : ℕ) → in_all n o ≤ b → in_all n q ≡ b → min (q p) i < min (o p) i → (o p ≤ q p) ⊎ ((r : ℕ) → r < n → q r ≤ q p + 1) → in_all n (λ r. min (o r) i) ≤ in_all n (λ r. min (q r) i)
level_whole n b q o p i fits full less (inl h) = absurd (omega arith)
level_whole n b q o p i fits full less (inr h) =
    omega (arith, sums_le n (λ r. min (o r) i) o (λ r l. omega arith), sums_same n (λ r. min (q r) i) q (λ r l. omega (arith, h r l)))

matched_sums : (n b : ℕ) (q o : ℕ → ℕ) (i : ℕ) → in_all n o ≤ b → Matched n b q o → in_all n (λ p. min (o p) i) ≤ in_all n (λ p. min (q p) i)
matched_sums n b q o i fits (inl all) = sums_le n (λ p. min (o p) i) (λ p. min (q p) i) (λ p l. omega (arith, all p l))
matched_sums n b q o i fits (inr level) = ⊎_elim
    (λ (all : (p : ℕ) → p < n → min (o p) i ≤ min (q p) i). sums_le n (λ p. min (o p) i) (λ p. min (q p) i) all)
    (λ (some : (p : ℕ) × (p < n) × (min (q p) i < min (o p) i)). level_whole n b q o some.0 i fits level.full some.2 (level.each some.0 some.1))
    (all_or_some n (λ p. min (o p) i) (λ p. min (q p) i))

-- nothing has been sent yet
pub ahead_matched : (n b : ℕ) (q o : ℕ → ℕ) (S T i : ℕ) → T ≡ 0 → in_all n o ≤ b → Matched n b q o → Ahead n q S o T i
ahead_matched n b q o S T i none fits matched = omega (arith, matched_sums n b q o i fits matched)
