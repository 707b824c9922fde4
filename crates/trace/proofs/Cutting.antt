-- Lines: the first has the length that `line_length` says, and all of them together are the text. Assumes nothing.
use Rattle.std.proofs.Common.{◌≡◌, ℕ, zero, suc, ◌+◌, ◌<◌, ◌≤◌, min, Bool, true, false, cond, eqb, Some, None, Option, MatchOption, Bor, List, [], ◌∷◌, ◌++◌, length, take, drop, sym, refl, ap, ◌∙◌, arith}
use Rattle.std.specs.List.{flat_map, IsFirstMatchOrLen}
use Rattle.std.specs.Option.{option_map_or}
use Rattle.std.specs.Fn.{ComputesKey, Mut}
use Rattle.std.proofs.lemmas.List.{take_at, drop_at, nil_from_length}
use Rattle.trace.specs.Text.{line_length, in_front, lines_of, Cut, LosesNothing}

-- a line is a part of its text
pub line_fits : (t : List ℕ) → line_length t ≤ length t
unfolding line_length
line_fits [] = omega arith
line_fits (c ∷ cs) =
    elim (eqb c 10) as (λ b. cond b 1 (suc (line_length cs)) ≤ suc (length cs)) [ true ↦ omega arith | false ↦ omega (arith, line_fits cs) ]

pub line_some : (t : List ℕ) → 0 < length t → 0 < line_length t
unfolding line_length
line_some [] h = absurd (omega arith)
line_some (c ∷ cs) h = elim (eqb c 10) as (λ b. 0 < cond b 1 (suc (line_length cs))) [ true ↦ omega arith | false ↦ omega arith ]

-- the octets before the first octet 10, and that one, are the first line; all are, where there is none
first_match : (t : List ℕ) (i : ℕ) → IsFirstMatchOrLen (λ c. eqb c 10) t i → min (i + 1) (length t) ≡ line_length t
unfolding line_length
first_match [] i h = omega arith
first_match (c ∷ cs) zero h = omega arith ∙ sym (ap (λ b. cond b 1 (suc (line_length cs))) (h.1 (omega arith) 0))
first_match (c ∷ cs) (suc i) h =
    omega (arith, first_match cs i ((λ k d _ l. h.0 (suc k) d (omega arith) (omega arith)), λ l d. h.1 (omega arith) d))
    ∙ sym (ap (λ b. cond b 1 (suc (line_length cs))) (h.0 0 0 (omega arith) (omega arith)))

-- the octets of a text through its first octet 10 are cut off
pub cut_there : (t l r : List ℕ) (n : ℕ) → l ≡ take n t → r ≡ drop n t → n ≡ line_length t → Cut t l r
cut_there t l r n front back is = record { front = front ∙ ap (λ k. take k t) is; back = back ∙ ap (λ k. drop k t) is }

-- what an iterator that splits the text t behind each octet that passes its test f tells of the part l that it gives: t is l and the rest r, and f' is its test after that
module _ {F : Type 0} (g : Mut F (Bor ℕ × Unit {0}) Bool) where
  abbrev pub Part : List ℕ → F → List ℕ → List ℕ → F → Type 0
  Part t f l r f' = (t ≡ l ++ r) × ((i : ℕ) × (length l ≡ min (i + 1) (length t)) × ((p : ℕ → Bool) → ComputesKey g p f → ComputesKey g p f' × IsFirstMatchOrLen p t i)) × (0 < length t)

  -- such a part is the first line
  pub part_length : (t l r : List ℕ) (f f' : F) → Part t f l r f' → ComputesKey g (λ c. eqb c 10) f → length l ≡ line_length t
  part_length t l r f f' part key = part.1.1 ∙ first_match t part.1.0 (part.1.2 (λ c. eqb c 10) key).1

  pub part_cut : (t l r : List ℕ) (f f' : F) → Part t f l r f' → ComputesKey g (λ c. eqb c 10) f → Cut t l r
  part_cut t l r f f' part key =
      let here = part_length t l r f f' part key in
      cut_there t l r (length l) (sym (ap (take (length l)) part.0 ∙ take_at l r (length l) refl)) (sym (ap (drop (length l)) part.0 ∙ drop_at l r (length l) refl)) here

  -- the first part has the length of the first line; without a part there is no line
  pub next_length : (t r : List ℕ) (f f' : F) (part : Option (Bor (List ℕ))) (Same : Type 0) → ComputesKey g (λ c. eqb c 10) f → MatchOption part ((length t ≡ 0) × Same) (λ l. Part t f l.now r f') → option_map_or (λ l. length l.now) part 0 ≡ line_length t
  unfolding line_length
  next_length t r f f' None Same key none = sym (ap line_length (nil_from_length t none.0))
  next_length t r f f' (Some l) Same key part = part_length t l.now r f f' part key

-- the first line, and then the lines of the rest
abbrev Begins : Bool → ℕ → List ℕ → Type 0
Begins b c cs =
    let n = cond b 1 (suc (line_length cs)) in
    cond b ((c ∷ []) ∷ lines_of cs) (in_front c (lines_of cs)) ≡ take n (c ∷ cs) ∷ lines_of (drop n (c ∷ cs))

first_line : (c : ℕ) (cs : List ℕ) → Begins (eqb c 10) c cs
unfolding line_length lines_of
first_line c [] = elim (eqb c 10) as (λ b. Begins b c []) [ true ↦ refl | false ↦ refl ]
first_line c (d ∷ ds) = elim (eqb c 10) as (λ b. Begins b c (d ∷ ds)) [ true ↦ refl | false ↦ ap (in_front c) (first_line d ds) ]

join_front : (c : ℕ) (ls : List (List ℕ)) → flat_map (λ x. x) (in_front c ls) ≡ c ∷ flat_map (λ x. x) ls
join_front c [] = refl
join_front c (l ∷ ls) = refl

pub join_lines : (t : List ℕ) → flat_map (λ x. x) (lines_of t) ≡ t
unfolding lines_of
join_lines [] = refl
join_lines (c ∷ cs) =
    elim (eqb c 10) as (λ b. flat_map (λ x. x) (cond b ((c ∷ []) ∷ lines_of cs) (in_front c (lines_of cs))) ≡ c ∷ cs) [ true ↦ ap (λ l. c ∷ l) (join_lines cs) | false ↦ join_front c (lines_of cs) ∙ ap (λ l. c ∷ l) (join_lines cs) ]

next_line : (t : List ℕ) → 0 < length t → lines_of t ≡ take (line_length t) t ∷ lines_of (drop (line_length t) t)
unfolding line_length lines_of
next_line [] h = absurd (omega arith)
next_line (c ∷ cs) h = first_line c cs

pub no_line : (t : List ℕ) → length t ≡ 0 → lines_of t ≡ []
unfolding lines_of
no_line [] h = refl
no_line (c ∷ cs) h = absurd (omega arith)

pub loses_nothing : (t l r : List ℕ) → Cut t l r → LosesNothing t l r
loses_nothing t l r c = record {
  next = λ h. next_line t h ∙ (λ i. sym c.front i ∷ lines_of (sym c.back i));
  end = no_line t;
  whole = join_lines t;
}

-- the same of a text that is cut there
pub lines_kept : (t l r : List ℕ) (n : ℕ) → n ≡ line_length t → l ≡ take n t → r ≡ drop n t → LosesNothing t l r
lines_kept t l r n is front back = loses_nothing t l r (cut_there t l r n front back is)
