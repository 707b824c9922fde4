-- The answers to a line are those to the line that was written. Assumes nothing.
use Rattle.std.proofs.Common.{◌≡◌, ℕ, ◌≤◌, Bool, true, false, eqb, List, [], ◌∷◌, get_or, Some, None, Ok, Err, Option, Result, sym, refl, ap, ◌∙◌, subst, ⊎_elim, arith}
use Rattle.std.specs.Result.{result_unwrap_or}
use Rattle.std.specs.Str.{bytes_eq}
use Rattle.std.proofs.lemmas.Slice.Eq.{bytes_eq-Decides}
use Rattle.std.proofs.lemmas.Bool.{and_parts, and_from, le-leb, leb-true, eqb-true, cases_Bool, cond-true, cond-false}
use Rattle.refusal.specs.declared.FieldPlace.{FieldPlace}
use Rattle.refusal.specs.declared.FieldPlace.TheVariants.{First, Second}
use Rattle.refusal.specs.declared.Refusal.{Refusal}
use Rattle.refusal.specs.declared.Refusal.TheVariants.{PortCount, CellCount, LineShape, Letter, Field}
use Rattle.trace.specs.declared.events.Event.{Event}
use Rattle.trace.specs.declared.events.Event.TheVariants.{Arrival, Tick}
use Rattle.trace.specs.Field.{greatest, field, blank, number_in, Shows}
use Rattle.trace.specs.Line.{line_of, field_at, shaped, unless, within, numbers_in, with_both, in_range, head_in, arrival_in, tick_in, event_in, IsHead, IsEvent, ReadsBack}
use Rattle.trace.proofs.Fields.{length-field, number_in_field, shows_number}
use Rattle.trace.proofs.Columns.{framed, shaped_framed, framed_shaped, framed_first, framed_second, line_framed}

module _ {T : Type 0} where
  pub err_ok : {x : Refusal} {v : T} → ◌≡◌ {A = Result T Refusal} (Err x) (Ok v) → ⊥
  err_ok e = let z : ◌≡◌ {A = ℕ} 0 1 = cc in omega arith

  pub ok_same : {v w : T} → ◌≡◌ {A = Result T Refusal} (Ok v) (Ok w) → v ≡ w
  ok_same {v} {w} e = ap (λ r. result_unwrap_or r v) e

  pub unless_ok : (b : Bool) (x : Refusal) (r : Result T Refusal) (v : T) → unless b x r ≡ Ok v → (b ≡ true) × (r ≡ Ok v)
  unless_ok true x r v e = (refl, e)
  unless_ok false x r v e = absurd (err_ok e)

  both_ok : (r : Result (ℕ × ℕ) Refusal) (go : ℕ → ℕ → Result T Refusal) (v : T) → with_both r go ≡ Ok v → (p : ℕ × ℕ) × (r ≡ Ok p) × (go p.0 p.1 ≡ Ok v)
  both_ok (Ok p) go v e = (p, refl, e)
  both_ok (Err x) go v e = absurd (err_ok e)

  within_ok : (o : Option ℕ) (place : FieldPlace) (go : ℕ → Result T Refusal) (v : T) → within o place go ≡ Ok v → (n : ℕ) × (o ≡ Some n) × (go n ≡ Ok v)
  within_ok None place go v e = absurd (err_ok e)
  within_ok (Some n) place go v e = (n, refl, e)

-- numbers that were found in the fields of a line are at most the greatest, and the octets there are their fields
pub record Found (s : List ℕ) (p : ℕ × ℕ) : Type 0 where
  pub small : (p.0 ≤ greatest) × (p.1 ≤ greatest)
  pub first : field_at 0 s ≡ field p.0
  pub second : field_at 1 s ≡ field p.1

found : (s : List ℕ) (p : ℕ × ℕ) → numbers_in s ≡ Ok p → Found s p
found s p e =
    let a = within_ok _ _ _ p e in
    let b = within_ok _ _ _ p a.2 in
    let x = subst (Shows (field_at 0 s)) a.1 (shows_number (field_at 0 s)) in
    let y = subst (Shows (field_at 1 s)) b.1 (shows_number (field_at 1 s)) in
    subst (Found s) (ok_same b.2) (record { small = (x.0, y.0); first = x.1; second = y.1 })

-- so the line is the one that is written for them
numbered : (s : List ℕ) (p : ℕ × ℕ) → shaped s ≡ true → Found s p → s ≡ line_of (get_or s 0 0) (p.0 ∷ p.1 ∷ [])
numbered s p e f =
    shaped_framed s e ∙ (λ i. framed (get_or s 0 0) (f.first i) (f.second i)) ∙ sym (line_framed (get_or s 0 0) p.0 p.1)

-- what is found in a line that was written
module _ (letter a b : ℕ) (p : a ≤ greatest) (q : b ≤ greatest) where
  line_shaped : shaped (line_of letter (a ∷ b ∷ [])) ≡ true
  line_shaped = ap shaped (line_framed letter a b) ∙ framed_shaped letter (field a) (field b) (length-field a p) (length-field b q)

  line_numbers : numbers_in (line_of letter (a ∷ b ∷ [])) ≡ Ok (a, b)
  line_numbers =
      let x = ap (field_at 0) (line_framed letter a b) ∙ framed_first letter (field a) (field b) (length-field a p) (length-field b q) in
      let y = ap (field_at 1) (line_framed letter a b) ∙ framed_second letter (field a) (field b) (length-field a p) (length-field b q) in
      let first = ap number_in x ∙ number_in_field a p in
      let second = ap number_in y ∙ number_in_field b q in
      λ i. within (first i) First (λ m. within (second i) Second (λ n. Ok (m, n)))

pub in_range_lem : (low high n : ℕ) → in_range low high n ≡ true → (low ≤ n) × (n ≤ high)
in_range_lem low high n e = let p = and_parts _ _ e in (leb-true _ _ p.0, leb-true _ _ p.1)

pub range_in : (low high n : ℕ) → low ≤ n → n ≤ high → in_range low high n ≡ true
range_in low high n p q = and_from _ _ (le-leb _ _ p) (le-leb _ _ q)

-- the answer to a head, by what was found in the line
abbrev pub head_by : Bool → Bool → Result (ℕ × ℕ) Refusal → ℕ → Result (ℕ × ℕ × ℕ) Refusal
head_by shape letter numbers c =
    unless shape LineShape
    (unless letter Letter
    (with_both numbers (λ ports cells.
    unless (in_range 1 256 ports) PortCount
    (unless (in_range 1 4096 cells) CellCount
    (Ok (c, ports, cells))))))

head_from : (s : List ℕ) (h : ℕ × ℕ × ℕ) → head_in s ≡ Ok h → IsHead s h
unfolding head_in
head_from s h e =
    let a = unless_ok _ _ _ h e in
    let b = unless_ok _ _ _ h a.1 in
    let c = both_ok _ _ h b.1 in
    let d = unless_ok _ _ _ h c.2 in
    let f = unless_ok _ _ _ h d.1 in
    subst (IsHead s) (ok_same f.1) (record {
      letter = b.0;
      ports = in_range_lem 1 256 _ d.0;
      cells = in_range_lem 1 4096 _ f.0;
      octets = numbered s c.0 a.0 (found s c.0 c.1);
    })

from_head : (s : List ℕ) (h : ℕ × ℕ × ℕ) → IsHead s h → head_in s ≡ Ok h
unfolding head_in
from_head s h is =
    let small : h.1 ≤ greatest = omega (arith, is.ports) in
    let few : h.2 ≤ greatest = omega (arith, is.cells) in
    let shape = line_shaped h.0 h.1 h.2 small few in
    let numbers = line_numbers h.0 h.1 h.2 small few in
    ap head_in is.octets
    ∙ (λ i. head_by (shape i) (is.letter i) (numbers i) h.0)
    ∙ cond-true _ _ _ (range_in 1 256 h.1 is.ports.0 is.ports.1)
    ∙ cond-true _ _ _ (range_in 1 4096 h.2 is.cells.0 is.cells.1)

pub head_back : (s : List ℕ) → ReadsBack IsHead s (head_in s)
head_back s h = (head_from s h, from_head s h)

arrival_from : (s : List ℕ) (e : Event) → shaped s ≡ true → get_or s 0 0 ≡ 65 → arrival_in s ≡ Ok e → IsEvent s e
arrival_from s e shape letter ok =
    let a = both_ok (numbers_in s) _ e ok in
    let f = found s a.0 a.1 in
    let octets = numbered s a.0 shape f ∙ ap (λ c. line_of c (a.0.0 ∷ a.0.1 ∷ [])) letter in
    subst (IsEvent s) {x = Arrival a.0.0 a.0.1} (ok_same a.2) (f.small.0, f.small.1, octets)

tick_from : (s : List ℕ) (e : Event) → shaped s ≡ true → get_or s 0 0 ≡ 84 → tick_in s ≡ Ok e → IsEvent s e
tick_from s e shape letter ok =
    let b = unless_ok (bytes_eq (field_at 1 s) blank) (Field Second) (Ok Tick) e in
    let a = unless_ok (bytes_eq (field_at 0 s) blank) (Field First) _ e ok in
    let x = (bytes_eq-Decides (field_at 0 s) blank).0 a.0 in
    let y = (bytes_eq-Decides (field_at 1 s) blank).0 (b a.1).0 in
    subst (IsEvent s) {x = Tick} (ok_same (b a.1).1) (shaped_framed s shape ∙ (λ i. framed (letter i) (x i) (y i)))

event_from : (s : List ℕ) (e : Event) → event_in s ≡ Ok e → IsEvent s e
unfolding event_in
event_from s e ok =
    let a = unless_ok _ _ _ e ok in
    let c = get_or s 0 0 in
    ⊎_elim
    (λ (t : eqb c 65 ≡ true). arrival_from s e a.0 (eqb-true _ _ t) (sym (cond-true _ _ _ t) ∙ a.1))
    (λ (f : eqb c 65 ≡ false).
    let other = sym (cond-false _ _ _ f) ∙ a.1 in
    ⊎_elim
    (λ (t : eqb c 84 ≡ true). tick_from s e a.0 (eqb-true _ _ t) (sym (cond-true _ _ _ t) ∙ other))
    (λ (g : eqb c 84 ≡ false). absurd (err_ok (sym (cond-false _ _ _ g) ∙ other)))
    (cases_Bool (eqb c 84)))
    (cases_Bool (eqb c 65))

from_event : (s : List ℕ) (e : Event) → IsEvent s e → event_in s ≡ Ok e
unfolding event_in
from_event s (Arrival port tag) (p, q, is) =
    let shape = line_shaped 65 port tag p q in
    let numbers = line_numbers 65 port tag p q in
    ap event_in is ∙ (λ i. unless (shape i) LineShape (with_both (numbers i) (λ port tag. Ok (Arrival port tag))))
from_event s Tick is = ap event_in is

pub event_back : (s : List ℕ) → ReadsBack IsEvent s (event_in s)
event_back s e = (event_from s e, from_event s e)

-- so does an answer that is that of the definition
pub heads_back : (s : List ℕ) (r : Result (ℕ × ℕ × ℕ) Refusal) → r ≡ head_in s → ReadsBack IsHead s r
heads_back s r e = subst (ReadsBack IsHead s) (sym e) (head_back s)

pub events_back : (s : List ℕ) (r : Result Event Refusal) → r ≡ event_in s → ReadsBack IsEvent s r
events_back s r e = subst (ReadsBack IsEvent s) (sym e) (event_back s)
