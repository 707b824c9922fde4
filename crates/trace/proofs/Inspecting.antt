-- What the lines that were gone through have in them, one line after the other. Assumes nothing.
use Rattle.std.proofs.Common.{◌≡◌, ℕ, zero, suc, ◌+◌, ◌-◌, ◌<◌, ◌≤◌, Bool, true, false, cond, eqb, ltb, List, [], ◌∷◌, ◌++◌, length, get_or, take, set, replicate, Some, None, Ok, Err, Result, sym, refl, ap, ◌∙◌, subst, ⊎_elim, append_assoc, append-nil, arith, length-append, length-drop, length-set, length-take}
use lib.ListN.{get_or-replicate}
use Rattle.std.specs.Result.{result_err}
use Rattle.std.proofs.lemmas.List.{length_push, get_or_append_left, get_or_push, get_or_at, get_or-set_same, get_or-set_other, nil_from_length}
use Rattle.std.proofs.lemmas.List.Sums.{sum_by_push, sum_by-set}
use Rattle.std.proofs.lemmas.Bool.{cases_eq, cases_lt, eq-eqb, ne_eqb, ltb-true}
use Rattle.refusal.specs.declared.Refusal.{Refusal}
use Rattle.refusal.specs.declared.Refusal.TheVariants.{NoSuchPort}
use Rattle.trace.specs.declared.events.Event.{Event}
use Rattle.trace.specs.declared.events.Event.TheVariants.{Arrival, Tick}
use Rattle.trace.specs.declared.damage.Damage.{Damage}
use Rattle.trace.specs.declared.summary.Summary.{Summary}
use Rattle.trace.specs.Line.{head_in, event_in}
use Rattle.trace.specs.Rule.{letter_of}
use Rattle.trace.specs.declared.rule.Rule.{Rule}
use Rattle.trace.specs.Text.{line_length, lines_of, Cut, LosesNothing}
use Rattle.trace.specs.Counting.{raised, tallied, counted}
use Rattle.trace.specs.Inspection.{for_ports, event_for, ports_of, refusal_at, is_arrival, is_arrival_for, is_tick, how_many, Whole, Damaged, AddsUp}
use Rattle.trace.proofs.Cutting.{line_some, no_line}
use Rattle.trace.proofs.Verdicts.{err_ok, unless_ok, ok_same}

-- the lines es are events, and s has counted them
pub record Counts (es : List (List ℕ)) (s : Summary) : Type 0 where
  pub taken : (i : ℕ) → i < length es → result_err (event_for s.ports (get_or es i [])) ≡ None
  pub lines : s.lines ≡ 1 + length es
  pub arrivals : s.arrivals ≡ how_many is_arrival es
  pub ticks : s.ticks ≡ how_many is_tick es
  pub tally : (p : ℕ) → p < 256 → get_or s.tally p 0 ≡ how_many (is_arrival_for p) es
  pub wide : length s.tally ≡ 256
  pub adds : AddsUp s

-- the text goes on, after its head and the lines es, with rest
pub record Sofar (text : List ℕ) (s : Summary) (rest : List ℕ) : Type 0 where
  pub first : List ℕ
  pub es : List (List ℕ)
  pub split : lines_of text ≡ first ∷ (es ++ lines_of rest)
  pub head : head_in first ≡ Ok (letter_of s.rule, s.ports, s.cells)
  pub few : s.ports ≤ 256
  pub counts : Counts es s
  pub room : s.lines + length rest ≤ length text

-- an event that is taken is what the line says, for a port that there is
abbrev InPorts : ℕ → Event → Type 0
InPorts n (Arrival port tag) = port < n
InPorts n Tick = Unit {0}

for_ports_lem : (n : ℕ) (r : Result Event Refusal) (e : Event) → for_ports n r ≡ Ok e → (r ≡ Ok e) × InPorts n e
for_ports_lem n (Ok (Arrival port tag)) e h =
    let p = unless_ok (ltb port n) NoSuchPort (Ok (Arrival port tag)) e h in
    (p.1, subst (InPorts n) (ok_same p.1) (ltb-true _ _ p.0))
for_ports_lem n (Ok Tick) e h = (h, subst (InPorts n) {x = Tick} (ok_same h) tt)
for_ports_lem n (Err refusal) e h = absurd (err_ok h)

pub event_taken : (n : ℕ) (s : List ℕ) (e : Event) → event_for n s ≡ Ok e → (event_in s ≡ Ok e) × InPorts n e
event_taken n s e h = for_ports_lem n (event_in s) e h

fewer_ports : (e : Event) (n : ℕ) → n ≤ 256 → InPorts n e → InPorts 256 e
fewer_ports (Arrival port tag) n h inside = omega arith
fewer_ports Tick n h inside = tt

-- one more line
count_push : (kind : Result Event Refusal → Bool) (es : List (List ℕ)) (s : List ℕ) (e : Event) → event_in s ≡ Ok e → how_many kind (es ++ s ∷ []) ≡ how_many kind es + cond (kind (Ok e)) 1 0
count_push kind es s e h =
    sum_by_push (λ l. cond (kind (event_in l)) 1 0) es s ∙ ap (λ r. how_many kind es + cond (kind r) 1 0) h

taken_push : (n : ℕ) (es : List (List ℕ)) (s : List ℕ) (e : Event) → ((i : ℕ) → i < length es → result_err (event_for n (get_or es i [])) ≡ None) → event_for n s ≡ Ok e → (i : ℕ) → i < length (es ++ s ∷ []) → result_err (event_for n (get_or (es ++ s ∷ []) i [])) ≡ None
taken_push n es s e taken h i l =
    ⊎_elim
    (λ (before : i < length es). ap (λ x. result_err (event_for n x)) (get_or_append_left es (s ∷ []) [] i before) ∙ taken i before)
    (λ (last : length es ≤ i).
    let at : length es ≡ i = omega (arith, length_push es s) in
    ap (λ x. result_err (event_for n x)) (get_or_push es s [] i at) ∙ ap result_err h)
    (cases_lt i (length es))

tally_push : (tally : List ℕ) (port p : ℕ) → port < length tally → get_or (set tally port (get_or tally port 0 + 1)) p 0 ≡ get_or tally p 0 + cond (eqb port p) 1 0
tally_push tally port p h =
    ⊎_elim
    (λ (e : p ≡ port).
    ap (λ k. get_or (set tally port (get_or tally port 0 + 1)) k 0) e
    ∙ get_or-set_same tally port (get_or tally port 0 + 1) 0 h
    ∙ (λ i. get_or tally (sym e i) 0 + cond (sym (eq-eqb port p (sym e)) i) 1 0))
    (λ (ne : p ≡ port → ⊥).
    get_or-set_other tally port p (get_or tally port 0 + 1) 0 ne
    ∙ omega arith
    ∙ ap (λ b. get_or tally p 0 + cond b 1 0) (sym (ne_eqb port p (λ e. ne (sym e)))))
    (cases_eq p port)

raised_is : (b : Bool) (n : ℕ) → raised b n ≡ n + cond b 1 0
raised_is true n = refl
raised_is false n = omega arith

-- what one more event makes of a count, of the tally, and of their sums
module _ (es : List (List ℕ)) (s : Summary) (line : List ℕ) (c : Counts es s) where
  how_many_more : (kind : Result Event Refusal → Bool) (n : ℕ) (e : Event) → n ≡ how_many kind es → event_in line ≡ Ok e → raised (kind (Ok e)) n ≡ how_many kind (es ++ line ∷ [])
  how_many_more kind n e h is =
      raised_is (kind (Ok e)) n ∙ ap (λ m. m + cond (kind (Ok e)) 1 0) h ∙ sym (count_push kind es line e is)

  tally_more : (e : Event) → event_in line ≡ Ok e → InPorts 256 e → (p : ℕ) → p < 256 → get_or (tallied s.tally e) p 0 ≡ how_many (is_arrival_for p) (es ++ line ∷ [])
  tally_more (Arrival port tag) is inside p l =
      tally_push s.tally port p (omega (arith, c.wide)) ∙ ap (λ n. n + cond (eqb port p) 1 0) (c.tally p l) ∙ sym (count_push (is_arrival_for p) es line (Arrival port tag) is)
  tally_more Tick is inside p l = omega (arith, c.tally p l, count_push (is_arrival_for p) es line Tick is)

  wide_more : (e : Event) → length (tallied s.tally e) ≡ 256
  wide_more (Arrival port tag) = length-set s.tally port (get_or s.tally port 0 + 1) ∙ c.wide
  wide_more Tick = c.wide

  adds_more : (e : Event) → InPorts 256 e → AddsUp (counted s e)
  adds_more (Arrival port tag) inside = record {
    lines = omega (arith, c.adds.lines);
    ports = omega (arith, c.adds.ports, sum_by-set (λ x. x) s.tally port (get_or s.tally port 0 + 1) 0 (omega (arith, c.wide)));
  }
  adds_more Tick inside = record { lines = omega (arith, c.adds.lines); ports = c.adds.ports }

  pub counts_more : (e : Event) → s.ports ≤ 256 → event_for s.ports line ≡ Ok e → Counts (es ++ line ∷ []) (counted s e)
  counts_more e few h =
      let t = event_taken s.ports line e h in
      let inside = fewer_ports e s.ports few t.1 in
      record {
        taken = taken_push s.ports es line e c.taken h;
        lines = omega (arith, c.lines, length_push es line);
        arrivals = how_many_more is_arrival s.arrivals e c.arrivals t.0;
        ticks = how_many_more is_tick s.ticks e c.ticks t.0;
        tally = tally_more e t.0 inside;
        wide = wide_more e;
        adds = adds_more e inside;
      }

pub counts_none : (rule : Rule) (ports cells : ℕ) → Counts [] (record { rule = rule; ports = ports; cells = cells; lines = 1; arrivals = 0; ticks = 0; tally = replicate 256 0 })
counts_none rule ports cells = record {
  taken = λ i h. absurd (omega arith);
  lines = refl;
  arrivals = refl;
  ticks = refl;
  tally = λ p h. get_or-replicate 256 p 0 0 h;
  wide = refl;
  adds = record { lines = refl; ports = refl };
}

-- the refusals of a head and the lines es after it, which were taken
module _ (first : List ℕ) (es more : List (List ℕ)) (s : Summary) (h : head_in first ≡ Ok (letter_of s.rule, s.ports, s.cells)) (c : Counts es s) where
  none_before : (i : ℕ) → i < 1 + length es → refusal_at (first ∷ (es ++ more)) i ≡ None
  none_before zero l = ap result_err h
  none_before (suc i) l =
      let inside : i < length es = omega arith in
      (λ j. result_err (event_for (ports_of (h j)) (get_or_append_left es more [] i inside j))) ∙ c.taken i inside

whole_of : (first : List ℕ) (es : List (List ℕ)) (s : Summary) → head_in first ≡ Ok (letter_of s.rule, s.ports, s.cells) → Counts es s → Whole (first ∷ es) s
whole_of first es s h c = record {
  head = h;
  taken = λ i l. ap (λ m. refusal_at (first ∷ m) i) (sym (append-nil es)) ∙ none_before first es [] s h c i (omega arith);
  lines = omega (arith, c.lines);
  arrivals = c.arrivals;
  ticks = c.ticks;
  tally = c.tally;
}

damaged_at : (first : List ℕ) (es more : List (List ℕ)) (line : List ℕ) (s : Summary) → head_in first ≡ Ok (letter_of s.rule, s.ports, s.cells) → Counts es s → (d : Damage) → d.line ≡ s.lines + 1 → event_for s.ports line ≡ Err d.refusal → Damaged (first ∷ (es ++ line ∷ more)) d
damaged_at first es more line s h c d here e =
    let at : d.line - 1 ≡ suc (length es) = omega (arith, c.lines) in
    let found : result_err (event_for (ports_of (head_in first)) (get_or (es ++ line ∷ more) (length es) [])) ≡ Some d.refusal =
    (λ j. result_err (event_for (ports_of (h j)) (get_or_at es line more [] (length es) refl j))) ∙ ap result_err e in
    record {
      within = (omega arith, omega (arith, c.lines, length-append es (line ∷ more)));
      here = ap (refusal_at (first ∷ (es ++ line ∷ more))) at ∙ found;
      before = λ i l. none_before first es (line ∷ more) s h c i (omega (arith, c.lines));
    }

-- an empty text gives an empty line
cut_empty : (t l r : List ℕ) → Cut t l r → length t ≡ 0 → l ≡ []
cut_empty t l r c empty = c.front ∙ nil_from_length (take (line_length t) t) (simp length-take (omega arith))

-- a text begins with the line that is cut off, also where it is empty
first_line_is : (t l r : List ℕ) → Cut t l r → LosesNothing t l r → get_or (lines_of t) 0 [] ≡ l
first_line_is t l r c k =
    ⊎_elim
    (λ (some : 0 < length t). ap (λ ls. get_or ls 0 []) (k.next some))
    (λ (none : length t ≤ 0).
    let empty : length t ≡ 0 = omega arith in
    ap (λ ls. get_or ls 0 []) (k.end empty) ∙ sym (cut_empty t l r c empty))
    (cases_lt 0 (length t))

-- the rest is shorter by the line that was cut off
pub cut_shorter : (t l r : List ℕ) → 0 < length t → Cut t l r → length r < length t
cut_shorter t l r h c = omega (arith, ap length c.back ∙ length-drop (line_length t) t, line_some t h)

-- the head was read
pub sofar_none : (text first rest : List ℕ) (rule : Rule) (ports cells : ℕ) → 0 < length text → Cut text first rest → LosesNothing text first rest → head_in first ≡ Ok (letter_of rule, ports, cells) → ports ≤ 256 → Sofar text (record { rule = rule; ports = ports; cells = cells; lines = 1; arrivals = 0; ticks = 0; tally = replicate 256 0 }) rest
sofar_none text first rest rule ports cells some c k h few = record {
  first = first;
  es = [];
  split = k.next some;
  head = h;
  few = few;
  counts = counts_none rule ports cells;
  room = omega (arith, cut_shorter text first rest some c);
}

module _ (text : List ℕ) (s : Summary) (rest line after : List ℕ) (f : Sofar text s rest) (some : 0 < length rest) (c : Cut rest line after) (k : LosesNothing rest line after) where
  -- one more line was taken
  pub sofar_more : (e : Event) → event_for s.ports line ≡ Ok e → Sofar text (counted s e) after
  sofar_more e h = record {
    first = f.first;
    es = f.es ++ line ∷ [];
    split = f.split ∙ ap (λ l. f.first ∷ l) (ap (λ l. f.es ++ l) (k.next some) ∙ sym (append_assoc f.es (line ∷ []) (lines_of after)));
    head = f.head;
    few = f.few;
    counts = counts_more f.es s line f.counts e f.few h;
    room = omega (arith, f.room, cut_shorter rest line after some c);
  }

  -- the line is refused: it is the first
  pub sofar_damaged : (d : Damage) → d.line ≡ s.lines + 1 → event_for s.ports line ≡ Err d.refusal → Damaged (lines_of text) d
  sofar_damaged d here h =
      let all = f.split ∙ ap (λ l. f.first ∷ (f.es ++ l)) (k.next some) in
      subst (λ ls. Damaged ls d) (sym all) (damaged_at f.first f.es (lines_of after) line s f.head f.counts d here h)

-- at the end of the text
pub sofar_whole : (text : List ℕ) (s : Summary) (rest : List ℕ) → Sofar text s rest → length rest ≡ 0 → Whole (lines_of text) s
sofar_whole text s rest f none =
    let all = f.split ∙ ap (λ l. f.first ∷ l) (ap (λ l. f.es ++ l) (no_line rest none) ∙ append-nil f.es) in
    subst (λ ls. Whole ls s) (sym all) (whole_of f.first f.es s f.head f.counts)

-- the head is refused
pub head_damaged : (text first rest : List ℕ) (d : Damage) → Cut text first rest → LosesNothing text first rest → d.line ≡ 1 → head_in first ≡ Err d.refusal → Damaged (lines_of text) d
head_damaged text first rest d c k one h =
    let at : d.line - 1 ≡ 0 = omega arith in
    record {
      within = (omega arith, omega arith);
      here = ap (refusal_at (lines_of text)) at ∙ ap (λ l. result_err (head_in l)) (first_line_is text first rest c k) ∙ ap result_err h;
      before = λ i l. absurd (omega arith);
    }

-- an empty text has no head
pub head_some : (text first rest : List ℕ) (h : ℕ × ℕ × ℕ) → Cut text first rest → head_in first ≡ Ok h → 0 < length text
unfolding head_in
head_some text first rest h c ok =
    ⊎_elim
    (λ (some : 0 < length text). some)
    (λ (none : length text ≤ 0).
    let empty : first ≡ [] = cut_empty text first rest c (omega arith) in
    absurd (err_ok (ap head_in (sym empty) ∙ ok)))
    (cases_lt 0 (length text))
