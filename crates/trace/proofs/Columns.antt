-- Where the letter, the fields and the octet 10 of a line stand. Assumes nothing.
use Rattle.std.proofs.Common.{◌≡◌, ℕ, true, List, [], ◌∷◌, ◌++◌, length, get_or, take, drop, sym, ap, ◌∙◌, append_assoc, arith, length-append, take-append-drop}
use Rattle.std.proofs.lemmas.List.{drop_more, drop-drop, drop_all, take_at, drop_at, get_or_at, get_or-append_right}
use Rattle.std.proofs.lemmas.Bool.{and_parts, and_from, eqb-true, eq-eqb}
use Rattle.trace.specs.Field.{field}
use Rattle.trace.specs.Line.{line_of, field_at, shaped}

-- a letter, two parts and octet 10
abbrev pub framed : ℕ → List ℕ → List ℕ → List ℕ
framed letter x y = letter ∷ (x ++ (y ++ 10 ∷ []))

pub shaped_parts : (s : List ℕ) → shaped s ≡ true → (length s ≡ 18) × (get_or s 17 0 ≡ 10)
shaped_parts s e = let p = and_parts _ _ e in (eqb-true _ _ p.0, eqb-true _ _ p.1)

-- a line of that shape is framed by its parts
pub shaped_framed : (s : List ℕ) → shaped s ≡ true → s ≡ framed (get_or s 0 0) (field_at 0 s) (field_at 1 s)
shaped_framed s e =
    let long = (shaped_parts s e).0 in
    let end : drop 17 s ≡ 10 ∷ [] = drop_more s 17 0 (omega arith) ∙ (λ i. (shaped_parts s e).1 i ∷ drop_all 18 s (omega arith) i) in
    let second : drop 9 s ≡ field_at 1 s ++ 10 ∷ [] = sym (take-append-drop 8 (drop 9 s)) ∙ ap (λ l. field_at 1 s ++ l) (drop-drop 8 9 s ∙ end) in
    let first : drop 1 s ≡ field_at 0 s ++ (field_at 1 s ++ 10 ∷ []) = sym (take-append-drop 8 (drop 1 s)) ∙ ap (λ l. field_at 0 s ++ l) (drop-drop 8 1 s ∙ second) in
    drop_more s 0 0 (omega arith) ∙ ap (λ l. get_or s 0 0 ∷ l) first

module _ (letter : ℕ) (x y : List ℕ) (ex : length x ≡ 8) (ey : length y ≡ 8) where
  pub framed_shaped : shaped (framed letter x y) ≡ true
  framed_shaped =
      and_from _ _
      (eq-eqb _ _ (omega (arith, length-append x (y ++ 10 ∷ []), length-append y (10 ∷ []))))
      (eq-eqb _ _ (get_or-append_right x (y ++ 10 ∷ []) 8 16 0 ex (omega arith) ∙ get_or_at y 10 [] 0 8 ey))

  pub framed_first : field_at 0 (framed letter x y) ≡ x
  framed_first = take_at x (y ++ 10 ∷ []) 8 ex

  pub framed_second : field_at 1 (framed letter x y) ≡ y
  framed_second = ap (take 8) (drop_at x (y ++ 10 ∷ []) 8 ex) ∙ take_at y (10 ∷ []) 8 ey

-- a line of two numbers is framed by their fields
pub line_framed : (letter a b : ℕ) → line_of letter (a ∷ b ∷ []) ≡ framed letter (field a) (field b)
line_framed letter a b =
    ap (λ l. letter ∷ l) (append_assoc (field a) (field b ++ []) (10 ∷ []) ∙ ap (λ l. field a ++ l) (append_assoc (field b) [] (10 ∷ [])))
