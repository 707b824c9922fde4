-- A text and its lines. Assumes nothing.
--     line_length t    how many octets the first line of t has
--     lines_of t       the lines of t, in their order
--     Cut t l r        l is the first line of t, and r what comes after it
use Rattle.std.specs.Prelude.{◌≡◌, ℕ, suc, ◌<◌, cond, List, [], ◌∷◌, length, take, drop, ◌==◌}
use Rattle.std.specs.List.{flat_map}

-- a line goes through its octet 10; where there is none, the whole text is the line
unfoldable pub line_length : List ℕ → ℕ
line_length [] = 0
line_length (c ∷ cs) = cond (c == 10) 1 (suc (line_length cs))

-- an octet in front of the first line
abbrev pub in_front : ℕ → List (List ℕ) → List (List ℕ)
in_front c [] = (c ∷ []) ∷ []
in_front c (l ∷ ls) = (c ∷ l) ∷ ls

-- after an octet 10 a line begins, if any octet is left
unfoldable pub lines_of : List ℕ → List (List ℕ)
lines_of [] = []
lines_of (c ∷ cs) = cond (c == 10) ((c ∷ []) ∷ lines_of cs) (in_front c (lines_of cs))

-- l and r are the text t, cut behind its first line
pub record Cut (t l r : List ℕ) : Type 0 where
  pub front : l ≡ take (line_length t) t
  pub back : r ≡ drop (line_length t) t

-- cutting loses nothing: the line that is cut off is the first of the lines, those of the rest are the others, and the lines put together again are the text
pub record LosesNothing (t l r : List ℕ) : Type 0 where
  pub next : 0 < length t → lines_of t ≡ l ∷ lines_of r
  pub end : length t ≡ 0 → lines_of t ≡ []
  pub whole : flat_map (λ x. x) (lines_of t) ≡ t
