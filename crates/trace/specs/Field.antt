-- A field: eight columns that show one number, or nothing. Assumes nothing.
--     field n         the eight octets that show n: spaces, then its decimal digits with no leading zero
--     blank           the eight octets that show nothing: spaces
--     number_in bs    the number whose field the octets bs are, if there is one
--     Shows bs r      r is that number, in terms of `field` alone
--     FieldsApart     no two numbers have one field
use Rattle.std.specs.Prelude.{◌≡◌, ℕ, ◌+◌, ◌-◌, ◌*◌, ◌≤◌, cond, ◌&&◌, List, [], ◌∷◌, ◌++◌, length, replicate, Some, None, decimal, Option, ◌==◌, ◌≢◌, nat_le}
use Rattle.std.specs.Str.{bytes_eq}

-- the greatest number that a field can show
abbrev pub greatest : ℕ
greatest = 99999999

-- these octets at the end of eight columns, spaces before them
abbrev pub justified : List ℕ → List ℕ
justified bs = replicate (8 - length bs) 32 ++ bs

-- the field of n: its decimal digits, as `{n}` prints them, at the end of eight columns
unfoldable pub field : ℕ → List ℕ
field n = justified (decimal n)

-- a blank field: nothing at the end of eight columns
abbrev pub blank : List ℕ
blank = justified []

-- the number so far, and then the digits of the octets from left to right; a space is passed over
abbrev pub read_on : ℕ → List ℕ → ℕ
read_on n [] = n
read_on n (c ∷ cs) = read_on (cond (c == 32) n (n * 10 + (c - 48))) cs

-- octets show what their digits come to, where they are the field of that
unfoldable pub number_in : List ℕ → Option ℕ
number_in bs = cond (nat_le (read_on 0 bs) greatest && bytes_eq bs (field (read_on 0 bs))) (Some (read_on 0 bs)) None

-- r is the number whose field the octets are; None, where they are the field of no number
abbrev pub Shows : List ℕ → Option ℕ → Type 0
Shows bs (Some n) = (n ≤ greatest) × (bs ≡ field n)
Shows bs None = (n : ℕ) → n ≤ greatest → bs ≢ field n

-- different numbers have different fields
abbrev pub FieldsApart : Type 0
FieldsApart = (m n : ℕ) → m ≤ greatest → n ≤ greatest → field m ≡ field n → m ≡ n
