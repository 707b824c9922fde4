-- The table of refusals: the number of each, and the column that it blames. Assumes nothing.
use Rattle.std.specs.Prelude.{ℕ}
use Rattle.refusal.specs.declared.FieldPlace.TheVariants.{First, Second}
use Rattle.refusal.specs.declared.Refusal.{Refusal}
use Rattle.refusal.specs.declared.Refusal.TheVariants.{PortCount, CellCount, NotInState, NoSuchPort, FewPlaces, EventsSpent, ShortLists, LineShape, Letter, Field, ShortText, NoSpellLeft, IdBeyondCapacity, IdInUse, IdNotInUse, EmptyHeap, ShelterPort, NumberTooLarge}

-- the number that stands for a refusal in a report
abbrev pub number_of : Refusal → ℕ
number_of PortCount = 1
number_of CellCount = 2
number_of NotInState = 3
number_of NoSuchPort = 4
number_of FewPlaces = 5
number_of EventsSpent = 6
number_of ShortLists = 7
number_of LineShape = 8
number_of Letter = 9
number_of (Field place) = 10
number_of ShortText = 11
number_of NoSpellLeft = 12
number_of IdBeyondCapacity = 13
number_of IdInUse = 14
number_of IdNotInUse = 15
number_of EmptyHeap = 16
number_of ShelterPort = 17
number_of NumberTooLarge = 18

-- the column, counted from 1, of the letter or of the first bad field; 0 where no column is to blame
abbrev pub column_of : Refusal → ℕ
column_of PortCount = 0
column_of CellCount = 0
column_of NotInState = 0
column_of NoSuchPort = 0
column_of FewPlaces = 0
column_of EventsSpent = 0
column_of ShortLists = 0
column_of LineShape = 0
column_of Letter = 1
column_of (Field First) = 2
column_of (Field Second) = 10
column_of ShortText = 0
column_of NoSpellLeft = 0
column_of IdBeyondCapacity = 0
column_of IdInUse = 0
column_of IdNotInUse = 0
column_of EmptyHeap = 0
column_of ShelterPort = 0
column_of NumberTooLarge = 0
