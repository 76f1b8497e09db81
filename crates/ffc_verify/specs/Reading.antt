-- Reading a text piece by piece.
use Rattle.std.specs.Prelude.{Bool, ◌≡◌, ◌⊎◌, ℕ, ◌+◌, ◌<◌, ◌≤◌, ◌^◌, false, List, [], ◌++◌, length, Option, Some, None}
use Rattle.ffc_cert.specs.Certificate.{Certificate, next_entry_of}
use Rattle.ffc_cert.specs.Reading.{Complete, Open, Stopped, reading_of, stop_fault}
use Rattle.ffc_check.specs.Judged.{IsReadableEntry}
use Rattle.ffc_verify.specs.declared.entries.NextEntry.{NextEntry}
use Rattle.ffc_verify.specs.declared.entries.NextEntry.TheVariants as next

-- what was read of a source is after the text, and the rest is left
abbrev pub MovesOn : List ℕ → Option (List ℕ) → List ℕ → Option (List ℕ) → Type 0
MovesOn text left later now = (rest : List ℕ) → left ≡ Some rest → (more : List ℕ) × (now ≡ Some more) × (text ++ rest ≡ later ++ more)

-- nothing is left, where the source tells it
abbrev pub IsAtEnd : Option (List ℕ) → Type 0
IsAtEnd left = (rest : List ℕ) → left ≡ Some rest → rest ≡ []

-- this is the text with all that was left
abbrev pub IsReadWhole : List ℕ → Option (List ℕ) → List ℕ → Type 0
IsReadWhole text left later = (rest : List ℕ) → left ≡ Some rest → later ≡ text ++ rest

-- a reader that has met no fault and may be fed
pub record IsOpen (c : Certificate) : Type 0 where
  pub fault : c.fault ≡ None
  pub unfinished : c.finished ≡ false

-- the text went on
abbrev pub Grows : Certificate → Certificate → Type 0
Grows old new = (more : List ℕ) × (new.text ≡ old.text ++ more)

-- Of a text of which so many entries were given there is nothing to answer yet: the next entry is not whole, or all were given,
-- and the text so far is not at fault.
pub record AsksForMore (bits : Bool) (wanted : ℕ) (text : List ℕ) (given : ℕ) : Type 0 where
  pub entry : next_entry_of bits wanted text given ≡ None
  pub sound : stop_fault (reading_of bits wanted text).end ≡ None

-- what one read takes of the bytes that a source has left: 4,096 of them at most
pub record TakesPiece (bytes : List ℕ) (new : Option (List ℕ)) : Type 0 where
  pub piece : List ℕ
  pub rest : List ℕ
  pub split : bytes ≡ piece ++ rest
  pub left : new ≡ Some rest
  pub few : length piece ≤ 4096

-- the last of some reads for a reader, and that it asked for it
pub record HasLastPiece (c : Certificate) (taken : List ℕ) : Type 0 where
  pub front : List ℕ
  pub piece : List ℕ
  pub split : taken ≡ front ++ piece
  pub some : 0 < length piece
  pub few : length piece ≤ 4096
  pub asked : AsksForMore c.bits c.wanted (c.text ++ front) c.given

-- what some reads for a reader take of the bytes that a source has left: nothing, or no more than it asked for
pub record TakesPieces (c : Certificate) (bytes : List ℕ) (new : Option (List ℕ)) : Type 0 where
  pub taken : List ℕ
  pub rest : List ℕ
  pub split : bytes ≡ taken ++ rest
  pub left : new ≡ Some rest
  pub last : (taken ≡ []) ⊎ HasLastPiece c taken

-- The next entry, or how the text ends after those that were given, where this was left of it.
abbrev pub IsNext : Certificate → Certificate → Option (List ℕ) → NextEntry → Type 0
IsNext old new left (next.Entry e) =
    (next_entry_of old.bits old.wanted new.text old.given ≡ Some e) × IsReadableEntry e.entry × (new ≡ record old { text = new.text; given = old.given + 1 })
IsNext old new left next.Complete =
    (next_entry_of old.bits old.wanted new.text old.given ≡ None) × ((reading_of old.bits old.wanted new.text).end ≡ Complete) × IsReadWhole old.text left new.text
IsNext old new left (next.Fault f) =
    (next_entry_of old.bits old.wanted new.text old.given ≡ None)
    × (((reading_of old.bits old.wanted new.text).end ≡ Stopped f) ⊎ (((reading_of old.bits old.wanted new.text).end ≡ Open f) × IsReadWhole old.text left new.text))

-- how a text ends that is not at fault so far
abbrev pub EndsAs : Certificate → NextEntry → Type 0
EndsAs c (next.Entry e) = ⊥
EndsAs c next.Complete = (reading_of c.bits c.wanted c.text).end ≡ Complete
EndsAs c (next.Fault f) = (reading_of c.bits c.wanted c.text).end ≡ Open f

-- an entry that comes next begins at a line with a number of 63 bits
abbrev pub HasLine : NextEntry → Type 0
HasLine (next.Entry e) = e.first_line < 2 ^ 63
HasLine next.Complete = Unit {0}
HasLine (next.Fault f) = Unit {0}
