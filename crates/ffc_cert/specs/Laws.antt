-- Laws of the text: what was written is read back, what was read is its own text and no other spelling of it, in one version
-- no entry's text begins another's, and reading goes on as it began.
use Rattle.std.specs.Prelude.{◌≡◌, ℕ, ◌+◌, ◌<◌, ◌≤◌, ◌⊎◌, ◌↔◌, Bool, true, false, codes, nat_eq, List, [], ◌∷◌, ◌++◌, length, take, Some, None}
use Rattle.std.specs.List.{AllByRecursion, starts_with}
use Rattle.ffc_cert.specs.declared.entries.Entry.{Entry}
use Rattle.ffc_cert.specs.declared.entries.Entry.TheVariants.{Sat, UnsatCases, UnsatSteps, Unknown}
use Rattle.ffc_cert.specs.declared.entries.CertFault.{CertFault}
use Rattle.ffc_cert.specs.declared.entries.Numbered.{Numbered}
use Rattle.ffc_cert.specs.Certificate.{version_of}
use Rattle.ffc_cert.specs.Spelling.{entry_text, text_of}
use Rattle.ffc_cert.specs.WellFormed.{FitsVersion, IsWellFormed, IsReadable}
use Rattle.ffc_cert.specs.Reading.{Reading, Complete, Stopped, reading_of}

-- how many lines an entry has
abbrev pub line_count : Entry → ℕ
line_count (Sat values) = length values + 1
line_count UnsatCases = 1
line_count (UnsatSteps lines) = length lines + 1
line_count (Unknown cause) = 1

-- entries, the first with this number and at this line
abbrev pub numbered_from : ℕ → ℕ → List Entry → List Numbered
numbered_from number line [] = []
numbered_from number line (entry ∷ entries) =
    record { number = number; first_line = line; entry = entry } ∷ numbered_from (number + 1) (line + line_count entry) entries

-- the versions that are read
abbrev pub IsVersion : Bool → ℕ → Type 0
IsVersion bits version = (version ≡ 1) ⊎ ((version ≡ 2) ⊎ ((version ≡ 3) × (bits ≡ true)))

-- the text of these entries gives them, and nothing else
abbrev pub ReadsBack : Type 0
ReadsBack = (bits : Bool) (version : ℕ) (entries : List Entry) → IsVersion bits version → AllByRecursion (IsReadable version) entries
    → reading_of bits (length entries) (text_of version entries) ≡ record { entries = numbered_from 1 2 entries; end = Complete }

-- the same entries are the first where the text goes on
abbrev pub ReadsBackFirst : Type 0
ReadsBackFirst = (bits : Bool) (version : ℕ) (entries : List Entry) (wanted : ℕ) (more : List ℕ) → IsVersion bits version → AllByRecursion (IsReadable version) entries
    → length entries ≤ wanted → take (length entries) (reading_of bits wanted (text_of version entries ++ more)).entries ≡ numbered_from 1 2 entries

abbrev pub BeginsNoOther : Type 0
BeginsNoOther = (bits : Bool) (version : ℕ) (first second : Entry) (more : List ℕ) → IsVersion bits version → IsWellFormed version first → IsWellFormed version second
    → entry_text first ++ more ≡ entry_text second → (first ≡ second) × (more ≡ [])

-- an entry that is well formed can be written
abbrev pub IsWritten : Type 0
IsWritten = (version : ℕ) (entry : Entry) → IsWellFormed version entry → FitsVersion version entry

-- the entries without their numbers
abbrev pub entries_of : List Numbered → List Entry
entries_of [] = []
entries_of (x ∷ xs) = x.entry ∷ entries_of xs

-- What a reading of a text in a version says of the text: it is the one text of the entries, and then more. It is nothing
-- more where the reading is complete.
pub record IsOfText (wanted version : ℕ) (text : List ℕ) (r : Reading) : Type 0 where
  pub more : List ℕ
  pub text_is : text ≡ text_of version (entries_of r.entries) ++ more
  pub numbers : r.entries ≡ numbered_from 1 2 (entries_of r.entries)
  pub readable : AllByRecursion (IsReadable version) (entries_of r.entries)
  pub few : length r.entries ≤ wanted
  pub whole : r.end ≡ Complete → (more ≡ []) × (length r.entries ≡ wanted)

-- a text is read only as it is written
abbrev pub ReadsItsText : Type 0
ReadsItsText = (bits : Bool) (wanted version : ℕ) (text : List ℕ) → version_of bits text ≡ Some version → IsOfText wanted version text (reading_of bits wanted text)

-- where line 1 names no version, there is no entry, and the text is not complete
abbrev pub ReadsNoOther : Type 0
ReadsNoOther = (bits : Bool) (wanted : ℕ) (text : List ℕ) → version_of bits text ≡ None → ((reading_of bits wanted text).entries ≡ []) × ((reading_of bits wanted text).end ≡ Complete → ⊥)

-- the text of so many entries in one of the versions
pub record IsText (bits : Bool) (wanted : ℕ) (text : List ℕ) : Type 0 where
  pub version : ℕ
  pub entries : List Entry
  pub known : IsVersion bits version
  pub readable : AllByRecursion (IsReadable version) entries
  pub count : length entries ≡ wanted
  pub text_is : text ≡ text_of version entries

-- the texts that are read without a fault up to their end
abbrev pub AcceptsTexts : Type 0
AcceptsTexts = (bits : Bool) (wanted : ℕ) (text : List ℕ) → ((reading_of bits wanted text).end ≡ Complete) ↔ IsText bits wanted text

-- each entry's first line is within the text: its number is at most the number of the bytes
abbrev pub LinesAreInside : Type 0
LinesAreInside = (bits : Bool) (wanted : ℕ) (text : List ℕ) → AllByRecursion (λ x. x.first_line < length text) (reading_of bits wanted text).entries

-- a reading of the front of a text, and one of the whole
pub record IsFront (front whole : Reading) : Type 0 where
  pub rest : List Numbered
  pub entries : whole.entries ≡ front.entries ++ rest
  pub stopped : (fault : CertFault) → front.end ≡ Stopped fault → whole ≡ front

-- the entries of a text are the first ones however it goes on, and a fault stays the fault
abbrev pub GoesOn : Type 0
GoesOn = (bits : Bool) (wanted : ℕ) (text more : List ℕ) → IsFront (reading_of bits wanted text) (reading_of bits wanted (text ++ more))

-- Where the text does not begin with line 1 of version 3, it is read the same with version 3 and without it.
abbrev pub ReadsOldVersions : Type 0
ReadsOldVersions = (wanted : ℕ) (text : List ℕ) → starts_with nat_eq text (codes "ffcert 3\n") ≡ false → reading_of true wanted text ≡ reading_of false wanted text
