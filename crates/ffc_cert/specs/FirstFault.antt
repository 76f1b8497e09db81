-- Which fault of a text comes first. The text is read line by line from the front. The lines before the first one at fault
-- are line 1, the text of readable entries, and a part of one more that some well-formed entry begins with. The line at
-- fault is one with which none does, or with which its entry is too long, or one that is not ended, or any after the last
-- entry. Only the laws at the end name the reading of a text.
use Rattle.std.specs.Prelude.{◌≡◌, ◌≢◌, ℕ, ◌+◌, ◌<◌, ◌≤◌, ◌⊎◌, Bool, true, List, [], ◌∷◌, ◌++◌, length, take, codes, count_by}
use Rattle.std.specs.List.{AllByRecursion, before_first, position_or_len}
use Rattle.ffc_cert.specs.declared.entries.Entry.{Entry}
use Rattle.ffc_cert.specs.declared.entries.CertFault.{CertFault}
use Rattle.ffc_cert.specs.Limits.{max_bytes}
use Rattle.ffc_cert.specs.Spelling.{entry_text, text_of}
use Rattle.ffc_cert.specs.WellFormed.{IsWellFormed, IsReadable}
use Rattle.ffc_cert.specs.Laws.{IsVersion}
use Rattle.ffc_cert.specs.FirstItem.{BeginsLine, IsFlawed}
use Rattle.ffc_cert.specs.Reading.{End, Complete, Open, Stopped, is_line_end, reading_of}

-- how many lines are ended in a text
abbrev pub lines_of : List ℕ → ℕ
lines_of text = count_by is_line_end text

-- a line with its LF
abbrev pub ended_line : List ℕ → List ℕ
ended_line line = line ++ 10 ∷ []

-- the text's first line is ended
abbrev pub HasLine : List ℕ → Type 0
HasLine text = position_or_len is_line_end text < length text

-- What is looked at of a text's first line: the bytes before its LF, or one more than an entry may have where there are more.
abbrev pub seen_line : List ℕ → List ℕ
seen_line text = take (max_bytes + 1) (before_first is_line_end text)

-- the first line can be judged: it is ended, or too long whatever follows
abbrev pub IsJudged : List ℕ → Type 0
IsJudged text = HasLine text ⊎ (max_bytes < length text)

-- a well-formed entry that begins with these bytes
pub record Begins (version : ℕ) (bytes : List ℕ) : Type 0 where
  pub entry : Entry
  pub more : List ℕ
  pub well_formed : IsWellFormed version entry
  pub text_is : entry_text entry ≡ bytes ++ more

-- no well-formed entry does
abbrev pub BeginsNone : ℕ → List ℕ → Type 0
BeginsNone version bytes = (entry : Entry) (more : List ℕ) → IsWellFormed version entry → entry_text entry ≡ bytes ++ more → ⊥

-- Lines without a fault, all of them ended: line 1, entries, and a part of one more, which is not the whole of it.
pub record AreFaultless (bits : Bool) (version : ℕ) (entries : List Entry) (part front : List ℕ) : Type 0 where
  pub known : IsVersion bits version
  pub readable : AllByRecursion (IsReadable version) entries
  pub begun : Begins version part
  pub unfinished : 0 < length begun.more
  pub short : length part ≤ max_bytes
  pub text_is : front ≡ text_of version entries ++ part
  pub body : List ℕ
  pub ends : front ≡ ended_line body

-- The line has no form that may come after this part of an entry: no well-formed entry has it there, and the code is of its
-- first item at fault.
pub record HasNoForm (version : ℕ) (part line : List ℕ) (code : ℕ) : Type 0 where
  pub none : BeginsNone version (part ++ ended_line line)
  pub flawed : IsFlawed version part line code

-- The entry is too long with the line, in which no item is at fault. Where the line is whole, a well-formed entry has it.
pub record IsTooLong (version : ℕ) (part line : List ℕ) (code : ℕ) : Type 0 where
  pub code_is : code ≡ 5
  pub long : max_bytes < length (part ++ ended_line line)
  pub items : BeginsLine version part (32 ∷ line)
  pub form : length line ≤ max_bytes → Begins version (part ++ ended_line line)

-- What is wrong with the line that the rest begins with, after so many entries and a part of one more.
pub data IsWrong (wanted version count : ℕ) (part rest : List ℕ) (code : ℕ) : Type 0 where
  -- there is no entry to come
  after_last : count ≡ wanted → part ≡ [] → 0 < length rest → code ≡ 2 → IsWrong wanted version count part rest code
  form : count < wanted → IsJudged rest → HasNoForm version part (seen_line rest) code → IsWrong wanted version count part rest code
  long : count < wanted → IsJudged rest → IsTooLong version part (seen_line rest) code → IsWrong wanted version count part rest code

-- The text ends in the line that the rest begins with, or before it.
pub record IsUnended (wanted count : ℕ) (rest : List ℕ) (code : ℕ) : Type 0 where
  pub awaited : count < wanted
  pub unended : length rest ≤ position_or_len is_line_end rest
  pub short : length rest ≤ max_bytes
  pub code_is : code ≡ 4

-- The first line at fault, after line 1: the lines before it have none.
pub record IsFirstAfter (bits : Bool) (Wrong : ℕ → ℕ → List ℕ → List ℕ → ℕ → Type 0) (text : List ℕ) (fault : CertFault) : Type 0 where
  pub version : ℕ
  pub entries : List Entry
  pub part : List ℕ
  pub front : List ℕ
  pub rest : List ℕ
  pub right : AreFaultless bits version entries part front
  pub text_is : text ≡ front ++ rest
  pub entry : fault.entry ≡ length entries + 1
  pub line : fault.line ≡ lines_of front + 1
  pub wrong : Wrong version (length entries) part rest fault.code

-- Line 1 is at fault.
pub record IsHeaderFault (bits : Bool) (text : List ℕ) (fault : CertFault) : Type 0 where
  pub fault_is : fault ≡ record { entry = 0; line = 1; code = 1 }
  pub judged : IsJudged text
  pub not_one : seen_line text ≢ codes "ffcert 1"
  pub not_two : seen_line text ≢ codes "ffcert 2"
  pub not_three : bits ≡ true → seen_line text ≢ codes "ffcert 3"

-- Line 1 is not ended.
pub record IsHeaderUnended (text : List ℕ) (fault : CertFault) : Type 0 where
  pub fault_is : fault ≡ record { entry = 0; line = 1; code = 4 }
  pub unended : length text ≤ position_or_len is_line_end text
  pub short : length text ≤ max_bytes

-- the fault of a text, whatever follows it
abbrev pub IsFirstFault : Bool → ℕ → List ℕ → CertFault → Type 0
IsFirstFault bits wanted text fault = IsHeaderFault bits text fault ⊎ IsFirstAfter bits (IsWrong wanted) text fault

-- the fault where nothing follows
abbrev pub IsEndFault : Bool → ℕ → List ℕ → CertFault → Type 0
IsEndFault bits wanted text fault = IsHeaderUnended text fault ⊎ IsFirstAfter bits (λ version count part rest code. IsUnended wanted count rest code) text fault

abbrev pub IsFaultOf : Bool → ℕ → List ℕ → End → Type 0
IsFaultOf bits wanted text Complete = Unit {0}
IsFaultOf bits wanted text (Open fault) = IsEndFault bits wanted text fault
IsFaultOf bits wanted text (Stopped fault) = IsFirstFault bits wanted text fault

-- A text's fault is that of its first line at fault.
abbrev pub FaultsAreFirst : Type 0
FaultsAreFirst = (bits : Bool) (wanted : ℕ) (text : List ℕ) → IsFaultOf bits wanted text (reading_of bits wanted text).end

-- a text's first line with its LF, or all of it where the line is not ended
abbrev pub first_line_of : List ℕ → List ℕ
first_line_of text = take (position_or_len is_line_end text + 1) text

-- The lines before a fault and its own line decide it: whatever else follows them, the fault is the same.
pub record IsDecided (bits : Bool) (wanted : ℕ) (text : List ℕ) (fault : CertFault) : Type 0 where
  pub front : List ℕ
  pub rest : List ℕ
  pub text_is : text ≡ front ++ rest
  pub ends : (front ≡ []) ⊎ ((body : List ℕ) × (front ≡ ended_line body))
  pub line : fault.line ≡ lines_of front + 1
  pub decided : (other : List ℕ) → (reading_of bits wanted (front ++ (first_line_of rest ++ other))).end ≡ Stopped fault

abbrev pub LinesDecide : Type 0
LinesDecide = (bits : Bool) (wanted : ℕ) (text : List ℕ) (fault : CertFault) → (reading_of bits wanted text).end ≡ Stopped fault → IsDecided bits wanted text fault
