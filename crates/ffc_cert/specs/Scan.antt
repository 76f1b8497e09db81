-- How far a reader has read a text, and when the text may be read on from there. It is private to the reader, whose
-- contracts are over the whole text.
use Rattle.std.specs.Prelude.{◌≡◌, ℕ, ◌+◌, ◌<◌, ◌≤◌, Bool, List, [], ◌++◌, length, drop, Option, Some, None, Result, Ok, Err, slice_get, if◌then◌else◌}
use Rattle.std.specs.List.{position_or_len}
use Rattle.ffc_cert.specs.declared.entries.CertFault.{CertFault}
use Rattle.ffc_cert.specs.declared.entries.CertStop.{CertStop}
use Rattle.ffc_cert.specs.declared.entries.CertStop.TheVariants.{Memory}
use Rattle.ffc_cert.specs.declared.entries.Numbered.{Numbered}
use Rattle.ffc_cert.specs.declared.progress.Progress.{Progress}
use Rattle.ffc_cert.specs.declared.scanning.Scanner.{Scanner}
use Rattle.ffc_cert.specs.declared.scanning.Found.{Found}
use Rattle.ffc_cert.specs.declared.scanning.Found.TheVariants.{Line, Whole, Nothing}
use Rattle.ffc_cert.specs.Bounds.{IsBounded}
use Rattle.ffc_cert.specs.Reading.{Reading, End, Complete, Open, Stopped, open_fault, ending, fault_at, is_complete, is_line_end, read_text, reading_of}
use Rattle.ffc_cert.specs.Taking.{MatchStop}

-- a reading without its first entries
abbrev pub without : ℕ → Reading → Reading
without n r = record { entries = drop n r.entries; end = r.end }

abbrev pub ahead : List ℕ → Scanner → List ℕ
ahead text s = drop s.start text

-- what is held of a text of which so many bytes were dropped
pub record IsWindow (gone : ℕ) (text window : List ℕ) : Type 0 where
  pub bytes : window ≡ drop gone text
  pub size : gone + length window ≡ length text

-- However the text goes on, it is read by giving its first entries and then reading on from here. No byte that is still to
-- be read was dropped.
pub record IsReady (bits : Bool) (wanted : ℕ) (text : List ℕ) (s : Scanner) : Type 0 where
  pub kept : s.gone ≤ s.start
  pub within : s.start ≤ s.scanned
  pub limit : s.scanned ≤ length text
  pub unended : s.scanned ≤ s.start + position_or_len is_line_end (ahead text s)
  pub line : s.progress.line ≤ s.start + 1
  pub complete : s.progress.complete ≤ s.start
  pub bounded : IsBounded s.progress
  pub reads : (more : List ℕ) → without s.progress.complete (reading_of bits wanted (text ++ more)) ≡ read_text wanted s.progress (ahead text s ++ more)

-- the text is at fault, however it goes on, and its first n entries are all
abbrev pub IsStopped : Bool → ℕ → ℕ → List ℕ → CertFault → Type 0
IsStopped bits wanted n text fault = (more : List ℕ) → without n (reading_of bits wanted (text ++ more)) ≡ ending (Stopped fault)

-- the entry of this number, however the text goes on
abbrev pub IsEntry : Bool → ℕ → ℕ → List ℕ → Numbered → Type 0
IsEntry bits wanted n text entry = (more : List ℕ) → slice_get (reading_of bits wanted (text ++ more)).entries n ≡ Some entry

-- how a text ends where nothing more is found in it
unfoldable pub end_here : ℕ → Progress → End
end_here wanted p = if is_complete p.place p.complete wanted then Complete else Open (fault_at 4 p)

-- each entry of the text so far was given, and the text so far is not at fault
abbrev pub IsDone : ℕ → List ℕ → Scanner → Type 0
IsDone wanted text s = ((read_text wanted s.progress (ahead text s)).entries ≡ []) × ((read_text wanted s.progress (ahead text s)).end ≡ end_here wanted s.progress)

-- what is left after a call that has stopped: where memory ran out, the same text may be read on
abbrev pub AfterStop : CertStop → Bool → ℕ → ℕ → List ℕ → Scanner → Type 0
AfterStop stop bits wanted n text s = MatchStop stop (λ fault. IsStopped bits wanted n text fault) (IsReady bits wanted text s × (s.progress.complete ≡ n))

-- after a step of the scanner, where n entries were complete
abbrev pub AfterStep : Result Found CertStop → Bool → ℕ → ℕ → List ℕ → Scanner → Type 0
AfterStep (Ok Line) bits wanted n text s = IsReady bits wanted text s × (s.progress.complete ≡ n)
AfterStep (Ok (Whole entry)) bits wanted n text s = IsEntry bits wanted n text entry × (IsReady bits wanted text s × (s.progress.complete ≡ n + 1))
AfterStep (Ok Nothing) bits wanted n text s = IsReady bits wanted text s × (IsDone wanted text s × (s.progress.complete ≡ n))
AfterStep (Err stop) bits wanted n text s = AfterStop stop bits wanted n text s

-- a line was taken, unless nothing was found
abbrev pub GoesFurther : Found → Scanner → Scanner → Type 0
GoesFurther Line old new = old.start < new.start
GoesFurther (Whole entry) old new = old.start < new.start
GoesFurther Nothing old new = Unit {0}

-- after all lines up to the end of an entry
abbrev pub AfterScan : Result (Option Numbered) CertStop → Bool → ℕ → ℕ → List ℕ → Scanner → Type 0
AfterScan (Ok None) bits wanted n text s = IsReady bits wanted text s × (IsDone wanted text s × (s.progress.complete ≡ n))
AfterScan (Ok (Some entry)) bits wanted n text s = IsEntry bits wanted n text entry × (IsReady bits wanted text s × (s.progress.complete ≡ n + 1))
AfterScan (Err stop) bits wanted n text s = AfterStop stop bits wanted n text s

-- What is known of the end of a text whose entries were all given, and that is not at fault so far.
abbrev pub AfterEnd : Result (Option CertFault) CertStop → Bool → ℕ → List ℕ → Type 0
AfterEnd (Ok fault) bits wanted text = fault ≡ open_fault (reading_of bits wanted text).end
AfterEnd (Err stop) bits wanted text = stop ≡ Memory
