-- How a text is read: its lines in order, the entries that they make, and how it ends. It is over a whole text, and says
-- nothing of pieces. The entries, and a fault of a text other than that it ends too early, are the same however the text
-- goes on. Version 3 is read where `bits` is true.
use Rattle.std.specs.Prelude.{ℕ, ◌+◌, ◌-◌, Bool, false, ◌==◌, ◌&&◌, nat_lt, List, [], ◌∷◌, ◌++◌, length, take, codes, if◌then◌else◌, Option, Some, None, Result, Ok, Err}
use Rattle.std.specs.List.{slice_split}
use Rattle.std.specs.Str.{bytes_eq}
use Rattle.ffc_cert.specs.Limits.{max_bytes}
use Rattle.ffc_cert.specs.declared.flaws.Flaw.{Flaw}
use Rattle.ffc_cert.specs.declared.flaws.Flaw.TheVariants.{Form, Number, Missing}
use Rattle.ffc_cert.specs.declared.entries.Entry.{Entry}
use Rattle.ffc_cert.specs.declared.entries.Entry.TheVariants.{Sat, UnsatSteps}
use Rattle.ffc_cert.specs.declared.entries.CertLine.{CertLine}
use Rattle.ffc_cert.specs.declared.entries.CertLine.TheVariants.{Assume, Scheme, Hinted, Lemma, Combine, Bits, Chain, Step, Split, Values, Close}
use Rattle.ffc_cert.specs.declared.entries.CertFault.{CertFault}
use Rattle.ffc_cert.specs.declared.entries.Numbered.{Numbered}
use Rattle.ffc_cert.specs.declared.forms.Opening.{Opening}
use Rattle.ffc_cert.specs.declared.forms.Opening.TheVariants as openings
use Rattle.ffc_cert.specs.declared.forms.Awaited.{Awaited}
use Rattle.ffc_cert.specs.declared.progress.Place.{Place}
use Rattle.ffc_cert.specs.declared.progress.Place.TheVariants.{Header, Between, Assignment, Refutation}
use Rattle.ffc_cert.specs.declared.progress.Progress.{Progress}
use Rattle.ffc_cert.specs.Lines.{opening_at, value_at, line_at}

-- What a refutation needs after a line. A tree is over at `z`, and `s` and `v` put their trees in its place, so it is
-- enough to count the trees that are not begun.
unfoldable pub awaited_after : CertLine → Awaited → Awaited
awaited_after (Assume k) a = record a { clauses = a.clauses - 1 }
awaited_after (Scheme node scheme index) a = record a { clauses = a.clauses - 1 }
awaited_after (Hinted lits hints) a = record a { clauses = a.clauses - 1 }
awaited_after (Lemma order lits) a = record { clauses = a.clauses - 1; trees = 1; steps = 0 }
awaited_after (Combine multiples) a = a
awaited_after (Bits line chosen polynomial bits) a = a
awaited_after (Chain line variable steps) a = record a { steps = steps }
awaited_after (Step quotient remainder) a = record a { steps = a.steps - 1 }
awaited_after (Split line variable zeros) a = record a { trees = a.trees - 1 + length zeros }
awaited_after (Values variable trees) a = record a { trees = a.trees - 1 + trees }
awaited_after Close a = record a { trees = a.trees - 1 }

-- nothing is needed
unfoldable pub is_whole : Awaited → Bool
is_whole a = a.clauses == 0 && a.trees == 0 && a.steps == 0

-- the entry that a place is in, from 1, or 0 for line 1
unfoldable pub entry_number : Place → ℕ → ℕ
entry_number Header complete = 0
entry_number Between complete = complete + 1
entry_number (Assignment left) complete = complete + 1
entry_number (Refutation awaited) complete = complete + 1

abbrev pub fault_at : ℕ → Progress → CertFault
fault_at code p = record { entry = entry_number p.place p.complete; line = p.line; code = code }

-- Of a line that is cut off, a part may be missing without a fault of its own. It is too long then.
unfoldable pub code_of : Bool → Flaw → ℕ
code_of cut Form = 2
code_of cut Number = 3
code_of cut Missing = if cut then 5 else 2

-- the state after a line
pub data Next : Type 0 where
  Halt : CertFault → Next
  Move : Progress → Next
  Give : Numbered → Progress → Next

-- after a line of so many bytes with its LF
abbrev pub moved : Place → ℕ → Progress → Progress
moved place size p = record p { place = place; line = p.line + 1; bytes = p.bytes + size }

abbrev pub numbered : Entry → Progress → Numbered
numbered entry p = record { number = p.complete + 1; first_line = p.first_line; entry = entry }

-- after the last line of an entry
abbrev pub completed : Progress → Progress
completed p = record {
  bits = p.bits;
  version = p.version;
  place = Between;
  complete = p.complete + 1;
  line = p.line + 1;
  first_line = p.line + 1;
  bytes = 0;
  values = [];
  lines = [];
}

abbrev pub given : Entry → Progress → Next
given entry p = Give (numbered entry p) (completed p)

-- after the first line of an entry
unfoldable pub begun : ℕ → Progress → Opening → Next
begun size p (openings.Assignment n) = if n == 0 then given (Sat []) p else Move (moved (Assignment n) size p)
begun size p (openings.Refutation n) =
    if n == 0 then given (UnsatSteps []) p else
    Move (moved (Refutation (record { clauses = n; trees = 0; steps = 0 })) size p)
begun size p (openings.Whole entry) = given entry p

-- after a line of values, where so many were left
unfoldable pub with_value : ℕ → ℕ → Progress → ℕ × ℕ → Next
with_value left size p value =
    if left == 1 then given (Sat (p.values ++ value ∷ [])) p else
    Move (record (moved (Assignment (left - 1)) size p) { values = p.values ++ value ∷ [] })

-- after a line of a refutation
unfoldable pub with_line : Awaited → ℕ → Progress → CertLine → Next
with_line awaited size p line =
    if is_whole (awaited_after line awaited) then given (UnsatSteps (p.lines ++ line ∷ [])) p else
    Move (record (moved (Refutation (awaited_after line awaited)) size p) { lines = p.lines ++ line ∷ [] })

-- What a line of an entry says, or its fault. Where it has no other fault, the entry may be too long with it.
unfoldable pub limited : {A : Type 0} → List ℕ → Progress → Result A Flaw → Result A CertFault
limited line p (Err flaw) = Err (fault_at (code_of (nat_lt max_bytes (length line)) flaw) p)
limited line p (Ok read) = if nat_lt max_bytes (p.bytes + (length line + 1)) then Err (fault_at 5 p) else Ok read

abbrev pub after : {A : Type 0} → Result A CertFault → (A → Next) → Next
after (Err fault) next = Halt fault
after (Ok read) next = next read

-- line 1
abbrev pub named : ℕ → Progress → Progress
named version p = record p { version = version; place = Between; line = p.line + 1; first_line = p.line + 1 }

unfoldable pub header_line : Progress → List ℕ → Next
header_line p line =
    if bytes_eq line (codes "ffcert 1") then Move (named 1 p) else
    if bytes_eq line (codes "ffcert 2") then Move (named 2 p) else
    if p.bits && bytes_eq line (codes "ffcert 3") then Move (named 3 p) else Halt (fault_at 1 p)

unfoldable pub opening_line : Progress → List ℕ → Next
opening_line p line = after (limited line p (opening_at line)) (begun (length line + 1) p)

unfoldable pub assignment_line : ℕ → Progress → List ℕ → Next
assignment_line left p line = after (limited line p (value_at line)) (with_value left (length line + 1) p)

unfoldable pub refutation_line : Awaited → Progress → List ℕ → Next
refutation_line awaited p line = after (limited line p (line_at p.version awaited line)) (with_line awaited (length line + 1) p)

-- a line; the number is of the entries that are wanted
unfoldable pub next_in : Place → ℕ → Progress → List ℕ → Next
next_in Header wanted p line = header_line p line
next_in Between wanted p line = if p.complete == wanted then Halt (fault_at 2 p) else opening_line p line
next_in (Assignment left) wanted p line = assignment_line left p line
next_in (Refutation awaited) wanted p line = refutation_line awaited p line

-- the same, where no byte past the limit is looked at
unfoldable pub next_at : ℕ → Progress → List ℕ → Next
next_at wanted p line = next_in p.place wanted p (take (max_bytes + 1) line)

-- how a text ends
pub data End : Type 0 where
  -- with the last entry
  Complete : End
  -- too early: the fault where nothing follows
  Open : CertFault → End
  -- with a fault, whatever follows
  Stopped : CertFault → End

pub record Reading : Type 0 where
  pub entries : List Numbered
  pub end : End

abbrev pub ending : End → Reading
ending end = record { entries = []; end = end }

abbrev pub with_entry : Numbered → Reading → Reading
with_entry entry r = record { entries = entry ∷ r.entries; end = r.end }

-- the bytes after the last LF, where they are too many for a line
unfoldable pub cut_end : Next → Progress → End
cut_end (Halt fault) p = Stopped fault
cut_end (Move q) p = Open (fault_at 4 p)
cut_end (Give entry q) p = Open (fault_at 4 p)

-- the bytes after the last LF, after the last entry
unfoldable pub end_after : List ℕ → Progress → End
end_after [] p = Complete
end_after (c ∷ cs) p = Stopped (fault_at 2 p)

-- whether each wanted entry is complete
unfoldable pub is_complete : Place → ℕ → ℕ → Bool
is_complete Header complete wanted = false
is_complete Between complete wanted = complete == wanted
is_complete (Assignment left) complete wanted = false
is_complete (Refutation awaited) complete wanted = false

unfoldable pub end_at : ℕ → Progress → List ℕ → End
end_at wanted p rest =
    if nat_lt max_bytes (length rest) then cut_end (next_at wanted p rest) p else
    if is_complete p.place p.complete wanted then end_after rest p else Open (fault_at 4 p)

-- A part of the text, and the parts after it: all but the last are lines.
unfoldable pub read : ℕ → Progress → List ℕ → List (List ℕ) → Reading
read wanted p part [] = ending (end_at wanted p part)
read wanted p part (next ∷ parts) =
    elim (next_at wanted p part) [
      | Halt fault ↦ ending (Stopped fault)
      | Move q ↦ read wanted q next parts
      | Give entry q ↦ with_entry entry (read wanted q next parts)
    ]

abbrev pub read_parts : ℕ → Progress → List (List ℕ) → Reading
read_parts wanted p [] = ending (end_at wanted p [])
read_parts wanted p (part ∷ parts) = read wanted p part parts

abbrev pub is_line_end : ℕ → Bool
is_line_end c = c == 10

-- the reading of the bytes from a place on
abbrev pub read_text : ℕ → Progress → List ℕ → Reading
read_text wanted p bytes = read_parts wanted p (slice_split is_line_end bytes)

-- before line 1
abbrev pub origin : Bool → Progress
origin bits = record { bits = bits; version = 0; place = Header; complete = 0; line = 1; first_line = 1; bytes = 0; values = []; lines = [] }

-- the reading of a text from which so many entries are wanted
abbrev pub reading_of : Bool → ℕ → List ℕ → Reading
reading_of bits wanted text = read_text wanted (origin bits) text

-- the fault, whatever follows the text
abbrev pub stop_fault : End → Option CertFault
stop_fault Complete = None
stop_fault (Open fault) = None
stop_fault (Stopped fault) = Some fault

-- the fault where nothing follows the text
abbrev pub open_fault : End → Option CertFault
open_fault Complete = None
open_fault (Open fault) = Some fault
open_fault (Stopped fault) = None
