-- What a reader is to its callers: whether version 3 is read, the text that has come so far, from how many entries it is to
-- be, how many of them were given, and the fault that is kept, if one was met. What the text's entries and faults are is
-- said by Reading, of the whole text.
use Rattle.std.specs.Prelude.{◌≡◌, ℕ, Bool, List, Option, Some, None, MatchOption, slice_get, codes, ◌&&◌, if◌then◌else◌}
use Rattle.std.specs.List.{starts_with}
use Rattle.std.specs.Prelude.{nat_eq}
use Rattle.ffc_cert.specs.declared.entries.CertFault.{CertFault}
use Rattle.ffc_cert.specs.declared.entries.Numbered.{Numbered}
use Rattle.ffc_cert.specs.Reading.{reading_of, stop_fault, open_fault}

pub record Certificate : Type 0 where
  pub bits : Bool
  pub wanted : ℕ
  pub text : List ℕ
  pub given : ℕ
  pub fault : Option CertFault
  pub finished : Bool

-- the next entry of a text of which so many were given
abbrev pub next_entry_of : Bool → ℕ → List ℕ → ℕ → Option Numbered
next_entry_of bits wanted text given = slice_get (reading_of bits wanted text).entries given

-- the fault that is to be answered now, where none is kept: the text's, once each of its entries was given
abbrev pub fault_behind : Option Numbered → Bool → ℕ → List ℕ → Option CertFault
fault_behind None bits wanted text = stop_fault (reading_of bits wanted text).end
fault_behind (Some entry) bits wanted text = None

abbrev pub due_fault : Option CertFault → Bool → ℕ → List ℕ → ℕ → Option CertFault
due_fault (Some fault) bits wanted text given = Some fault
due_fault None bits wanted text given = fault_behind (next_entry_of bits wanted text given) bits wanted text

-- the entry that is to be answered now: none after a fault
abbrev pub due_entry : Option CertFault → Bool → ℕ → List ℕ → ℕ → Option Numbered
due_entry (Some fault) bits wanted text given = None
due_entry None bits wanted text given = next_entry_of bits wanted text given

-- the fault where the text ends here
abbrev pub end_fault : Option CertFault → Bool → ℕ → List ℕ → Option CertFault
end_fault (Some fault) bits wanted text = Some fault
end_fault None bits wanted text = open_fault (reading_of bits wanted text).end

-- a fault is kept, or each entry so far was given and the text so far is not at fault
abbrev pub IsRead : Certificate → Type 0
IsRead c =
    MatchOption c.fault ((next_entry_of c.bits c.wanted c.text c.given ≡ None) × (stop_fault (reading_of c.bits c.wanted c.text).end ≡ None)) (λ _. Unit {0})

-- the version that line 1 names, once it is whole, of those that are read
abbrev pub version_of : Bool → List ℕ → Option ℕ
version_of bits text =
    if starts_with nat_eq text (codes "ffcert 1\n") then Some 1 else
    if starts_with nat_eq text (codes "ffcert 2\n") then Some 2 else
    if bits && starts_with nat_eq text (codes "ffcert 3\n") then Some 3 else None
