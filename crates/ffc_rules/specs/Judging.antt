-- The judgement of a certificate for a script. Certificates of version 3 are read where `bits` is true.
--
-- The first entry at fault is named. In an entry a fault of form comes before a broken rule, wherever it is. Entry 0 is
-- line 1, and what follows the last check's entry counts as one more.
use Rattle.std.specs.Prelude.{◌≡◌, ℕ, ◌+◌, Bool, List, [], ◌∷◌, length, map, Option, Some, None}
use Rattle.ffc_cert.specs.declared.entries.Entry.{Entry}
use Rattle.ffc_cert.specs.declared.entries.Entry.TheVariants.{Sat, UnsatCases, UnsatSteps, Unknown}
use Rattle.ffc_cert.specs.declared.entries.Numbered.{Numbered}
use Rattle.ffc_cert.specs.declared.entries.CertFault.{CertFault}
use Rattle.ffc_cert.specs.Reading.{End, Complete, Open, Stopped, Reading, reading_of}
use Rattle.ffc_smt.specs.Scripts.{Done, reads}
use Rattle.ffc_smt.specs.TableChecks.{TableCheck, declared_nodes, nodes_in_force, table_checks}
use Rattle.ffc_rules.specs.Entries.{Limits, limits, NodeCheck, entry_fault_within}

-- what an entry of the check is judged by
abbrev pub node_check : TableCheck → NodeCheck
node_check c = record { nodes = c.nodes; declared = declared_nodes c; in_force = nodes_in_force c; first_order = c.check.first_order }

-- why a certificate is refused: a code of its form, or a rule
pub data Cause : Type 0 where
  Format : ℕ → Cause
  Rule : ℕ → Cause

-- how many entries of each kind there are
pub record Counts : Type 0 where
  pub sat : ℕ
  pub unsat : ℕ
  pub unknown : ℕ

pub data Judgement : Type 0 where
  Accepted : Counts → Judgement
  -- the entry, the line, and why
  Refused : ℕ → ℕ → Cause → Judgement

abbrev pub counted : Entry → Counts → Counts
counted (Sat pairs) n = record n { sat = n.sat + 1 }
counted UnsatCases n = record n { unsat = n.unsat + 1 }
counted (UnsatSteps lines) n = record n { unsat = n.unsat + 1 }
counted (Unknown cause) n = record n { unknown = n.unknown + 1 }

abbrev pub counts_of : List Numbered → Counts
counts_of [] = record { sat = 0; unsat = 0; unknown = 0 }
counts_of (e ∷ entries) = counted e.entry (counts_of entries)

-- the first entry that breaks a rule, each judged for the check at its place
unfoldable pub first_broken : Limits → List NodeCheck → List Numbered → Option Judgement
first_broken l checks [] = None
first_broken l [] (e ∷ entries) = None
first_broken l (c ∷ checks) (e ∷ entries) =
    elim (entry_fault_within l c e.entry e.first_line) [
      | Some broken ↦ Some (Refused e.number broken.line (Rule broken.rule))
      | None ↦ first_broken l checks entries
    ]

abbrev pub refused_for : CertFault → Judgement
refused_for fault = Refused fault.entry fault.line (Format fault.code)

-- where no whole entry breaks a rule, by how the text ends
abbrev pub end_judgement : List Numbered → End → Judgement
end_judgement entries Complete = Accepted (counts_of entries)
end_judgement entries (Open fault) = refused_for fault
end_judgement entries (Stopped fault) = refused_for fault

unfoldable pub judgement_of : Limits → List NodeCheck → Reading → Judgement
judgement_of l checks reading =
    elim (first_broken l checks reading.entries) [
      | Some refused ↦ refused
      | None ↦ end_judgement reading.entries reading.end
    ]

-- the judgement of a certificate for these checks
abbrev pub judge_checks : Bool → Limits → List NodeCheck → List ℕ → Judgement
judge_checks bits l checks certificate = judgement_of l checks (reading_of bits (length checks) certificate)

-- of a script: all its checks, also those before a fault of it
abbrev pub checks_in : List ℕ → List NodeCheck
checks_in script = map node_check (table_checks (reads script).steps)

-- the judgement of a certificate for a script
abbrev pub judge : Bool → List ℕ → List ℕ → Judgement
judge bits script certificate = judge_checks bits limits (checks_in script) certificate

-- the script reads to its end, and the certificate is accepted for it
pub record Accepts (bits : Bool) (script certificate : List ℕ) : Type 0 where
  pub done : (reads script).end ≡ Done
  pub counts : Counts
  pub accepted : judge bits script certificate ≡ Accepted counts
