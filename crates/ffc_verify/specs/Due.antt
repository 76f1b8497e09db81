-- What is due for a script and a certificate: a status and a text.
use Rattle.std.specs.Prelude.{ℕ, Bool, true, false, List, [], ◌∷◌, ◌++◌, length, Option}
use Rattle.ffc_cert.specs.declared.entries.Entry.{Entry}
use Rattle.ffc_cert.specs.declared.entries.Entry.TheVariants.{Sat, UnsatCases, UnsatSteps, Unknown}
use Rattle.ffc_cert.specs.declared.entries.Numbered.{Numbered}
use Rattle.ffc_cert.specs.Reading.{reading_of}
use Rattle.ffc_smt.specs.Terms.{Name}
use Rattle.ffc_smt.specs.Scripts as scripts
use Rattle.ffc_smt.specs.Scripts.{End, reads}
use Rattle.ffc_smt.specs.TableChecks.{TableCheck, nodes_in_force, names_in_force, table_checks}
use Rattle.ffc_rules.specs.Cores.{core, names_at}
use Rattle.ffc_rules.specs.Judging as judging
use Rattle.ffc_rules.specs.Judging.{Judgement, judge}
use Rattle.ffc_verify.specs.declared.verify.CheckStatus.{CheckStatus}
use Rattle.ffc_verify.specs.declared.verify.CheckStatus.TheVariants.{Accepted, Refused, ScriptRefused}
use Rattle.ffc_verify.specs.Texts.{accepted_line, core_line, fault_line, refused_line}

pub record Due : Type 0 where
  pub status : CheckStatus
  pub text : List ℕ

-- The line of an entry that says that a check has no model, where so many assertions and assumptions with these names are
-- active.
abbrev pub core_text : List (Option Name) → ℕ → ℕ → Entry → List ℕ
core_text names count number (Sat pairs) = []
core_text names count number UnsatCases = core_line number (names_at names (core UnsatCases count))
core_text names count number (UnsatSteps lines) = core_line number (names_at names (core (UnsatSteps lines) count))
core_text names count number (Unknown cause) = []

abbrev pub entry_core : TableCheck → Numbered → List ℕ
entry_core c e = core_text (names_in_force c) (length (nodes_in_force c)) e.number e.entry

-- of all entries, each with the check at its place
abbrev pub entries_cores : List TableCheck → List Numbered → List ℕ
entries_cores [] entries = []
entries_cores (c ∷ cs) [] = []
entries_cores (c ∷ cs) (e ∷ es) = entry_core c e ++ entries_cores cs es

-- the lines of the cores, where they are asked for
abbrev pub cores_text : Bool → List TableCheck → List Numbered → List ℕ
cores_text false checks entries = []
cores_text true checks entries = entries_cores checks entries

abbrev pub entries_for : Bool → List ℕ → List ℕ → List Numbered
entries_for bits script certificate = (reading_of bits (length (table_checks (reads script).steps)) certificate).entries

abbrev pub judgement_due : List ℕ → Judgement → Due
judgement_due cores (judging.Accepted counts) = record { status = Accepted; text = cores ++ accepted_line counts }
judgement_due cores (judging.Refused entry at_line cause) = record { status = Refused; text = refused_line entry at_line cause }

-- by the end of the script, and then by the judgement of the certificate
abbrev pub due_at : End → Bool → Bool → List ℕ → List ℕ → Due
due_at (scripts.AtFault at_line column code) bits cores script certificate = record { status = ScriptRefused; text = fault_line at_line column code }
due_at scripts.Done bits cores script certificate =
    judgement_due (cores_text cores (table_checks (reads script).steps) (entries_for bits script certificate)) (judge bits script certificate)

unfoldable pub due : Bool → Bool → List ℕ → List ℕ → Due
due bits cores script certificate = due_at (reads script).end bits cores script certificate
