-- How a run of the solver ends: its statuses, and what each of them leaves.
use Rattle.std.specs.Prelude.{◌≡◌, ℕ, ◌⊎◌, List, Option, Some, None, codes}
use Rattle.ffc_base.specs.Outside.{Becomes}
use Rattle.ffc_smt.specs.Scripts.{End, Done, AtFault, reads}
use Rattle.ffc_rules.specs.Judging.{Accepts}
use Rattle.ffc_solve.specs.declared.solve.SolveStatus.{SolveStatus}
use Rattle.ffc_solve.specs.declared.solve.SolveStatus.TheVariants as status
use Rattle.ffc_solve.specs.Generated.{made_text}
use Rattle.ffc_solve.specs.Changes.{Change, IsSilent}
use Rattle.ffc_solve.specs.Solving.{IsWhole, IsStopped}
use Rattle.ffc_solve.specs.Underway.{is_fault}
use Rattle.std.specs.Prelude.{true, false, Bool, Result, Ok, Err, IfSome}
use Rattle.clap.specs.Words.{Text}
use Rattle.ffc_solve.specs.declared.arguments.Plan.{Plan}
use Rattle.ffc_solve.specs.declared.arguments.Task.{Task}
use Rattle.ffc_solve.specs.declared.stop.Stop.{Stop}
use Rattle.ffc_solve.specs.declared.stop.Stop.TheVariants as stops
use Rattle.ffc_solve.specs.Arguments.{HasPlan, number_given, task_of}

-- the number that the program ends with
abbrev pub code_of : SolveStatus → ℕ
code_of status.Done = 0
code_of status.Refused = 1
code_of status.Usage = 2
code_of status.ReadFault = 3
code_of status.WriteFault = 4
code_of status.CertFault = 5
code_of status.Memory = 6

-- the bytes of the script: those that are left, where they are stated, or those of the generated script
abbrev pub script_given : Option ℕ → Option (List ℕ) → Option (List ℕ)
script_given None left = left
script_given (Some n) left = Some (made_text n)

-- What a status says of the certificate and the answers, before and after the run, where these are the script's bytes.
abbrev pub IsLeft : SolveStatus → Task → Option ℕ → List ℕ → Change → Change → Type 0
IsLeft status.Done task make script cert out = IsWhole task make script cert out × (is_fault (reads script).end ≡ false)
IsLeft status.Refused task make script cert out = IsWhole task make script cert out × (is_fault (reads script).end ≡ true)
IsLeft status.Usage task make script cert out = IsSilent cert out
IsLeft status.ReadFault task make script cert out = IsStopped task make script cert out
IsLeft status.WriteFault task make script cert out = IsStopped task make script cert out
IsLeft status.CertFault task make script cert out = IsStopped task make script cert out
IsLeft status.Memory task make script cert out = IsStopped task make script cert out

-- where the certificate's contents are stated, it is accepted for the script
abbrev pub IsAccepted : Bool → List ℕ → Option (List ℕ) → Type 0
IsAccepted bits script None = Unit {0}
IsAccepted bits script (Some certificate) = Accepts bits script certificate

-- how a run that ended so is reported
abbrev pub status_of : Result Bool Stop → SolveStatus
status_of (Ok false) = status.Done
status_of (Ok true) = status.Refused
status_of (Err stops.ReadFault) = status.ReadFault
status_of (Err stops.WriteFault) = status.WriteFault
status_of (Err stops.CertFault) = status.CertFault
status_of (Err stops.Memory) = status.Memory

-- the run ended before it did anything
abbrev pub IsIdle : SolveStatus → Type 0
IsIdle status.Usage = Unit {0}
IsIdle status.Memory = Unit {0}
IsIdle _ = ⊥

-- certificate, answers and the certificate's name are as they were
abbrev pub IsUntouched : Change → Change → Change → Type 0
IsUntouched cert out name = (cert.new ≡ cert.old) × (out.new ≡ out.old) × (name.new ≡ name.old)

-- all is as it was, or the certificate was created under this name
abbrev pub IsUntouchedOrNamed : List ℕ → Change → Change → Change → Type 0
IsUntouchedOrNamed given cert out name = IsUntouched cert out name ⊎ Becomes given name.old name.new

-- The name under which the certificate was created, by the status: a run that stopped may have left all as it was.
abbrev pub IsNamed : SolveStatus → List ℕ → Change → Change → Change → Type 0
IsNamed status.Done given cert out name = Becomes given name.old name.new
IsNamed status.Refused given cert out name = Becomes given name.old name.new
IsNamed status.Usage given cert out name = IsUntouched cert out name
IsNamed status.ReadFault given cert out name = IsUntouchedOrNamed given cert out name
IsNamed status.WriteFault given cert out name = IsUntouchedOrNamed given cert out name
IsNamed status.CertFault given cert out name = IsUntouchedOrNamed given cert out name
IsNamed status.Memory given cert out name = IsUntouchedOrNamed given cert out name

-- What is left by a run that the words ask for: the certificate that they name and the answers; a whole certificate is accepted.
pub record IsPlanned (words : List Text) (s : SolveStatus) (left : Option (List ℕ)) (cert out name : Change) : Type 0 where
  pub plan : Plan
  pub has : HasPlan words plan
  pub leaves : IfSome (script_given plan.make left) (λ script. IsLeft s (task_of plan) plan.make script cert out)
  pub named : IsNamed s plan.cert_name cert out name
  pub accepted : s ≡ status.Done → IfSome (script_given plan.make left) (λ script. (held : List ℕ) → cert.old ≡ Some held → IsAccepted plan.bits script cert.new)

abbrev pub Leaves : List Text → SolveStatus → Option (List ℕ) → Change → Change → Change → Type 0
Leaves words s left cert out name = (IsIdle s × IsUntouched cert out name) ⊎ IsPlanned words s left cert out name

-- the script that the words ask for: a generated one, or else the bytes that are left
abbrev pub IsScript : List Text → Option (List ℕ) → List ℕ → Type 0
IsScript words left script = script_given (number_given (codes "make") words) left ≡ Some script

-- How a run ends that nothing outside of it stops: as its script does, or out of memory.
abbrev pub EndsAs : SolveStatus → End → Type 0
EndsAs s Done = (s ≡ status.Done) ⊎ (s ≡ status.Memory)
EndsAs s (AtFault line column code) = (s ≡ status.Refused) ⊎ (s ≡ status.Memory)
