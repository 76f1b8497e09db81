-- From the answer to a script of which reading failed to what is said of the run.
use Rattle.std.proofs.Common.{◌≡◌, ℕ, Bool, true, false, List, Option, refl, sym, ap, ◌∙◌, Result, Ok, Err}
use Rattle.std.proofs.lemmas.Bool.{false≢true}
use Rattle.std.specs.Option.{IfSome}
use Rattle.std.specs.Result.{IsErrOf}
use Rattle.clap.specs.Words.{Text}
use Rattle.ffc_solve.specs.Arguments.{HasPlan, task_of}
use Rattle.ffc_solve.specs.Status.{status_of}
use Rattle.ffc_solve.specs.declared.arguments.Plan.{Plan}
use Rattle.ffc_solve.specs.declared.arguments.Task.{Task}
use Rattle.ffc_solve.specs.declared.solve.SolveStatus.{SolveStatus}
use Rattle.ffc_solve.specs.declared.solve.SolveStatus.TheVariants as status
use Rattle.ffc_solve.specs.declared.stop.Stop.{Stop}
use Rattle.ffc_solve.specs.declared.stop.Stop.TheVariants as stops
use Rattle.ffc_solve.proofs.EndingLemmas.{told_if}

abbrev is_read_fault : SolveStatus → Bool
is_read_fault status.Done = false
is_read_fault status.Refused = false
is_read_fault status.Usage = false
is_read_fault status.ReadFault = true
is_read_fault status.WriteFault = false
is_read_fault status.CertFault = false
is_read_fault status.Memory = false

-- only a read that failed is reported as one
read_fault_is : (r : Result Bool Stop) → status_of r ≡ status.ReadFault → IsErrOf r stops.ReadFault
read_fault_is (Ok false) is = absurd (false≢true (ap is_read_fault is))
read_fault_is (Ok true) is = absurd (false≢true (ap is_read_fault is))
read_fault_is (Err stops.ReadFault) is = refl
read_fault_is (Err stops.WriteFault) is = absurd (false≢true (ap is_read_fault is))
read_fault_is (Err stops.CertFault) is = absurd (false≢true (ap is_read_fault is))
read_fault_is (Err stops.Memory) is = absurd (false≢true (ap is_read_fault is))

-- what holds of a text after which reading failed holds under the plan
pub paused_under : (words : List Text) (plan : Plan) (r : Result Bool Stop) (s : SolveStatus) (left : Option (List ℕ)) (A : List ℕ → List ℕ → Type 0) (B : Task → List ℕ → Type 0) → HasPlan words plan → s ≡ status_of r
    → (IsErrOf r stops.ReadFault → IfSome left (λ b. (text : List ℕ) × A text b × B (task_of plan) text)) → s ≡ status.ReadFault → IfSome left (λ b. (p : Plan) × HasPlan words p × (text : List ℕ) × A text b × B (task_of p) text)
paused_under words plan r s left A B has is paused fault =
    told_if left (λ b. (text : List ℕ) × A text b × B (task_of plan) text) (λ b. (p : Plan) × HasPlan words p × (text : List ℕ) × A text b × B (task_of p) text) (λ b h. (plan, has, h.0, h.1, h.2)) (paused (read_fault_is r (sym is ∙ fault)))
