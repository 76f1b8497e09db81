use Rattle.std.proofs.Common.{◌-◌, ◌≤◌, length}
use Rattle.std.specs.Option.{IfSome}
use Rattle.ffc_smt.specs.TableChecks.{table_checks}
use Rattle.ffc_script.specs.Progress.{steps_of}
use Rattle.ffc_verify.specs.Status.{ReadsAsNeeded}
use Rattle.ffc_verify.proofs.JudgeLemmas.{IsUnderway}
use Rattle.ffc_verify.proofs.judge.judge.Given as goal

abbrev pub invariant-checks : goal.invariant-checks
invariant-checks g l =
    IsUnderway l.script l.checks l.bits l.cores (g.C.Source.left l.fn.cert) l.reader l.entries (g.C.Source.left l.cert) l.tally × (g.C.Source.faults l.fn.cert ≤ g.C.Source.faults l.cert)
    × IfSome (g.C.Source.left l.fn.cert) (λ certificate. ReadsAsNeeded l.bits l.script certificate (g.C.Source.left l.cert))

abbrev pub decreases-checks : goal.decreases-checks
decreases-checks g l = 67108866 - length (table_checks (steps_of l.reader))
