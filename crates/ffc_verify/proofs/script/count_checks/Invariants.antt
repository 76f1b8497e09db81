use Rattle.std.proofs.Common.{◌-◌, length}
use Rattle.ffc_smt.specs.TableChecks.{table_checks}
use Rattle.ffc_script.specs.Progress.{steps_of}
use Rattle.ffc_verify.proofs.WalkLemmas.{HasCounted}
use Rattle.ffc_verify.proofs.script.count_checks.Given as goal

abbrev pub invariant-checks : goal.invariant-checks
invariant-checks l = HasCounted l.script l.reader l.count

abbrev pub decreases-checks : goal.decreases-checks
decreases-checks l = 67108866 - length (table_checks (steps_of l.reader))
