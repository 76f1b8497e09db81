use Rattle.ffc_smt.proofs.CheckLemmas.{scripts_keep_checks}
use Rattle.ffc_smt.proofs.check_laws.scripts_keep_checks.Goals as goal

pub returns : goal.returns
returns c = λ l text small. scripts_keep_checks l text small
