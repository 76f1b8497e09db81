use Rattle.ffc_smt.proofs.CheckLemmas.{step_keeps_check, step_keeps_asked}
use Rattle.ffc_smt.proofs.check_laws.steps_keep_checks.Goals as goal

pub returns : goal.returns
returns c = record { check = λ l s tree d k small h g e is. step_keeps_check l s tree d small h g e k is; asked = λ l s tree d small h g e. step_keeps_asked l s tree d small h g e }
