use Rattle.ffc_smt.proofs.StepLemmas.{steps_keep_values}
use Rattle.ffc_smt.proofs.check_laws.steps_keep_values.Goals as goal

pub returns : goal.returns
returns c = λ l s tree d small h e. steps_keep_values l s tree d small h e
