use Rattle.ffc_verify.proofs.CodeLemmas.{not_enough_goes_on}
use Rattle.ffc_verify.proofs.laws.not_enough_goes_on.Goals as goal

pub returns : goal.returns
returns c = not_enough_goes_on
