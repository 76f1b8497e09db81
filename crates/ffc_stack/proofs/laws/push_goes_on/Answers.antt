use Rattle.ffc_stack.proofs.StackLemmas.{push_goes_on}
use Rattle.ffc_stack.proofs.laws.push_goes_on.Goals as goal

pub returns : goal.returns
returns g c = push_goes_on
