use Rattle.ffc_stack.proofs.StackLemmas.{pop_undoes_push}
use Rattle.ffc_stack.proofs.laws.pop_undoes_push.Goals as goal

pub returns : goal.returns
returns g c = pop_undoes_push
