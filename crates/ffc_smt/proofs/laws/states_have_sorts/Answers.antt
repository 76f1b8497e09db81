use Rattle.ffc_smt.proofs.StateLemmas.{states_have_sorts}
use Rattle.ffc_smt.proofs.laws.states_have_sorts.Goals as goal

pub returns : goal.returns
returns c = λ l s tree d h e. states_have_sorts l s h tree d e
