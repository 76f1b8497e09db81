use Rattle.ffc_smt.proofs.InterningLemmas.{interning_is_one}
use Rattle.ffc_smt.proofs.laws.interning_is_one.Goals as goal

pub returns : goal.returns
returns c = λ old new n id formed h. interning_is_one old new n id formed h
