use Rattle.ffc_smt.proofs.InterningLemmas.{choosing_is_one}
use Rattle.ffc_smt.proofs.laws.choosing_is_one.Goals as goal

pub returns : goal.returns
returns c = λ old new p d a b id table h. choosing_is_one old new p d a b id table h
