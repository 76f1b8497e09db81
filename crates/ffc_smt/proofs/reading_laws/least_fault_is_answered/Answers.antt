use Rattle.ffc_smt.proofs.PartLemmas.{least_is_first}
use Rattle.ffc_smt.proofs.reading_laws.least_fault_is_answered.Goals as goal

pub returns : goal.returns
returns c = λ f fs g has h. least_is_first f fs g has h
