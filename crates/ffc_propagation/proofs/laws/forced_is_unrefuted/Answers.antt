use Rattle.ffc_propagation.proofs.FoundLemmas.{never_refuted}
use Rattle.ffc_propagation.proofs.laws.forced_is_unrefuted.Goals as goal

pub returns : goal.returns
returns c = never_refuted
