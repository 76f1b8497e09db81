use Rattle.ffc_clause.proofs.PropagationLemmas.{refuted_never_true}
use Rattle.ffc_clause.proofs.laws.refuted_are_never_true.Goals as goal

pub returns : goal.returns
returns c = refuted_never_true
