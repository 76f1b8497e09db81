use Rattle.ffc_clause.proofs.PropagationLemmas.{conflict_refutes}
use Rattle.ffc_clause.proofs.laws.conflicts_refute.Goals as goal

pub returns : goal.returns
returns c = conflict_refutes
