use Rattle.ffc_clause.proofs.PropagationLemmas.{propagated_true}
use Rattle.ffc_clause.proofs.laws.propagation_is_sound.Goals as goal

pub returns : goal.returns
returns c = λ truth clauses l all propagates. propagated_true truth clauses all l propagates
