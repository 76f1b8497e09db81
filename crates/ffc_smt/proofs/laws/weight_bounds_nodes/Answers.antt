use Rattle.ffc_smt.proofs.Bounds.{made_bound}
use Rattle.ffc_smt.proofs.laws.weight_bounds_nodes.Goals as goal

pub returns : goal.returns
returns c = λ t ids nodes defined. made_bound t ids nodes defined
