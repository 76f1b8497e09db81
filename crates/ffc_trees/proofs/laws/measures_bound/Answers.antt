use Rattle.ffc_trees.proofs.BoundLemmas.{poly_at-bounded}
use Rattle.ffc_trees.proofs.laws.measures_bound.Goals as goal

pub returns : goal.returns
returns c = poly_at-bounded
