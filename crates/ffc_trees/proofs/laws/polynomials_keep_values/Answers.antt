use Rattle.ffc_trees.proofs.NodePolyLemmas.{poly_at-value}
use Rattle.ffc_trees.proofs.laws.polynomials_keep_values.Goals as goal

pub returns : goal.returns
returns c = poly_at-value
