use Rattle.ffc_trees.proofs.NodePolyLemmas.{poly_at-append}
use Rattle.ffc_trees.proofs.laws.polynomials_stay.Goals as goal

pub returns : goal.returns
returns c = poly_at-append
