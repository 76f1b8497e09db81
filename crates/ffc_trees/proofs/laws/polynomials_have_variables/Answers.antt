use Rattle.ffc_trees.proofs.VariableLemmas.{poly_at-variables}
use Rattle.ffc_trees.proofs.laws.polynomials_have_variables.Goals as goal

pub returns : goal.returns
returns c = poly_at-variables
