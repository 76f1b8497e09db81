use Rattle.ffc_trees.proofs.RefuteLemmas.{closes_refutes}
use Rattle.ffc_trees.proofs.laws.trees_refute.Goals as goal

pub returns : goal.returns
returns c = closes_refutes
