use Rattle.ffc_trees.proofs.TakenLemmas.{tree_taken}
use Rattle.ffc_trees.proofs.laws.trees_are_taken_off.Goals as goal

pub returns : goal.returns
returns c = tree_taken
