use Rattle.ffc_trees.proofs.ReadLemmas.{tree_read-closes, closes-tree_read}
use Rattle.ffc_trees.proofs.laws.read_trees_close.Goals as goal

pub returns-clause-only : goal.returns-clause-only
returns-clause-only c = tree_read-closes

pub returns-clause-all : goal.returns-clause-all
returns-clause-all c = closes-tree_read
