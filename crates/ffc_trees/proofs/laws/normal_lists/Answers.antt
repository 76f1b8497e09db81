use Rattle.ffc_trees.proofs.NormalLemmas.{normal_same, normal_is_normal}
use Rattle.ffc_trees.proofs.laws.normal_lists.Goals as goal

pub returns-clause-same : goal.returns-clause-same
returns-clause-same c = normal_same

pub returns-clause-normal : goal.returns-clause-normal
returns-clause-normal c = normal_is_normal
