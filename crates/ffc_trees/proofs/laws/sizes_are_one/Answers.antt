use Rattle.ffc_trees.proofs.SameLemmas.{one_length, one_degree}
use Rattle.ffc_trees.proofs.laws.sizes_are_one.Goals as goal

pub returns : goal.returns
returns c = λ p f g positive same. (one_length p f g positive same, one_degree p f g positive same)
