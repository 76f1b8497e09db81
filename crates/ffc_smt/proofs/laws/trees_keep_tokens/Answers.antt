use Rattle.ffc_smt.proofs.TreeLemmas.{tree_spelled}
use Rattle.ffc_smt.proofs.laws.trees_keep_tokens.Goals as goal

pub returns : goal.returns
returns c = λ words tree e. tree_spelled words tree e
