use Rattle.ffc_term.proofs.LawLemmas.{AreNodesOf-one}
use Rattle.ffc_term.proofs.laws.nodes_are_one_list.Goals as goal

pub returns : goal.returns
returns c = AreNodesOf-one
