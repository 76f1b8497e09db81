use Rattle.ffc_rules.proofs.ConeLemmas.{cone_nodes}
use Rattle.ffc_rules.proofs.CaseLemmas.{constants_of}
use Rattle.ffc_rules.proofs.laws.cones_are_nodes.Goals as goal

pub returns : goal.returns
returns c = λ nodes ids table within. (cone_nodes nodes ids table within, constants_of nodes ids table within)
