use Rattle.ffc_term.proofs.LawLemmas.{constants_decide}
use Rattle.ffc_term.proofs.laws.constants_decide.Goals as goal

pub returns : goal.returns
returns c = constants_decide
