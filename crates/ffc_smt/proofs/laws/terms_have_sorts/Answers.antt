use Rattle.ffc_smt.proofs.SortLemmas.{terms_have_sorts}
use Rattle.ffc_smt.proofs.laws.terms_have_sorts.Goals as goal

pub returns : goal.returns
returns c = λ limit scope locals tree t well e. terms_have_sorts limit scope locals tree t well e
