use Rattle.ffc_smt.proofs.FormLemmas.{forms_good}
use Rattle.ffc_smt.proofs.laws.forms_are_trees.Goals as goal

pub returns : goal.returns
returns c = λ text. forms_good text
