use Rattle.ffc_smt.proofs.StateLemmas.{scripts_have_sorts}
use Rattle.ffc_smt.proofs.laws.scripts_have_sorts.Goals as goal

pub returns : goal.returns
returns c = λ l text. scripts_have_sorts l text
