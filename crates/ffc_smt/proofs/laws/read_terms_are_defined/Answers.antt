use Rattle.ffc_smt.proofs.ScriptLemmas.{read_terms_are_defined}
use Rattle.ffc_smt.proofs.laws.read_terms_are_defined.Goals as goal

pub returns : goal.returns
returns c = λ limit s locals tree t h e. read_terms_are_defined limit s locals tree t h e
