use Rattle.ffc_smt.proofs.ScriptLemmas.{scripts_read_terms}
use Rattle.ffc_smt.proofs.laws.scripts_read_terms.Goals as goal

pub returns : goal.returns
returns c = λ l text small. scripts_read_terms l text small
