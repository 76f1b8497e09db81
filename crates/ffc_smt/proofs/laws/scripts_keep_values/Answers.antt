use Rattle.ffc_smt.proofs.ScriptLemmas.{scripts_keep_values}
use Rattle.ffc_smt.proofs.laws.scripts_keep_values.Goals as goal

pub returns : goal.returns
returns c = λ l text small. scripts_keep_values l text small
