use Rattle.ffc_smt.proofs.ScopeStates.{scripts_keep_scopes}
use Rattle.ffc_smt.proofs.check_laws.scripts_keep_scopes.Goals as goal

pub returns : goal.returns
returns c = λ l text. scripts_keep_scopes l text
