use Rattle.ffc_smt.proofs.ScopeStates.{first_is_scoped, next_is_scoped}
use Rattle.ffc_smt.proofs.check_laws.commands_keep_scopes.Goals as goal

pub returns : goal.returns
returns c = record { first = first_is_scoped; next = λ l s tree d h e. next_is_scoped l s h tree d e }
