use Rattle.ffc_rules.proofs.ScriptLemmas.{check_true}
use Rattle.ffc_rules.proofs.laws.entries_are_true_of_checks.Goals as goal

pub returns : goal.returns
returns c = check_true
