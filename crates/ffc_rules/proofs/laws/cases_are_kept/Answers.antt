use Rattle.ffc_rules.proofs.KeptLemmas.{cases_kept}
use Rattle.ffc_rules.proofs.laws.cases_are_kept.Goals as goal

pub returns : goal.returns
returns c = cases_kept
