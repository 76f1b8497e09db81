use Rattle.ffc_rules.proofs.KeptLemmas.{values_kept}
use Rattle.ffc_rules.proofs.laws.values_are_kept.Goals as goal

pub returns : goal.returns
returns c = values_kept
