use Rattle.ffc_rules.proofs.KeptLemmas.{refutations_kept}
use Rattle.ffc_rules.proofs.laws.refutations_are_kept.Goals as goal

pub returns : goal.returns
returns c = refutations_kept
