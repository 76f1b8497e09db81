use Rattle.ffc_rules.proofs.ReachedLemmas.{least_reached}
use Rattle.ffc_rules.proofs.laws.reached_are_least.Goals as goal

pub returns : goal.returns
returns c = least_reached
