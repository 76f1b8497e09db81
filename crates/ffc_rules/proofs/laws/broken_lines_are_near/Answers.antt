use Rattle.ffc_rules.proofs.BoundLemmas.{fault_near}
use Rattle.ffc_rules.proofs.laws.broken_lines_are_near.Goals as goal

pub returns : goal.returns
returns c = fault_near
