use Rattle.ffc_rules.proofs.SchemeLemmas.{scheme_true}
use Rattle.ffc_rules.proofs.laws.schemes_are_true.Goals as goal

pub returns : goal.returns
returns c = scheme_true
