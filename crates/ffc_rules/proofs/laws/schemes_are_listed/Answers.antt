use Rattle.ffc_rules.proofs.ListingLemmas.{listed_schemes}
use Rattle.ffc_rules.proofs.laws.schemes_are_listed.Goals as goal

pub returns : goal.returns
returns c = listed_schemes
