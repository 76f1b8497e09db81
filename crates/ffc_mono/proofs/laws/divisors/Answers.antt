use Rattle.ffc_mono.proofs.LeadingLemmas.{divisor_is_no_greater}
use Rattle.ffc_mono.proofs.laws.divisors.Goals as goal

pub returns : goal.returns
returns c = divisor_is_no_greater
