use Rattle.ffc_uni.proofs.DigitLemmas.{few_pairs}
use Rattle.ffc_uni.proofs.laws.length_of_chains.Goals as goal

pub returns : goal.returns
returns c = few_pairs
