use Rattle.ffc_uni.proofs.ChainLemmas.{zeros_of_chains}
use Rattle.ffc_uni.proofs.laws.zeros_of_chains.Goals as goal

pub returns : goal.returns
returns g c = zeros_of_chains _ g.met.F.Field.prime g.met.F.Field.fits
