use Rattle.ffc_ring.proofs.MonomialLemmas.{one_monomial}
use Rattle.ffc_ring.proofs.monomials.equal_exponents.Goals as goal

pub returns : goal.returns
returns c = one_monomial 0
