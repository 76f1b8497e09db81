use Rattle.ffc_ring.proofs.PolynomialLemmas.{same_products, same_sums}
use Rattle.ffc_ring.proofs.polynomials.congruence.Goals as goal

pub returns-clause-sums : goal.returns-clause-sums
returns-clause-sums c = same_sums

pub returns-clause-products : goal.returns-clause-products
returns-clause-products c = same_products
