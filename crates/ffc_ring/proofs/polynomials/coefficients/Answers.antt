use Rattle.ffc_ring.proofs.PolynomialLemmas.{coefficient-append, coefficient-difference, coefficient-scaled, coefficient-term_product, shifted_monomial}
use Rattle.ffc_ring.proofs.polynomials.coefficients.Goals as goal

pub returns-clause-sum : goal.returns-clause-sum
returns-clause-sum c = coefficient-append

pub returns-clause-difference : goal.returns-clause-difference
returns-clause-difference c = coefficient-difference

pub returns-clause-scaled : goal.returns-clause-scaled
returns-clause-scaled c = coefficient-scaled

pub returns-clause-multiple : goal.returns-clause-multiple
returns-clause-multiple c = coefficient-term_product

pub returns-clause-shifted : goal.returns-clause-shifted
returns-clause-shifted c = shifted_monomial
