use Rattle.ffc_ring.proofs.PolynomialLemmas.{poly_value-append, poly_value-difference, poly_value-product, one_value}
use Rattle.ffc_ring.proofs.polynomials.values.Goals as goal

pub returns-clause-sum : goal.returns-clause-sum
returns-clause-sum c = poly_value-append

pub returns-clause-difference : goal.returns-clause-difference
returns-clause-difference c = poly_value-difference

pub returns-clause-product : goal.returns-clause-product
returns-clause-product c = poly_value-product

pub returns-clause-one : goal.returns-clause-one
returns-clause-one c = one_value
