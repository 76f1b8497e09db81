use Rattle.ffc_ring.proofs.PolynomialLemmas.{product_associates, product_commutes, product_distributes, product_distributes_from_left, product_with_one, sum_commutes}
use Rattle.ffc_ring.proofs.polynomials.ring.Goals as goal

pub returns-clause-sum_commutes : goal.returns-clause-sum_commutes
returns-clause-sum_commutes c = sum_commutes

pub returns-clause-product_commutes : goal.returns-clause-product_commutes
returns-clause-product_commutes c = product_commutes

pub returns-clause-product_associates : goal.returns-clause-product_associates
returns-clause-product_associates c = product_associates

pub returns-clause-distributes : goal.returns-clause-distributes
returns-clause-distributes c = product_distributes

pub returns-clause-distributes_from_left : goal.returns-clause-distributes_from_left
returns-clause-distributes_from_left c = product_distributes_from_left

pub returns-clause-with_one : goal.returns-clause-with_one
returns-clause-with_one c = product_with_one
