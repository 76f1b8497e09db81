use Rattle.ffc_ring.proofs.MonomialLemmas.{Divides-mono_mul, IsMonomialFrom-mono_quotient, degree_of_divisor, mono_mul-mono_quotient, exponent-mono_quotient, degree-mono_quotient, divides_itself, divides_through, mutual_divisors}
use Rattle.ffc_ring.proofs.monomials.divisibility.Goals as goal

pub returns-clause-product : goal.returns-clause-product
returns-clause-product c = Divides-mono_mul

pub returns-clause-degree : goal.returns-clause-degree
returns-clause-degree c = degree_of_divisor 0

pub returns-clause-quotient_monomial : goal.returns-clause-quotient_monomial
returns-clause-quotient_monomial c = IsMonomialFrom-mono_quotient 0

pub returns-clause-quotient : goal.returns-clause-quotient
returns-clause-quotient c = mono_mul-mono_quotient

pub returns-clause-quotient_exponents : goal.returns-clause-quotient_exponents
returns-clause-quotient_exponents c = λ m n v x. exponent-mono_quotient 0 m n x v

pub returns-clause-quotient_degree : goal.returns-clause-quotient_degree
returns-clause-quotient_degree c = degree-mono_quotient

pub returns-clause-itself : goal.returns-clause-itself
returns-clause-itself c = divides_itself

pub returns-clause-through : goal.returns-clause-through
returns-clause-through c = divides_through

pub returns-clause-mutual : goal.returns-clause-mutual
returns-clause-mutual c = mutual_divisors
