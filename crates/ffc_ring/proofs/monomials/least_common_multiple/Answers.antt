use Rattle.ffc_ring.proofs.MonomialLemmas.{IsMonomial-mono_lcm, exponent-mono_lcm, first_divides_lcm, second_divides_lcm, lcm_divides, coprime_lcm}
use Rattle.ffc_ring.proofs.monomials.least_common_multiple.Goals as goal

pub returns-clause-monomial : goal.returns-clause-monomial
returns-clause-monomial c = IsMonomial-mono_lcm

pub returns-clause-exponents : goal.returns-clause-exponents
returns-clause-exponents c = exponent-mono_lcm

pub returns-clause-of_first : goal.returns-clause-of_first
returns-clause-of_first c = first_divides_lcm

pub returns-clause-of_second : goal.returns-clause-of_second
returns-clause-of_second c = second_divides_lcm

pub returns-clause-least : goal.returns-clause-least
returns-clause-least c = lcm_divides

pub returns-clause-coprime : goal.returns-clause-coprime
returns-clause-coprime c = coprime_lcm
