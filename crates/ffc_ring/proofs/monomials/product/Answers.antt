use Rattle.ffc_ring.proofs.MonomialLemmas.{IsMonomial-mono_mul, degree-mono_mul, exponent-mono_mul, mono_value-mono_mul}
use Rattle.ffc_ring.proofs.monomials.product.Goals as goal

pub returns-clause-monomial : goal.returns-clause-monomial
returns-clause-monomial c = IsMonomial-mono_mul

pub returns-clause-exponents : goal.returns-clause-exponents
returns-clause-exponents c = exponent-mono_mul

pub returns-clause-degrees : goal.returns-clause-degrees
returns-clause-degrees c = degree-mono_mul

pub returns-clause-value : goal.returns-clause-value
returns-clause-value c = mono_value-mono_mul
