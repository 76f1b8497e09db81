use Rattle.ffc_ring.proofs.MonomialLemmas.{mono_mul_assoc, mono_mul_cancel, mono_mul_comm, mono_mul_one}
use Rattle.ffc_ring.proofs.monomials.monoid.Goals as goal

pub returns-clause-commutes : goal.returns-clause-commutes
returns-clause-commutes c = mono_mul_comm

pub returns-clause-associates : goal.returns-clause-associates
returns-clause-associates c = mono_mul_assoc

pub returns-clause-with_one : goal.returns-clause-with_one
returns-clause-with_one c = mono_mul_one

pub returns-clause-cancels : goal.returns-clause-cancels
returns-clause-cancels c = mono_mul_cancel
