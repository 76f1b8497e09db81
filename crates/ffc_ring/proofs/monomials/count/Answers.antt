use Rattle.ffc_ring.proofs.CountingLemmas.{count_of_monomials}
use Rattle.ffc_ring.proofs.ReachedLemmas.{count_is_reached}
use Rattle.ffc_ring.proofs.monomials.count.Goals as goal

pub returns : goal.returns
returns c = record { most = count_of_monomials; reached = count_is_reached }
