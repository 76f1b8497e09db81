use Rattle.ffc_uni.proofs.RingLemmas.{product_in_ring, same_in_ring, same_out_of_ring, sum_in_ring, value_in_ring}
use Rattle.ffc_uni.proofs.laws.in_ring.Goals as goal

pub returns-clause-same : goal.returns-clause-same
returns-clause-same c = same_in_ring

pub returns-clause-same_back : goal.returns-clause-same_back
returns-clause-same_back c = same_out_of_ring

pub returns-clause-sum : goal.returns-clause-sum
returns-clause-sum c = sum_in_ring

pub returns-clause-product : goal.returns-clause-product
returns-clause-product c = product_in_ring

pub returns-clause-value : goal.returns-clause-value
returns-clause-value c = value_in_ring
