use Rattle.ffc_trees.proofs.BitLemmas.{common_divisor-is}
use Rattle.ffc_trees.proofs.BitRuleLemmas.{bits_are_zero}
use Rattle.ffc_trees.proofs.RefuteLemmas.{order_prime}
use Rattle.ffc_trees.proofs.laws.bit_lines_vanish.Goals as goal

pub returns-clause-zeros : goal.returns-clause-zeros
returns-clause-zeros c = λ l p lines sum chosen written numbers line point order h below zeros. bits_are_zero l p lines sum chosen written numbers line point (order_prime p order) below zeros h

pub returns-clause-divisors : goal.returns-clause-divisors
returns-clause-divisors c = common_divisor-is
