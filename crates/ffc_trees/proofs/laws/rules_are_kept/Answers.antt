use Rattle.ffc_trees.proofs.RuleLemmas.{sum_from, sum_to, chain_from, chain_to, step_from, step_to, split_from, split_to, values_from, values_to}
use Rattle.ffc_trees.proofs.BitRuleLemmas.{bits_from, bits_to}
use Rattle.ffc_trees.proofs.laws.rules_are_kept.Goals as goal

pub returns-clause-sums : goal.returns-clause-sums
returns-clause-sums c = λ l p lines ms line. (sum_from l p lines ms line, sum_to l p lines ms line)

pub returns-clause-bits : goal.returns-clause-bits
returns-clause-bits c = λ l p lines sum chosen written numbers line. (bits_from l p lines sum chosen written numbers line, bits_to l p lines sum chosen written numbers line)

pub returns-clause-chains : goal.returns-clause-chains
returns-clause-chains c = λ p lines k x count f. (chain_from p lines k x count f, chain_to p lines k x count f)

pub returns-clause-steps : goal.returns-clause-steps
returns-clause-steps c = λ l p f factor r quotient remainder. (step_from l p f factor r quotient remainder, step_to l p f factor r quotient remainder)

pub returns-clause-splits : goal.returns-clause-splits
returns-clause-splits c = λ p lines k x zeros cases. (split_from p lines k x zeros cases, split_to p lines k x zeros cases)

pub returns-clause-values : goal.returns-clause-values
returns-clause-values c = λ p lines x count cases. (values_from p lines x count cases, values_to p lines x count cases)
