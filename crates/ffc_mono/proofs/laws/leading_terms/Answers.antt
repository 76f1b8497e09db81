use Rattle.ffc_mono.proofs.LeadingLemmas.{one_leading, leading_of_product, leading_of_multiple, leading_of_sum, leading_of_equal_sum, cancelled_sum, cancelled_step}
use Rattle.ffc_mono.proofs.laws.leading_terms.Goals as goal

pub returns-clause-one : goal.returns-clause-one
returns-clause-one c = λ p cmp laws. one_leading cmp laws p

pub returns-clause-product : goal.returns-clause-product
returns-clause-product c = λ p prime cmp laws. leading_of_product cmp laws p prime

pub returns-clause-multiple : goal.returns-clause-multiple
returns-clause-multiple c = λ p prime cmp laws. leading_of_multiple cmp laws p prime

pub returns-clause-sum : goal.returns-clause-sum
returns-clause-sum c = λ p cmp laws. leading_of_sum cmp laws p

pub returns-clause-equal_sum : goal.returns-clause-equal_sum
returns-clause-equal_sum c = λ p cmp laws. leading_of_equal_sum cmp laws p

pub returns-clause-cancelled_sum : goal.returns-clause-cancelled_sum
returns-clause-cancelled_sum c = λ p cmp laws. cancelled_sum cmp laws p

pub returns-clause-cancelled_step : goal.returns-clause-cancelled_step
returns-clause-cancelled_step c = λ p prime cmp laws. cancelled_step cmp laws p prime
