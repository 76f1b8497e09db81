use Rattle.ffc_uni.proofs.ValueLemmas.{one_value, value_of-plus, value_of-times}
use Rattle.ffc_uni.proofs.laws.values.Goals as goal

pub returns-clause-sum : goal.returns-clause-sum
returns-clause-sum c = value_of-plus

pub returns-clause-product : goal.returns-clause-product
returns-clause-product c = value_of-times

pub returns-clause-one : goal.returns-clause-one
returns-clause-one c = one_value
