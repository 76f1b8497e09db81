use Rattle.ffc_uni.proofs.Coefficients.{plus_alike, products_alike}
use Rattle.ffc_uni.proofs.laws.congruence.Goals as goal

pub returns-clause-sums : goal.returns-clause-sums
returns-clause-sums c = plus_alike

pub returns-clause-products : goal.returns-clause-products
returns-clause-products c = products_alike
