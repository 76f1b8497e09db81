use Rattle.ffc_basis.proofs.NormalForms.{leading_or_zero}
use Rattle.ffc_ideal.proofs.Criterion.{criterion, closed_without_constant}
use Rattle.ffc_ideal.proofs.laws.buchbergers_criterion.Goals as goal

pub returns-clause-leading : goal.returns-clause-leading
returns-clause-leading c = λ p cmp laws. leading_or_zero cmp laws p

pub returns-clause-criterion : goal.returns-clause-criterion
returns-clause-criterion c = criterion

pub returns-clause-no_one : goal.returns-clause-no_one
returns-clause-no_one c = closed_without_constant
