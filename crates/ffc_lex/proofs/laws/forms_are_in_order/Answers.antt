use Rattle.ffc_lex.proofs.OrderLemmas.{forms_in_order}
use Rattle.ffc_lex.proofs.laws.forms_are_in_order.Goals as goal

pub returns : goal.returns
returns c = λ text. forms_in_order text
