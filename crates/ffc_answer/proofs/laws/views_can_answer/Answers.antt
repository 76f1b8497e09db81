use Rattle.ffc_answer.proofs.ViewLemmas.{view_can_answer}
use Rattle.ffc_answer.proofs.laws.views_can_answer.Goals as goal

pub returns : goal.returns
returns c = view_can_answer
