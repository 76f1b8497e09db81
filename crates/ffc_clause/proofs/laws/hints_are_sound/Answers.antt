use Rattle.ffc_clause.proofs.HintLemmas.{follows_true}
use Rattle.ffc_clause.proofs.laws.hints_are_sound.Goals as goal

pub returns : goal.returns
returns c = follows_true
