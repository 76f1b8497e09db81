use Rattle.ffc_term.proofs.LawLemmas.{AreMeasuresOf-one}
use Rattle.ffc_term.proofs.laws.measures_are_one.Goals as goal

pub returns : goal.returns
returns c = AreMeasuresOf-one
