use Rattle.ffc_smt.proofs.PlaceLemmas.{trees_in_order}
use Rattle.ffc_smt.proofs.reading_laws.trees_are_in_order.Goals as goal

pub returns : goal.returns
returns c = λ text form t has e. trees_in_order text form t has e
