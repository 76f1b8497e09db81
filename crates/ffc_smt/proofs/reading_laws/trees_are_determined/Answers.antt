use Rattle.ffc_smt.proofs.ShapeLemmas.{form_proper, read_from_left, one_tree}
use Rattle.ffc_smt.proofs.reading_laws.trees_are_determined.Goals as goal

pub returns : goal.returns
returns c = record { proper = λ text form t has e. form_proper text form t has e; read = λ t h. read_from_left t h; one = λ t u h g e. one_tree t u h g e }
