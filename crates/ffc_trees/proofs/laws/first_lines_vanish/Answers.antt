use Rattle.ffc_trees.proofs.FirstLineLemmas.{first_lines_vanish}
use Rattle.ffc_trees.proofs.laws.first_lines_vanish.Goals as goal

pub returns : goal.returns
returns c = λ nodes A p lits table order on off. first_lines_vanish nodes A p order table lits on off
