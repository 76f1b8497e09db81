use Rattle.ffc_smt.proofs.Keeping.{made_kept}
use Rattle.ffc_smt.proofs.laws.nodes_keep_values.Goals as goal

pub returns : goal.returns
returns c = λ t ids env ns A agree formed. made_kept A t ids env ns agree formed
