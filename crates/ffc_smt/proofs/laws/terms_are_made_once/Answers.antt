use Rattle.std.proofs.Common.{refl}
use Rattle.ffc_smt.proofs.Again.{made_anew}
use Rattle.ffc_smt.proofs.laws.terms_are_made_once.Goals as goal

pub returns : goal.returns
returns c = λ t ids nodes more inside. made_anew t ids nodes _ inside (more, refl)
