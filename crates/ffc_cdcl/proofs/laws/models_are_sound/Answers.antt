use Rattle.ffc_cdcl.proofs.LawLemmas.{models_true}
use Rattle.ffc_cdcl.proofs.laws.models_are_sound.Goals as goal

pub returns : goal.returns
returns c = models_true
