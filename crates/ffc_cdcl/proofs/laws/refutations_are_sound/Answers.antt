use Rattle.ffc_cdcl.proofs.LawLemmas.{refutations_sound}
use Rattle.ffc_cdcl.proofs.laws.refutations_are_sound.Goals as goal

pub returns : goal.returns
returns c = refutations_sound
