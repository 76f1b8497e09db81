use Rattle.ffc_rules.proofs.EntryLemmas.{core_sound}
use Rattle.ffc_rules.proofs.laws.cores_are_sound.Goals as goal

pub returns : goal.returns
returns c = core_sound
