use Rattle.ffc_rules.proofs.ScriptLemmas.{accepted_sound}
use Rattle.ffc_rules.proofs.laws.acceptance_is_sound.Goals as goal

pub returns : goal.returns
returns c = accepted_sound
