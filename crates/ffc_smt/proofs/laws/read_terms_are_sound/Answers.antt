use Rattle.ffc_smt.proofs.SoundReading.{read_terms_are_sound}
use Rattle.ffc_smt.proofs.laws.read_terms_are_sound.Goals as goal

pub returns : goal.returns
returns c = λ limit scope locals tree t constants nodes well e. read_terms_are_sound limit scope locals tree t constants nodes well e
