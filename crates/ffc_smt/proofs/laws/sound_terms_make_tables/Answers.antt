use Rattle.ffc_smt.proofs.SoundTerms.{sound_terms_make_tables}
use Rattle.ffc_smt.proofs.laws.sound_terms_make_tables.Goals as goal

pub returns : goal.returns
returns c = λ t s constants before locals sound ids env nodes count assignment agree are table room.
    sound_terms_make_tables t s constants before locals sound ids env nodes count assignment agree are table room
