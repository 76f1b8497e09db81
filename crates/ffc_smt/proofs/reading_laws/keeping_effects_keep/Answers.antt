use Rattle.ffc_smt.proofs.EffectLemmas.{keeping_keeps}
use Rattle.ffc_smt.proofs.reading_laws.keeping_effects_keep.Goals as goal

pub returns : goal.returns
returns c = λ d s e. keeping_keeps d s e
