use Rattle.ffc_smt.proofs.OptionLemmas.{option_set, option_kept}
use Rattle.ffc_smt.proofs.reading_laws.options_are_set.Goals as goal

pub returns : goal.returns
returns c = record { set = λ o k b. option_set o k b; others = λ o k j b other. option_kept o k j b other }
