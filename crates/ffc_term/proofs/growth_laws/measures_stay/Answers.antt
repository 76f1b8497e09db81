use Rattle.ffc_term.proofs.TableLemmas.{sort_at-append}
use Rattle.ffc_term.proofs.GrowthLemmas.{degree_stays, length_stays}
use Rattle.ffc_term.proofs.growth_laws.measures_stay.Goals as goal

pub returns : goal.returns
returns c = record { sort = λ nodes more id inside. sort_at-append nodes more id inside; degree = λ nodes more id inside. degree_stays nodes more id inside; length = λ nodes more id inside. length_stays nodes more id inside }
