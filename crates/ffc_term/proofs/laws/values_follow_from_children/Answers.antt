use Rattle.ffc_term.proofs.ValueLemmas.{value_at-is}
use Rattle.ffc_term.proofs.laws.values_follow_from_children.Goals as goal

pub returns : goal.returns
returns c = λ nodes assignment id n table at. value_at-is nodes assignment id n table.well_formed at
