use Rattle.ffc_term.proofs.LawLemmas.{value_at-append}
use Rattle.ffc_term.proofs.laws.values_stay.Goals as goal

pub returns : goal.returns
returns c = value_at-append
