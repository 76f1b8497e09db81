use Rattle.ffc_term.proofs.LawLemmas.{value_at-of_sort}
use Rattle.ffc_term.proofs.laws.values_are_of_sort.Goals as goal

pub returns : goal.returns
returns c = value_at-of_sort
