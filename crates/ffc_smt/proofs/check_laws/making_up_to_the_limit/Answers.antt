use Rattle.ffc_smt.proofs.AskingLemmas.{asks_fit}
use Rattle.ffc_smt.proofs.ChoiceLemmas.{chosen, number_fits}
use Rattle.ffc_smt.proofs.check_laws.making_up_to_the_limit.Goals as goal

pub returns : goal.returns
returns c = record {
  applied = λ op ss s nodes ids takes table each. asks_fit op ss s nodes ids takes table each;
  chosen = λ nodes p d a b table absent. chosen nodes p d a b table.well_formed absent;
  number = λ nodes negative size p is. number_fits nodes negative size p is;
}
