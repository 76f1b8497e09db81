use Rattle.ffc_answer.proofs.LawLemmas.{remembered_on, remembered_check}
use Rattle.ffc_answer.proofs.laws.remembering_goes_on.Goals as goal

pub returns : goal.returns
returns c = record {
  first = tt;
  quiet = λ l x h. remembered_on x.before x.tree x.command l h;
  check = λ x check entry sound scoped read is fits. remembered_check x check entry sound scoped read is fits;
}
