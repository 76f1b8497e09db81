use Rattle.ffc_answer.proofs.LawLemmas.{answers_on, last_on, one_quiet, one_check, ends_there}
use Rattle.ffc_answer.proofs.laws.answers_go_on.Goals as goal

pub returns : goal.returns
returns c = record {
  answers = λ l xs ys es fs e. answers_on l xs ys es fs e;
  last = λ l xs ys es fs e. last_on l xs ys es fs e;
  quiet = λ l x e. one_quiet l x e;
  check = λ l x check entry e. one_check l x check entry e;
  ends = λ l x xs check e. ends_there l x xs check e;
}
