use Rattle.ffc_smt.proofs.PartLemmas.{own_faults_at, misfits_at_items, parameter_misfits_at_items, binding_faults_at}
use Rattle.ffc_smt.proofs.reading_laws.parts_faults_are_at_tokens.Goals as goal

pub returns : goal.returns
returns c = record {
  own = λ limit scope locals items. own_faults_at items limit scope locals;
  misfit = λ limit scope locals items want i. misfits_at_items items limit scope locals want i;
  parameter = λ limit scope locals items ps. parameter_misfits_at_items items limit scope locals ps;
  binding = λ limit scope locals items. binding_faults_at items limit scope locals;
}
