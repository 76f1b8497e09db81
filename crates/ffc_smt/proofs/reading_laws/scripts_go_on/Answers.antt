use Rattle.ffc_lex.proofs.GoesOnLemmas.{goes_on}
use Rattle.ffc_smt.proofs.GoingOnLemmas.{tree_stays, script_goes, run_goes, reads_are, longer_goes, steps_go, stopped_goes}
use Rattle.ffc_smt.proofs.reading_laws.scripts_go_on.Goals as goal

pub returns : goal.returns
returns c = record {
  tree = λ text more form has. tree_stays text more form has;
  script = λ l s ts us end. script_goes l ts us s end;
  run = λ l s ts us. run_goes l ts us s;
  whole = λ l text. reads_are l text;
  longer = λ l text more. longer_goes l goes_on text more;
  steps = λ l text more. steps_go l goes_on text more;
  stopped = λ l text more fault e. stopped_goes l goes_on text more fault e;
}
