use Rattle.ffc_smt.proofs.PlaceLemmas.{sort_faults, term_faults, command_faults}
use Rattle.ffc_smt.proofs.reading_laws.faults_are_at_tokens.Goals as goal

pub returns : goal.returns
returns c = record { sorts = λ sorts t. sort_faults sorts t; terms = λ limit scope locals t. term_faults limit scope locals t; commands = λ l s t. command_faults l s t }
