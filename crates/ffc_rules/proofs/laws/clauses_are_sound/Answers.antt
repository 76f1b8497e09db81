use Rattle.ffc_rules.proofs.EntryLemmas.{clause_sound}
use Rattle.ffc_rules.proofs.laws.clauses_are_sound.Goals as goal

pub returns : goal.returns
returns c = clause_sound
