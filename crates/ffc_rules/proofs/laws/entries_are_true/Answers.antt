use Rattle.ffc_rules.proofs.EntryLemmas.{entry_true}
use Rattle.ffc_rules.proofs.laws.entries_are_true.Goals as goal

pub returns : goal.returns
returns c = entry_true
