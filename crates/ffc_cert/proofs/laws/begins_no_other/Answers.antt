use Rattle.ffc_cert.proofs.PrefixLemmas as prefixes
use Rattle.ffc_cert.proofs.laws.begins_no_other.Goals as goal

pub returns : goal.returns
returns c = prefixes.begins_no_other
