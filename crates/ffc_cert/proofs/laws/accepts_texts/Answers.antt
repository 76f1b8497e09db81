use Rattle.ffc_cert.proofs.TextLemmas as texts
use Rattle.ffc_cert.proofs.laws.accepts_texts.Goals as goal

pub returns : goal.returns
returns c = texts.accepts_texts
