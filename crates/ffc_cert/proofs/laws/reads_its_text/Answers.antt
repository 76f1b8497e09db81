use Rattle.ffc_cert.proofs.TextLemmas as texts
use Rattle.ffc_cert.proofs.laws.reads_its_text.Goals as goal

pub returns-clause-named : goal.returns-clause-named
returns-clause-named c = texts.reads_its_text

pub returns-clause-unnamed : goal.returns-clause-unnamed
returns-clause-unnamed c = texts.reads_no_other
