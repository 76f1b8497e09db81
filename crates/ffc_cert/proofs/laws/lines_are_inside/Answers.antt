use Rattle.ffc_cert.proofs.TextLemmas as texts
use Rattle.ffc_cert.proofs.laws.lines_are_inside.Goals as goal

pub returns : goal.returns
returns c = texts.lines_are_inside
