use Rattle.ffc_cert.proofs.GoesOnLemmas.{goes_on}
use Rattle.ffc_cert.proofs.laws.reading_goes_on.Goals as goal

pub returns : goal.returns
returns c = goes_on
