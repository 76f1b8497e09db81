use Rattle.ffc_echelon.proofs.Spanning.{spanned_leads, sums_lead}
use Rattle.ffc_echelon.proofs.laws.spans.Goals as goal

pub returns-clause-vectors : goal.returns-clause-vectors
returns-clause-vectors c = spanned_leads

pub returns-clause-sums : goal.returns-clause-sums
returns-clause-sums c = sums_lead
