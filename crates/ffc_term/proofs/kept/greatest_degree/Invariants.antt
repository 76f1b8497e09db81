use Rattle.std.proofs.Common.{◌≡◌, take}
use Rattle.ffc_term.specs.Measuring.{number_in, greatest_by}
use Rattle.ffc_term.specs.Keeping.{kept_degrees}
use Rattle.ffc_term.proofs.kept.greatest_degree.Given as goal

abbrev pub invariant-loop-id : goal.invariant-loop-id
invariant-loop-id l = l.greatest ≡ greatest_by (number_in (kept_degrees l.kept)) (take l.id-index l.ids)
