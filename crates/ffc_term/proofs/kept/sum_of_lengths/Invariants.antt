use Rattle.std.proofs.Common.{◌≡◌, sum_by, take}
use Rattle.ffc_term.specs.Measuring.{number_in}
use Rattle.ffc_term.specs.Keeping.{kept_lengths, capped}
use Rattle.ffc_term.proofs.kept.sum_of_lengths.Given as goal

abbrev pub invariant-loop-id : goal.invariant-loop-id
invariant-loop-id l = l.sum ≡ capped (sum_by (number_in (kept_lengths l.kept)) (take l.id-index l.ids))
