use Rattle.std.proofs.Common.{◌≡◌, map, take}
use Rattle.ffc_macaulay.specs.Refuting.{summands_of}
use Rattle.ffc_macaulay.proofs.finding.summands_of.Given as goal

abbrev pub invariant-loop-i : goal.invariant-loop-i
invariant-loop-i g l = l.summands.items ≡ summands_of (take l.i l.multiples) (map g.F.Field.value (take l.i l.coefficients))
