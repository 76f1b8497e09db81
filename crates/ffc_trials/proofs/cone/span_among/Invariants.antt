use Rattle.std.proofs.Common.{◌≡◌, ◌^◌, min, take}
use Rattle.ffc_term.specs.Measuring.{span_of}
use Rattle.ffc_trials.proofs.cone.span_among.Given as goal

abbrev pub invariant-loop-id : goal.invariant-loop-id
invariant-loop-id l = l.span ≡ min (span_of l.table (take l.id-index l.constants)) (2 ^ 64)
