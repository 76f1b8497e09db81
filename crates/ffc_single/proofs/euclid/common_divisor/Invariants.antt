use Rattle.std.proofs.Common.{length}
use Rattle.ffc_single.specs.Euclid.{IsEuclid}
use Rattle.ffc_single.proofs.UnitLemmas.{IsTakenSoFar}
use Rattle.ffc_single.proofs.euclid.common_divisor.Given as goal

abbrev pub invariant-loop-first : goal.invariant-loop-first
invariant-loop-first g l = record {
  state : IsEuclid g.F.Field.ORDER l.g l.h l.first l.second;
  units : IsTakenSoFar (length l.g) (length l.h) (length l.second.value) l.fn.meter l.meter;
}

abbrev pub decreases-loop-first : goal.decreases-loop-first
decreases-loop-first g l = length l.second.value
