use Rattle.std.proofs.Common.{◌≢◌, [], length}
use Rattle.ffc_roots.specs.Divisors.{IsBezout}
use Rattle.ffc_roots.proofs.Euclid.{IsSpanned}
use Rattle.ffc_roots.proofs.bezout.common_divisor.Given as goal

abbrev pub invariant-loop-first : goal.invariant-loop-first
invariant-loop-first g l =
    let p = g.F.Field.ORDER in
    record {
      some : l.first.value ≢ [];
      first : IsBezout p l.f l.h l.first.b l.first.value;
      second : IsBezout p l.f l.h l.second.b l.second.value;
      of_f : IsSpanned p l.f l.first.value l.second.value;
      of_h : IsSpanned p l.h l.first.value l.second.value;
    }

abbrev pub decreases-loop-first : goal.decreases-loop-first
decreases-loop-first g l = length l.second.value
