use Rattle.std.proofs.Common.{ℕ, ◌+◌, ◌*◌, ◌≤◌, length, All}
use Rattle.ffc_base.specs.Metering.{Takes}
use Rattle.ffc_linear.proofs.UnitLemmas.{IsTakenWithin}
use Rattle.ffc_uni.specs.Univariate.{Coefficients}
use Rattle.ffc_single.specs.Dividing.{IsDivisorOf}
use Rattle.ffc_single.proofs.divisor.divisor_of.Given as goal

abbrev pub invariant-loop-place : goal.invariant-loop-place
invariant-loop-place g l = record {
  divisor : IsDivisorOf g.F.Field.ORDER l.forms l.place l.divisor;
  units : (n : ℕ) → All (λ (f : Coefficients). length f ≤ n) l.forms → IsTakenWithin (l.place * (n + n * n)) l.fn.meter l.meter;
  takes : Takes l.fn.meter l.meter;
}
