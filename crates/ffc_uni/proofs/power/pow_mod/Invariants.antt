use Rattle.std.proofs.Common.{◌*◌, ◌-◌, ◌^◌, ◌/◌, ◌<◌, ◌≤◌, length}
use Rattle.ffc_base.specs.Metering.{total}
use Rattle.ffc_uni.specs.Univariate.{IsRemainder, raised}
use Rattle.ffc_uni.specs.Units.{IsAtMost}
use Rattle.ffc_uni.proofs.power.pow_mod.Given as goal

abbrev pub invariant-loop-place : goal.invariant-loop-place
invariant-loop-place g l = record {
  power : IsRemainder g.F.Field.ORDER l.f (raised l.base (l.exponent / 2 ^ l.place)) l.power;
  lower : length l.power < length l.f;
  units : IsAtMost (2 * (64 - l.place)) l.fn.meter l.meter;
  taken : 0 < l.exponent / 2 ^ l.place → total l.fn.meter < total l.meter;
  within : 0 < l.exponent / 2 ^ l.place → total l.meter ≤ l.meter.budget;
}
