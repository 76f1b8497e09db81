use Rattle.std.proofs.Common.{◌≢◌, [], length, arith}
use Rattle.ffc_base.specs.declared.stop.Stop.TheVariants.{Spent}
use Rattle.ffc_linear.proofs.UnitLemmas.{taken_within}
use Rattle.ffc_roots.proofs.Cases.{part_was_spent}
use Rattle.ffc_single.proofs.EuclidLemmas.{nonempty, euclid_step, euclid_end, multiple_has_roots}
use Rattle.ffc_single.proofs.UnitLemmas.{started, went_on, stopped_at_step}
use Rattle.ffc_single.proofs.euclid.common_divisor.Goals as goal

pub returns-then-is_zero-clause-none : goal.returns-then-is_zero-clause-none
returns-then-is_zero-clause-none g c = λ _.
    multiple_has_roots g.F.Field.ORDER c.args.g.now c.args.h.now c.in_ok-quotient.quotient c.in_ok-quotient.rest c.in_ok-quotient.ensures.division (c.is_zero.ensures.0 c.if-is_zero.true)

pub loop-first-init : goal.loop-first-init
loop-first-init g c =
    let p = g.F.Field.ORDER in
    let rest = c.in_ok-quotient.rest in
    let left : rest ≢ [] = λ none. cc (c.is_zero.ensures.1 none, c.if-is_zero.false) in
    let state = c.in_ok-first.ensures c.args.h.now (record {
      division = c.in_ok-quotient.ensures.division;
      lower = c.in_ok-quotient.ensures.lower;
      fits = c.in_ok-quotient.ensures.short;
      some = nonempty rest left;
    }) in
    let fits = c.in_ok-quotient.ensures.short in
    let within = state.within in
    let lower = state.lower in
    let taken = c.charge_quotient.ensures in
    record {
      state = state;
      units = started (length c.args.g.now) (length c.args.h.now) (length c.in_ok-first.second.value) c.args.meter.now c.charge_quotient.new.meter (omega arith)
          (record { takes = taken.takes; within = omega (arith, taken.within, fits) });
    }

pub returns-in_err-next-clause-units : goal.returns-in_err-next-clause-units
returns-in_err-next-clause-units g c =
    let state = c.loop-first.invariant.state in
    let left : c.loop-first.second.value ≢ [] = λ none. cc (c.is_zero-in-loop-first.ensures.1 none, c.loop-first-test.true) in
    stopped_at_step (length c.args.g.now) (length c.args.h.now) (length c.loop-first.second.value) (length c.loop-first.first.value) _ c.from_residual-in_err-next.result
    c.args.meter.now c.loop-first.meter c.left_over.new.meter (nonempty c.loop-first.second.value left) state.within
    (part_was_spent _ _ c.from_residual-in_err-next.result c.in_err-next.field-0.0 c.from_residual-in_err-next.ensures.1) c.loop-first.invariant.units c.in_err-next.ensures.units

pub loop-first-preserved : goal.loop-first-preserved
loop-first-preserved g c =
    let p = g.F.Field.ORDER in
    let state = c.loop-first.invariant.state in
    let first = c.loop-first.first in
    let second = c.loop-first.second in
    let left : second.value ≢ [] = λ none. cc (c.is_zero-in-loop-first.ensures.1 none, c.loop-first-test.true) in
    let step = c.in_ok-next.ensures.next in
    record {
      state = euclid_step p c.args.g.now c.args.h.now first second c.in_ok-next.next (omega (arith, g.met.F.Field.prime.least)) state step left;
      units = went_on (length c.args.g.now) (length c.args.h.now) (length second.value) (length c.in_ok-next.next.value) (length first.value) c.args.meter.now c.loop-first.meter c.left_over.new.meter
          step.lower state.within c.loop-first.invariant.units (taken_within (length first.value) Spent c.left_over.result c.loop-first.meter c.left_over.new.meter c.left_over.ensures.units);
    }

pub returns-clause-some : goal.returns-clause-some
returns-clause-some g c =
    euclid_end g.F.Field.ORDER c.args.g.now c.args.h.now c.loop-first.first c.loop-first.second c.loop-first.invariant.state (c.is_zero-in-loop-first.ensures.0 c.loop-first-test.false) c.coefs-coefficients.ensures.normal
