use Rattle.std.proofs.Common.{◌≡◌, ◌-◌, ◌/◌, ◌%◌, ◌^◌, ◌==◌, ap, arith}
use Rattle.std.proofs.lemmas.Result.{err_from_is_err_and}
use Rattle.ffc_uni.proofs.ReachedLemmas.{reached_first, reached_next, reached_stop, reached_whole}
use Rattle.ffc_uni.proofs.chain.digit_steps.Goals as goal

pub loop-place-init : goal.loop-place-init
loop-place-init g c =
    reached_first g.F.Field.ORDER c.ORDER.result c.args.f.now c.new-steps.result c.args.meter.now
    c.ORDER.ensures g.met.F.Field.prime.least g.met.F.Field.fits c.new-steps.ensures

pub loop-place-preserved : goal.loop-place-preserved
loop-place-preserved g c = (
  omega (arith, c.loop-place.invariant.0),
  reached_next g.F.Field.ORDER c.args.f.now c.loop-place.place (c.loop-place.place - 1) c.loop-place.steps c.append_digit.new.steps
      (c.ORDER-in-loop-place.result / 2 ^ (c.loop-place.place - 1) % 2 == 1) c.args.meter.now c.loop-place.meter c.append_digit.new.meter
      c.loop-place.invariant.1 (omega (arith, c.loop-place-test.true))
      (ap (λ n. n / 2 ^ (c.loop-place.place - 1) % 2 == 1) c.ORDER-in-loop-place.ensures)
      c.in_ok-append_digit.ensures.steps c.in_ok-append_digit.ensures.counted.0 c.in_ok-append_digit.ensures.counted.1,
)

pub returns-in_err-append_digit-clause-counted : goal.returns-in_err-append_digit-clause-counted
returns-in_err-append_digit-clause-counted g c =
    let stop = err_from_is_err_and c.from_residual-in_err-append_digit.result c.from_residual-in_err-append_digit.ensures.1
    in rw (stop.1, stop.2)
    (reached_stop g.F.Field.ORDER c.args.f.now c.loop-place.place (c.loop-place.place - 1) c.loop-place.steps
    (c.ORDER-in-loop-place.result / 2 ^ (c.loop-place.place - 1) % 2 == 1) c.args.meter.now c.loop-place.meter c.append_digit.new.meter _
    c.loop-place.invariant.1 (omega (arith, c.loop-place-test.true))
    (ap (λ n. n / 2 ^ (c.loop-place.place - 1) % 2 == 1) c.ORDER-in-loop-place.ensures)
    c.in_err-append_digit.ensures.counted)

pub returns-clause-counted : goal.returns-clause-counted
returns-clause-counted g c =
    let none : c.loop-place.place ≡ 0 = omega (arith, c.loop-place-test.false)
    in (reached_whole g.F.Field.ORDER c.args.f.now c.loop-place.steps c.args.meter.now c.loop-place.meter
    g.met.F.Field.prime.least g.met.F.Field.fits (rw none at c.loop-place.invariant.1)).counted
