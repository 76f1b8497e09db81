use Rattle.std.proofs.Common.{◌+◌, arith}
use Rattle.ffc_mono.proofs.PowerLemmas.{degree-take_more, degree-take_le}
use Rattle.ffc_mono.proofs.powers.degree_within.Goals as goal

pub returns-then-exponent-limit : goal.returns-then-exponent-limit
returns-then-exponent-limit c = λ h.
    omega (arith, c.loop-exponent.invariant.0, c.loop-exponent.invariant.1, c.if-exponent-limit.true, degree-take_more c.args.powers.now c.loop-exponent.exponent-index (omega (arith, c.loop-exponent-test.true)), degree-take_le c.args.powers.now (c.loop-exponent.exponent-index + 1), h)

pub loop-exponent-preserved : goal.loop-exponent-preserved
loop-exponent-preserved c = (
  omega (arith, c.loop-exponent.invariant.0, degree-take_more c.args.powers.now c.loop-exponent.exponent-index (omega (arith, c.loop-exponent-test.true))),
  omega (arith, c.loop-exponent.invariant.1, c.if-exponent-limit.false),
)
