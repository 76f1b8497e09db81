use Rattle.std.proofs.Common.{◌+◌, arith}
use Rattle.ffc_mono.proofs.PowerLemmas.{degree-take_more, degree-take_le}
use Rattle.ffc_mono.proofs.powers.degree_of.Goals as goal

pub overflow_add-total : goal.overflow_add-total
overflow_add-total c =
    omega (arith, c.loop-exponent.invariant, degree-take_more c.args.powers.now c.loop-exponent.exponent-index (omega (arith, c.loop-exponent-test.true)), degree-take_le c.args.powers.now (c.loop-exponent.exponent-index + 1), c.requires)

pub loop-exponent-preserved : goal.loop-exponent-preserved
loop-exponent-preserved c =
    omega (arith, c.loop-exponent.invariant, degree-take_more c.args.powers.now c.loop-exponent.exponent-index (omega (arith, c.loop-exponent-test.true)))
