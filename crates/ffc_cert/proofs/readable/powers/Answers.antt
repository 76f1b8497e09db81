use Rattle.std.proofs.lemmas.Result.{err_from_is_err_and}
use Rattle.ffc_cert.specs.Items.{powers_at}
use Rattle.ffc_cert.proofs.LoopLemmas.{power_goes_on, power_ends, power_is_done}
use Rattle.ffc_cert.proofs.readable.powers.Goals as goal

pub returns-in_err-power : goal.returns-in_err-power
returns-in_err-power c =
    let p = err_from_is_err_and c.from_residual-in_err-power.result c.from_residual-in_err-power.ensures.1 in
    rw (p.1, p.2) (power_ends c.loop.least c.loop.read.items c.args.count c.loop.counter c.loop.items (powers_at 0 c.args.count c.args.items.now) c.in_err-power.field-0.0 c.loop-test.true c.in_err-power.ensures c.loop.invariant)

pub loop-preserved : goal.loop-preserved
loop-preserved c =
    rw (c.in_ok-push.ensures.items, c.from-least.ensures) (power_goes_on c.loop.least c.loop.read.items c.args.count c.loop.counter c.loop.items (powers_at 0 c.args.count c.args.items.now) c.in_ok-power.power c.power.new.self c.loop-test.true c.in_ok-power.ensures c.loop.invariant)

pub returns : goal.returns
returns c =
    rw c.from_vec.ensures (power_is_done c.loop.least c.loop.read.items c.args.count c.loop.counter c.loop.items (powers_at 0 c.args.count c.args.items.now) c.loop-test.false c.loop.invariant)
