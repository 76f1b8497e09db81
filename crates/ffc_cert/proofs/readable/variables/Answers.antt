use Rattle.std.proofs.lemmas.Result.{err_from_is_err_and}
use Rattle.ffc_cert.specs.Items.{variables_at}
use Rattle.ffc_cert.proofs.LoopLemmas.{variable_goes_on, variable_ends, variable_is_done}
use Rattle.ffc_cert.proofs.readable.variables.Goals as goal

pub returns-in_err-variable : goal.returns-in_err-variable
returns-in_err-variable c =
    let p = err_from_is_err_and c.from_residual-in_err-variable.result c.from_residual-in_err-variable.ensures.1 in
    rw (p.1, p.2) (variable_ends c.loop.least c.loop.read.items c.args.count c.loop.counter c.loop.items (variables_at 0 c.args.count c.args.items.now) c.in_err-variable.field-0.0 c.loop-test.true c.in_err-variable.ensures c.loop.invariant)

pub loop-preserved : goal.loop-preserved
loop-preserved c =
    rw (c.in_ok-push.ensures.items, c.from-least.ensures) (variable_goes_on c.loop.least c.loop.read.items c.args.count c.loop.counter c.loop.items (variables_at 0 c.args.count c.args.items.now) c.in_ok-variable.variable c.variable.new.self c.loop-test.true c.in_ok-variable.ensures c.loop.invariant)

pub returns : goal.returns
returns c =
    rw c.from_vec.ensures (variable_is_done c.loop.least c.loop.read.items c.args.count c.loop.counter c.loop.items (variables_at 0 c.args.count c.args.items.now) c.loop-test.false c.loop.invariant)
