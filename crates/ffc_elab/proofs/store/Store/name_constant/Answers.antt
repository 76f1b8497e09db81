use Rattle.ffc_elab.specs.Changes.{declared_in, with_state}
use Rattle.ffc_elab.proofs.store.Store.name_constant.Goals as goal

pub returns-clause-ok : goal.returns-clause-ok
returns-clause-ok c = λ k known h.
    let s = declared_in c.args.name.now c.args.sort k.state in
    let pushed = c.in-Ok.ensures.ok k known h in
    (pushed.1, λ orders. c.name_orders.ensures s orders (c.forget_assumptions.ensures (with_state k s) pushed.0))
