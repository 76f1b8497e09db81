use Rattle.ffc_smt.specs.Scopes.{with_sort}
use Rattle.ffc_elab.specs.Changes.{with_state}
use Rattle.ffc_elab.proofs.store.Store.name_sort.Goals as goal

pub returns-clause-ok : goal.returns-clause-ok
returns-clause-ok c = λ k known orders h.
    let s = with_sort c.args.name.now c.args.sort k.state in
    c.name_orders.ensures s orders (c.forget_assumptions.ensures (with_state k s) (c.in_ok-push_sort.ensures.ok k known h))
