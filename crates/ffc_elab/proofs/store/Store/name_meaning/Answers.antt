use Rattle.ffc_smt.specs.Scopes.{with_name}
use Rattle.ffc_elab.specs.Changes.{with_state}
use Rattle.ffc_elab.proofs.store.Store.name_meaning.Goals as goal

pub returns-clause-ok : goal.returns-clause-ok
returns-clause-ok c = λ k m global plain meaning orders h.
    let s = with_name c.args.name.now m k.state in
    c.name_orders.ensures s orders (c.forget_assumptions.ensures (with_state k s) (c.in_ok-push_name.ensures.ok k m global plain meaning h))
