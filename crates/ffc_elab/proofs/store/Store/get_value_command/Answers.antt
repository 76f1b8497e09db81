use Rattle.ffc_elab.specs.declared.asked_lists.Listed.TheVariants as listed
use Rattle.ffc_elab.specs.Changes.{with_nodes, with_state}
use Rattle.ffc_elab.proofs.AskingLemmas.{grown_kept, list_refused, value_orders, value_taken}
use Rattle.ffc_elab.proofs.store.Store.get_value_command.Goals as goal

pub returns-in-Err : goal.returns-in-Err
returns-in-Err c = λ k tree kept known whole form.
    list_refused k tree c.args.words.now listed.Values c.args.self.now c.make_listed.new.self c.in-Err.stop (c.in-Err.ensures.made k tree kept known form) c.in-Err.ensures.others whole kept

pub returns-in-Ok : goal.returns-in-Ok
returns-in-Ok c = λ k tree kept known whole form.
    let words = c.args.words.now in
    let x = c.args.self.now in
    let y = c.make_listed.new.self in
    let same = c.in-Ok.ensures.others in
    let made = c.in-Ok.ensures.made k tree kept known form in
    let grown = with_nodes y.table k.state in
    value_taken k tree words x y known kept same whole c.in-Ok.asked made c.name_orders.new.self
    (c.name_orders.ensures grown (value_orders k tree words x y known kept same whole c.in-Ok.asked made)
    (c.forget_assumptions.ensures (with_state k grown) (grown_kept k tree listed.Values x y known kept same c.in-Ok.asked.items made)))
