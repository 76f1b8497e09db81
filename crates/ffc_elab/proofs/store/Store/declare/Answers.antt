use Rattle.std.proofs.Common.{sym, ap, ◌∙◌, length, Err}
use Rattle.ffc_elab.proofs.DeclareLemmas.{declare_full, declare_orders, declare_taken}
use Rattle.ffc_elab.proofs.store.Store.declare.Goals as goal

pub returns-in-Ok : goal.returns-in-Ok
returns-in-Ok c = λ k tree h kept known whole form e.
    let parts = c.in-Ok.ensures.ok k known kept in
    let name = c.args.name.now in
    let sort = c.args.sort in
    let x = c.args.self.now in
    let words = c.args.words.now in
    declare_taken k name sort x known kept tree words h whole form e c.name_constant.new.self parts.0 (parts.1 (declare_orders k name sort x known kept tree words h whole form e parts.0))

pub returns-in-Err-Nodes : goal.returns-in-Err-Nodes
returns-in-Err-Nodes c = λ k tree h kept known whole form e.
    let full = ap length (sym kept.nodes) ∙ c.in-Err-Nodes.ensures.full (ap Err c.in-Err-Nodes.field-0-is) in
    (declare_full k c.args.name.now c.args.sort c.args.self.now known kept tree c.args.words.now h whole form e full ∙ ap Err (sym c.fault.ensures), c.in-Err-Nodes.ensures.err k kept)
