use Rattle.ffc_parts.specs.declared.heads.Head.TheVariants as head
use Rattle.ffc_elab.proofs.AssertCommand.{assertion_sound, assertion_stopped}
use Rattle.ffc_elab.proofs.store.Store.assert_command.Goals as goal

pub assert-requires : goal.assert-requires
assert-requires c =
    let r = c.requires in
    let it = c.in-Ok.ensures r.known.state r.form.items r.form.closing r.kept.scope r.form.at r.form.order in
    (it.term, assertion_sound r.known c.args.self.now r.tree c.args.words.now head.Assert r.form c.in-Ok.assertion r.sound r.kept it)

pub returns-in-Err : goal.returns-in-Err
returns-in-Err c = λ k tree kept known whole form.
    assertion_stopped k c.args.self.now tree c.args.words.now head.Assert form c.in-Err.stop known kept (c.in-Err.ensures k.state form.items form.closing kept.scope form.at form.order)
