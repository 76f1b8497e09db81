use Rattle.ffc_parts.specs.declared.heads.Head.TheVariants as head
use Rattle.ffc_elab.proofs.DefineCommand.{term_sound, definition_stopped, counted_none, counted_some}
use Rattle.ffc_elab.proofs.store.Store.define_fun_command.Goals as goal

pub define_term-requires : goal.define_term-requires
define_term-requires c =
    let r = c.requires in
    let d = c.in-Ok.definition in
    let it = c.in-Ok.ensures r.known.state r.form.items r.form.closing r.kept.scope r.form.at r.form.order in
    (it.term, term_sound r.known c.args.self.now r.tree c.args.words.now r.sound r.kept head.DefineFun r.form d it (counted_none d.parameters.items _ d.parameters.ok.0 c.if-is_empty.ensures))

pub returns-in-Err : goal.returns-in-Err
returns-in-Err c = λ k tree kept known whole form.
    definition_stopped k c.args.self.now tree c.args.words.now head.DefineFun form c.in-Err.stop known kept (c.in-Err.ensures k.state form.items form.closing kept.scope form.at form.order)

pub returns-then-is_empty : goal.returns-then-is_empty
returns-then-is_empty c = λ k tree kept known whole form.
    let d = c.in-Ok.definition in
    c.define_term.ensures k tree kept known whole form (c.in-Ok.ensures k.state form.items form.closing kept.scope form.at form.order) (counted_none d.parameters.items _ d.parameters.ok.0 c.if-is_empty.ensures)

pub returns-else-is_empty : goal.returns-else-is_empty
returns-else-is_empty c = λ k tree kept known whole form.
    let d = c.in-Ok.definition in
    c.define_macro.ensures k tree kept known whole form (c.in-Ok.ensures k.state form.items form.closing kept.scope form.at form.order) (counted_some d.parameters.items _ d.parameters.ok.0 c.if-is_empty.ensures)
