use Rattle.ffc_parts.specs.declared.heads.Head.TheVariants as head
use Rattle.ffc_elab.proofs.DefineCommand.{term_sound, term_stopped, term_taken}
use Rattle.ffc_elab.proofs.store.Store.define_term.Goals as goal

pub returns-in-Err : goal.returns-in-Err
returns-in-Err c = λ k tree kept known whole form it none.
    let x = c.args.self.now in
    let d = c.args.definition.now in
    term_stopped k x tree c.args.words.now known kept head.DefineFun form d it none whole c.term_node.new.self c.in-Err.stop c.in-Err.ensures.others
    (c.in-Err.ensures.fits it.term (term_sound k x tree c.args.words.now known kept head.DefineFun form d it none))

pub returns-in-Ok-name_meaning : goal.returns-in-Ok-name_meaning
returns-in-Ok-name_meaning c = λ k tree kept known whole form it none.
    let x = c.args.self.now in
    let d = c.args.definition.now in
    term_taken k x tree c.args.words.now known kept head.DefineFun form d it none whole c.term_node.new.self c.in-Ok.node c.in-Ok.ensures.others
    (c.in-Ok.ensures.fits it.term (term_sound k x tree c.args.words.now known kept head.DefineFun form d it none)) c.name_meaning.new.self c.in-Ok-name_meaning.ensures.ok
