use Rattle.std.proofs.Common.{◌∙◌, sym, ap, Err}
use Rattle.ffc_parts.specs.declared.heads.Head.TheVariants as head
use Rattle.ffc_elab.proofs.DefineCommand.{macro_refused, macro_taken}
use Rattle.ffc_elab.proofs.store.Store.define_macro.Goals as goal

pub returns-then-body-gt-MOST_WEIGHT : goal.returns-then-body-gt-MOST_WEIGHT
returns-then-body-gt-MOST_WEIGHT c = λ k tree kept known whole form it some.
    (macro_refused k c.args.self.now tree c.args.words.now known kept head.DefineFun form c.args.definition it some whole c.if-body-gt-MOST_WEIGHT.true ∙ ap Err (sym c.fault.ensures), kept)

pub returns-in-Ok : goal.returns-in-Ok
returns-in-Ok c = λ k tree kept known whole form it some.
    macro_taken k c.args.self.now tree c.args.words.now known kept head.DefineFun form c.args.definition it some whole c.if-body-gt-MOST_WEIGHT.false c.name_meaning.new.self c.in-Ok.ensures.ok
