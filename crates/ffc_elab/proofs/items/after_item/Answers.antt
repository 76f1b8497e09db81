use Rattle.std.proofs.Common.{◌∙◌, sym}
use Rattle.ffc_elab.proofs.OutcomeLemmas.{none_there, one_there}
use Rattle.ffc_elab.proofs.items.after_item.Goals as goal

pub returns-in-RightParen : goal.returns-in-RightParen
returns-in-RightParen c = λ items closing rest h. none_there c.args.words.now c.args.at items closing rest h (sym c.kind.ensures ∙ c.in-RightParen.is)

pub returns-in_default : goal.returns-in_default
returns-in_default c = λ items closing rest h. one_there c.args.words.now c.args.at c.skip.result items closing rest h (λ e. c.in_default.not-RightParen (c.kind.ensures ∙ e)) (c.skip.ensures)
