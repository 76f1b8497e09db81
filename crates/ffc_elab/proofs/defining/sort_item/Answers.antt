use Rattle.std.proofs.Common.{sym, ◌∙◌}
use Rattle.ffc_elab.proofs.DefineReading.{item_missing, item_sorted}
use Rattle.ffc_elab.proofs.defining.sort_item.Goals as goal

pub returns-in-RightParen : goal.returns-in-RightParen
returns-in-RightParen c = λ items closing rest at.
    item_missing c.args.sorts.now c.args.words.now c.args.at closing rest items c.fault.result at (sym c.kind.ensures ∙ c.in-RightParen.is) c.fault.ensures

pub returns-in_default : goal.returns-in_default
returns-in_default c = λ items closing rest at.
    item_sorted c.args.sorts.now c.args.words.now c.args.at closing rest items c.sort_at.result at (λ e. c.in_default.not-RightParen (c.kind.ensures ∙ e)) (λ t more h. c.sort_at.ensures t more h)
