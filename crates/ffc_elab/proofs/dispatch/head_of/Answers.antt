use Rattle.std.proofs.Common.{sym, ap, ◌∙◌, Err}
use Rattle.ffc_elab.proofs.HeadLemmas.{symbol_head, quoted_head, other_head}
use Rattle.ffc_elab.proofs.dispatch.head_of.Goals as goal

pub returns-in-Symbol : goal.returns-in-Symbol
returns-in-Symbol c = λ s tree logic form. symbol_head s c.args.logic logic c.args.words.now tree c.timely.result form (sym c.kind.ensures ∙ c.in-Symbol.is) c.timely.ensures

pub returns-in-Quoted : goal.returns-in-Quoted
returns-in-Quoted c = λ s tree logic form. quoted_head s c.args.words.now tree form (sym c.kind.ensures ∙ c.in-Quoted.is) ∙ ap Err (sym c.fault.ensures)

pub returns-in_default : goal.returns-in_default
returns-in_default c = λ s tree logic form.
    other_head s c.args.words.now tree form (λ e. c.in_default.not-Symbol (c.kind.ensures ∙ e)) (λ e. c.in_default.not-Quoted (c.kind.ensures ∙ e)) ∙ ap Err (sym c.fault-in_default.ensures)
