use Rattle.std.proofs.Common.{[], sym, ◌∙◌}
use Rattle.ffc_elab.proofs.PlainLemmas.{info_outcome}
use Rattle.ffc_elab.proofs.plain.set_info.Goals as goal

pub returns-clause-reads : goal.returns-clause-reads
returns-clause-reads c = λ items closing at order.
    c.information.ensures.reads ∙ sym (info_outcome c.args.words.now 2 c.after_item-end.result items closing [] (λ ts h. c.after_item-end.ensures ts closing [] h) at order)
