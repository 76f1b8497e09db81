use Rattle.std.proofs.Common.{[], sym, ◌∙◌}
use Rattle.ffc_elab.specs.Reading.{up_to}
use Rattle.ffc_elab.proofs.PlainLemmas.{default_outcome, counted_outcome}
use Rattle.ffc_elab.proofs.plain.levels.Goals as goal

pub returns-in-RightParen-clause-reads : goal.returns-in-RightParen-clause-reads
returns-in-RightParen-clause-reads c = λ items closing at order.
    c.one_level.ensures.reads ∙ sym (default_outcome (up_to c.args.most) c.args.words.now 2 items closing [] at (sym c.kind.ensures ∙ c.in-RightParen.is))

pub returns-in_default-clause-reads : goal.returns-in_default-clause-reads
returns-in_default-clause-reads c = λ items closing at order.
    c.some_levels.ensures.reads ∙ sym (counted_outcome (up_to c.args.most) c.args.words.now 2 items closing [] at order (λ e. c.in_default.not-RightParen (c.kind.ensures ∙ e)))
