use Rattle.std.proofs.Common.{[], sym, ap, ◌∙◌, Err}
use Rattle.ffc_smt.specs.Faults.{last}
use Rattle.ffc_smt.specs.TermReading.{sort_read}
use Rattle.ffc_words.specs.Words.{fault_of}
use Rattle.ffc_terms.specs.Answers.{answered}
use Rattle.ffc_elab.proofs.ItemLemmas.{missing_item, sort_wrong, sort_right}
use Rattle.ffc_elab.proofs.declaring.last_sort.Goals as goal

pub returns-in-RightParen : goal.returns-in-RightParen
returns-in-RightParen c = λ items closing at order.
    ap Err c.fault.ensures ∙ sym (missing_item (λ p. p.0) (sort_read c.args.sorts.now) last c.args.words.now c.args.at items closing [] at (sym c.kind.ensures ∙ c.in-RightParen.is))

pub returns-in-Err : goal.returns-in-Err
returns-in-Err c = λ items closing at order.
    sym (sort_wrong (λ p. p.0) c.args.sorts.now c.args.words.now c.args.at closing items (fault_of c.in-Err.fault) at order (λ e. c.in_default.not-RightParen (c.kind.ensures ∙ e))
    (λ t more h. sym (ap answered c.in-Err.is) ∙ c.sort_at.ensures t more h))

pub returns-in-Ok : goal.returns-in-Ok
returns-in-Ok c = λ items closing at order.
    c.ended_sort.ensures
    ∙ sym (sort_right (λ p. p.0) c.args.sorts.now c.args.words.now c.args.at closing items c.in-Ok.sort c.in-Ok.next at order (λ e. c.in_default.not-RightParen (c.kind.ensures ∙ e))
    (λ t more h. sym (ap answered c.in-Ok.is) ∙ c.sort_at.ensures t more h))
