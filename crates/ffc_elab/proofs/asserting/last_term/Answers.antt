use Rattle.std.proofs.Common.{sym, ap, ◌∙◌, Err}
use Rattle.ffc_smt.specs.Faults.{last}
use Rattle.ffc_smt.specs.CommandReading.{limits, term_of_sort}
use Rattle.ffc_words.specs.Words.{fault_of}
use Rattle.ffc_elab.specs.Reading.{result_as}
use Rattle.ffc_elab.proofs.ItemLemmas.{missing_item}
use Rattle.ffc_elab.proofs.TermItemLemmas.{last_stop, last_surplus, last_read}
use Rattle.ffc_elab.proofs.asserting.last_term.Goals as goal

pub returns-in-RightParen : goal.returns-in-RightParen
returns-in-RightParen c = λ nodes s parameters items closing rest same scope at order.
    missing_item (λ p. p.0) (term_of_sort limits s parameters c.args.wanted) last c.args.words.now c.args.at items closing rest at (sym c.kind.ensures ∙ c.in-RightParen.is) ∙ ap Err (sym c.fault.ensures)

pub returns-in-Err : goal.returns-in-Err
returns-in-Err c = λ nodes s parameters items closing rest same scope at order.
    last_stop nodes c.args.symbols.now c.args.locals s parameters c.args.wanted c.args.words.now c.args.at closing rest items c.in-Err.stop at order (λ e. c.in_default.not-RightParen (c.kind.ensures ∙ e))
    (λ t more tree. c.in-Err.ensures nodes s parameters t more same scope tree)

pub returns-in-Err-end_at : goal.returns-in-Err-end_at
returns-in-Err-end_at c = λ nodes s parameters items closing rest same scope at order.
    last_surplus nodes c.args.symbols.now c.args.locals s parameters c.args.wanted c.args.words.now c.args.at closing rest items c.in-Ok.term (fault_of c.in-Err-end_at.fault) at order (λ e. c.in_default.not-RightParen (c.kind.ensures ∙ e))
    (λ t more tree. c.in-Ok.ensures nodes s parameters t more same scope tree) (sym c.end_at.ensures ∙ ap (result_as (λ u. u)) c.in-Err-end_at.is)

pub returns-in-Ok-end_at : goal.returns-in-Ok-end_at
returns-in-Ok-end_at c = λ nodes s parameters items closing rest same scope at order.
    last_read nodes c.args.symbols.now c.args.locals s parameters c.args.wanted c.args.words.now c.args.at closing rest items c.in-Ok.term at order (λ e. c.in_default.not-RightParen (c.kind.ensures ∙ e))
    (λ t more tree. c.in-Ok.ensures nodes s parameters t more same scope tree) (sym c.end_at.ensures ∙ ap (result_as (λ u. u)) c.in-Ok-end_at.is)
