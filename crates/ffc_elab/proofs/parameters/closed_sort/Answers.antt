use Rattle.std.proofs.Common.{◌≤◌, ◌-◌, ◌^◌, length, sym, ap, ◌∙◌, Err, arith}
use Rattle.ffc_words.specs.Words.{fault_of}
use Rattle.ffc_terms.specs.Answers.{answered}
use Rattle.ffc_elab.specs.Reading.{result_as}
use Rattle.ffc_elab.proofs.ParameterReading.{sort_missing, closed_wrong, closed_surplus, closed_read}
use Rattle.ffc_elab.proofs.parameters.closed_sort.Goals as goal

pub returns-in-RightParen : goal.returns-in-RightParen
returns-in-RightParen c = λ items closing rest at order.
    sort_missing c.args.sorts.now c.args.words.now c.args.at closing rest items at (sym c.kind.ensures ∙ c.in-RightParen.is) ∙ ap Err (sym c.fault.ensures)

pub returns-in-Err : goal.returns-in-Err
returns-in-Err c = λ items closing rest at order.
    closed_wrong c.args.sorts.now c.args.words.now c.args.at closing rest items (fault_of c.in-Err.fault) at order (λ e. c.in_default.not-RightParen (c.kind.ensures ∙ e))
    (λ t more h. sym (ap answered c.in-Err.is) ∙ c.sort_at.ensures t more h)

pub returns-in-Err-end_at : goal.returns-in-Err-end_at
returns-in-Err-end_at c = λ items closing rest at order.
    closed_surplus c.args.sorts.now c.args.words.now c.args.at closing rest c.in-Ok.sort c.in-Ok.next items (fault_of c.in-Err-end_at.fault) at order (λ e. c.in_default.not-RightParen (c.kind.ensures ∙ e))
    (λ t more h. sym (ap answered c.in-Ok.is) ∙ c.sort_at.ensures t more h) (sym c.end_at.ensures ∙ ap (result_as (λ u. u)) c.in-Err-end_at.is)

pub returns-in-Ok-end_at : goal.returns-in-Ok-end_at
returns-in-Ok-end_at c = λ items closing rest at order.
    let words = c.args.words.now in
    let few : length words ≤ 2 ^ 64 - 1 = omega (arith, c.len-count.ensures, c.len-count.type_inv) in
    closed_read c.args.sorts.now words c.args.at closing rest c.in-Ok.sort c.in-Ok.next items c.saturating_add.result at order (λ e. c.in_default.not-RightParen (c.kind.ensures ∙ e))
    (λ t more h. sym (ap answered c.in-Ok.is) ∙ c.sort_at.ensures t more h) (sym c.end_at.ensures ∙ ap (result_as (λ u. u)) c.in-Ok-end_at.is) few c.saturating_add.ensures
