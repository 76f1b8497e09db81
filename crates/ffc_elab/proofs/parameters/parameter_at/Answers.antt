use Rattle.std.proofs.Common.{◌≡◌, ◌≤◌, ◌-◌, ◌^◌, length, sym, ap, ◌∙◌, Ok, Err, arith}
use Rattle.ffc_smt.specs.Trees.{Leaf}
use Rattle.ffc_words.specs.Words.{fault_of, word_at}
use Rattle.ffc_words.specs.Outcomes.{outcome}
use Rattle.ffc_elab.specs.Defining.{new_among}
use Rattle.ffc_elab.specs.Reading.{result_as}
use Rattle.ffc_elab.proofs.ParameterReading.{parameter_shapeless, parameter_unnamed, parameter_named, parameter_unsorted, parameter_read_here}
use Rattle.ffc_elab.proofs.parameters.parameter_at.Goals as goal

pub returns-in_default : goal.returns-in_default
returns-in_default c = λ tree rest at order.
    let words = c.args.words.now in
    let few : length words ≤ 2 ^ 64 - 1 = omega (arith, c.len-count.ensures, c.len-count.type_inv) in
    parameter_shapeless c.args.sorts.now c.args.names.now words c.args.at few tree rest at (λ e. c.in_default.not-LeftParen (c.kind.ensures ∙ e)) ∙ ap Err (sym c.fault.ensures)

pub returns-in-Err : goal.returns-in-Err
returns-in-Err c = λ tree rest at order.
    let words = c.args.words.now in
    let few : length words ≤ 2 ^ 64 - 1 = omega (arith, c.len-count.ensures, c.len-count.type_inv) in
    let opens = sym c.kind.ensures ∙ c.in-LeftParen.is in
    parameter_unnamed c.args.sorts.now c.args.names.now words c.args.at few c.saturating_add.result c.saturating_add.ensures opens tree rest (fault_of c.in-Err.fault) at
    (sym (ap (result_as (λ b. b.now)) c.in-Err.is) ∙ c.new_name.ensures)

pub returns-in-Err-closed_sort : goal.returns-in-Err-closed_sort
returns-in-Err-closed_sort c = λ tree rest at order.
    let words = c.args.words.now in
    let few : length words ≤ 2 ^ 64 - 1 = omega (arith, c.len-count.ensures, c.len-count.type_inv) in
    let opens = sym c.kind.ensures ∙ c.in-LeftParen.is in
    let name : Ok c.in-Ok.name.now ≡ outcome (new_among c.args.names.now (Leaf (word_at words c.saturating_add.result))) = sym (ap (result_as (λ b. b.now)) c.in-Ok.is) ∙ c.new_name.ensures in
    let n = c.saturating_add-in-Ok.result in
    let h = parameter_named c.args.sorts.now c.args.names.now words c.args.at few c.saturating_add.result c.saturating_add.ensures opens n c.saturating_add-in-Ok.ensures tree rest c.in-Ok.name.now at order name in
    parameter_unsorted c.args.sorts.now c.args.names.now words c.args.at few c.saturating_add.result c.saturating_add.ensures opens n c.saturating_add-in-Ok.ensures tree rest c.in-Ok.name.now (fault_of c.in-Err-closed_sort.fault) h
    (c.in-Err-closed_sort.ensures h.others h.close rest h.later h.order)

pub returns-in-Ok-closed_sort : goal.returns-in-Ok-closed_sort
returns-in-Ok-closed_sort c = λ tree rest at order.
    let words = c.args.words.now in
    let few : length words ≤ 2 ^ 64 - 1 = omega (arith, c.len-count.ensures, c.len-count.type_inv) in
    let opens = sym c.kind.ensures ∙ c.in-LeftParen.is in
    let name : Ok c.in-Ok.name.now ≡ outcome (new_among c.args.names.now (Leaf (word_at words c.saturating_add.result))) = sym (ap (result_as (λ b. b.now)) c.in-Ok.is) ∙ c.new_name.ensures in
    let n = c.saturating_add-in-Ok.result in
    let h = parameter_named c.args.sorts.now c.args.names.now words c.args.at few c.saturating_add.result c.saturating_add.ensures opens n c.saturating_add-in-Ok.ensures tree rest c.in-Ok.name.now at order name in
    parameter_read_here c.args.sorts.now c.args.names.now words c.args.at few c.saturating_add.result c.saturating_add.ensures opens n c.saturating_add-in-Ok.ensures tree rest c.in-Ok.name.now c.in-Ok-closed_sort.sort c.in-Ok-closed_sort.next h
    (c.in-Ok-closed_sort.ensures h.others h.close rest h.later h.order)
