use Rattle.std.proofs.Common.{length, sym, ap, ◌∙◌}
use Rattle.std.proofs.lemmas.List.Elements.{All-from_recursion}
use Rattle.ffc_term.specs.Nodes.{IsConstantAt}
use Rattle.ffc_rules.specs.Assignments.{are_true}
use Rattle.ffc_check.specs.Judged.{judged_check}
use Rattle.ffc_check.proofs.AnswerLemmas.{written_back}
use Rattle.ffc_check.proofs.CaseLemmas.{within, constants_each, digits_true, no_model_yet, no_model_next, model_found}
use Rattle.ffc_check.proofs.cases.search.Goals as goal

pub loop-number-init : goal.loop-number-init
loop-number-init c = record { values = c.requires.values; out = c.requires.long; none = no_model_yet c.args.check.now.table.now c.args.check.now.in_force.now }

pub give_digits-requires : goal.give_digits-requires
give_digits-requires c =
    let check = c.args.check.now in
    All-from_recursion (IsConstantAt check.table.now) c.args.constants.now
    (constants_each check.table.now check.in_force.now c.args.constants.now c.requires.valid.table (within (judged_check check) c.requires.valid) c.requires.constants)

pub returns-then-is_model : goal.returns-then-is_model
returns-then-is_model c =
    let check = c.args.check.now in
    let ns = check.table.now in
    let ids = check.in_force.now in
    let back = written_back c.give_digits.new.values c.loop-number.values.items c.loop-number.values.len (c.give_digits.auto.values ∙ ap length c.as_mut_slice.ensures.value) c.loop-number.values.ok.0 in
    let kept = c.new-assignment.ensures ∙ back ∙ c.give_digits.ensures in
    let long = ap length c.as_mut_slice.ensures.value ∙ c.loop-number.invariant.values in
    let truth = c.is_model.ensures ∙ ap (are_true ns ids) kept
    ∙ digits_true ns ids c.args.constants.now c.requires.valid.table (within (judged_check check) c.requires.valid) c.requires.constants c.as_mut_slice.result.now c.loop-number.number long in
    sym (model_found ns ids c.loop-number.number c.args.count c.loop-number-test.true (sym truth ∙ c.if-is_model.true))

pub loop-number-preserved : goal.loop-number-preserved
loop-number-preserved c =
    let check = c.args.check.now in
    let ns = check.table.now in
    let ids = check.in_force.now in
    let back = written_back c.give_digits.new.values c.loop-number.values.items c.loop-number.values.len (c.give_digits.auto.values ∙ ap length c.as_mut_slice.ensures.value) c.loop-number.values.ok.0 in
    let kept = c.new-assignment.ensures ∙ back ∙ c.give_digits.ensures in
    let long = ap length c.as_mut_slice.ensures.value ∙ c.loop-number.invariant.values in
    let truth = c.is_model.ensures ∙ ap (are_true ns ids) kept
    ∙ digits_true ns ids c.args.constants.now c.requires.valid.table (within (judged_check check) c.requires.valid) c.requires.constants c.as_mut_slice.result.now c.loop-number.number long in
    record {
      values = ap length (c.into_vec-values.ensures ∙ c.new-assignment.ensures ∙ back) ∙ c.give_digits.auto.values ∙ long;
      out = c.is_model.auto.out ∙ c.loop-number.invariant.out;
      none = no_model_next ns ids c.loop-number.number c.loop-number.invariant.none (sym truth ∙ c.if-is_model.false);
    }
