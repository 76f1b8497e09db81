use Rattle.std.proofs.Common.{◌≡◌, false, length, ap, ◌∙◌, arith}
use Rattle.std.proofs.lemmas.List.FromFn.{fill_by_all}
use Rattle.ffc_term.specs.declared.value.Value.TheVariants as value
use Rattle.ffc_term.specs.Tables.{constant_count}
use Rattle.ffc_rules.specs.Assignments.{listed_value, listed_assignment}
use Rattle.ffc_answer.proofs.ListLemmas.{all_written}
use Rattle.ffc_answer.proofs.constants.assignment_of.Goals as goal

pub returns : goal.returns
unfolding listed_assignment
returns c =
    let items = c.in_ok-values.values.items in
    let new = c.give_listed.new.values in
    let kept : length new ≡ length items = c.give_listed.auto.values ∙ ap length c.as_mut_slice.ensures.value in
    let long : length new ≡ constant_count c.args.table.now = omega (arith, kept, c.in_ok-values.ensures.len, c.in_ok-values.values.ok.0, c.constant_count-count.ensures) in
    let old : length c.as_mut_slice.result.now ≡ constant_count c.args.table.now = omega (arith, c.give_listed.auto.values) in
    c.new.ensures
    ∙ all_written new items c.in_ok-values.values.len kept (omega (arith, c.in_ok-values.values.ok.0))
    ∙ fill_by_all (λ k. listed_value c.args.table.now c.args.pairs.now k) new (constant_count c.args.table.now) (value.Bool false) long (λ k inside. c.give_listed.ensures k (omega (arith, old)))
