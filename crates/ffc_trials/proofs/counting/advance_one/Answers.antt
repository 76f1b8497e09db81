use Rattle.std.proofs.Common.{◌≡◌, ◌+◌, ◌<◌, ◌==◌, cond, length, sym, ap, ap₂, ◌∙◌, subst}
use Rattle.ffc_term.specs.Measuring.{value_count}
use Rattle.ffc_rules.specs.Assignments.{number_of_constant, value_of_number}
use Rattle.ffc_rules.proofs.AssignmentLemmas.{node_at-is}
use Rattle.std.proofs.Common.{slice_set}
use Rattle.std.proofs.lemmas.Bool.{eq-eqb, ne_eqb}
use Rattle.ffc_trials.specs.Counting.{number_given}
use Rattle.ffc_trials.proofs.CountingLemmas.{constant_inside, given_number, with_value-is}
use Rattle.ffc_trials.proofs.counting.advance_one.Goals as goal
use Rattle.ffc_trials.proofs.counting.advance_one.Goals.{then-carry, else-carry}

pub give-requires-clause-inside : goal.give-requires-clause-inside
give-requires-clause-inside c =
    let ns = c.args.table.now in
    subst (λ n. number_of_constant n < length c.args.values.now) (node_at-is ns c.args.constant c.node-node.result.now c.node-node.ensures.at)
    (constant_inside ns c.node-node.ensures.valid.well_formed c.args.values.now c.args.constant c.requires.constant c.requires.long)

pub returns-clause-carry : goal.returns-clause-carry
returns-clause-carry c =
    let ns = c.args.table.now in
    let n = c.node-node.result.now in
    let at = c.node-node.ensures.at in
    ap₂ (λ a b. a + 1 == b) (given_number ns c.args.values.now c.args.constant c.number_at-next.result n at c.number_at-next.ensures.number)
    (c.value_count.ensures ∙ ap value_count (sym (node_at-is ns c.args.constant n at)))

pub returns-clause-set : goal.returns-clause-set
returns-clause-set c =
    let ns = c.args.table.now in
    let n = c.node-node.result.now in
    let at = c.node-node.ensures.at in
    let values = c.args.values.now in
    let id = c.args.constant in
    let given = given_number ns values id c.number_at-next.result n at c.number_at-next.ensures.number in
    let number : c.if-carry.give ≡ cond (c.number_at-next.result + 1 == c.value_count.result) 0 (number_given ns values id + 1) =
    elim c.if-carry.branch [
      | then-carry w ↦ w.give-is ∙ sym (ap (λ b. cond b 0 (number_given ns values id + 1)) (eq-eqb _ _ w.if-carry.true))
      | else-carry w ↦ w.give-is ∙ ap (λ k. k + 1) given ∙ sym (ap (λ b. cond b 0 (number_given ns values id + 1)) (ne_eqb _ _ w.if-carry.false))
    ] in
    c.give.ensures ∙ ap (λ k. slice_set values (number_of_constant n) (value_of_number n k)) number ∙ with_value-is ns values id _ n at
