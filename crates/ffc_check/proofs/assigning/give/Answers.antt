use Rattle.std.proofs.Common.{◌≤◌, length, sym, ap, ◌∙◌, subst}
use Rattle.ffc_rules.specs.Assignments.{number_of_constant}
use Rattle.ffc_check.proofs.AssignLemmas.{with_value-past}
use Rattle.ffc_check.proofs.assigning.give.Goals as goal
use Rattle.ffc_check.proofs.assigning.give.Goals.{in-BoolConst, in-FieldConst}

pub returns-else-k-values : goal.returns-else-k-values
returns-else-k-values c =
    with_value-past c.args.table.now c.args.values.now c.args.constant c.args.number c.node.result.now c.node.ensures.at
    (subst (λ k. length c.args.values.now ≤ k)
    (elim c.match-node.branch [
      | in-BoolConst w ↦ ap (λ p. p.0) w.k-is ∙ ap number_of_constant (sym w.in-BoolConst.is)
      | in-FieldConst w ↦ ap (λ p. p.0) w.k-is ∙ ap number_of_constant (sym w.in-FieldConst.is)
    ]) c.if-k-values.false)
