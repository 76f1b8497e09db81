use Rattle.std.proofs.Common.{ap, ◌∙◌, sym, subst}
use Rattle.ffc_field.specs.Orders.{IsOrder}
use Rattle.ffc_term.specs.Nodes.{order_at, order_of_sort}
use Rattle.ffc_term.specs.Values.{value_of_node}
use Rattle.ffc_term.proofs.NodeLemmas.{IsNodeAt-unique}
use Rattle.ffc_term.proofs.ValueLemmas.{IsOrder-computed}
use Rattle.ffc_term.proofs.eval.value_at.Goals as goal

pub value_of-requires-clause-order : goal.value_of-requires-clause-order
value_of-requires-clause-order c = λ is.
    subst IsOrder (sym (c.order.ensures ∙ ap order_of_sort c.sort_of.ensures)) (IsOrder-computed c.args.table.now c.args.id c.node.result.now c.node.ensures.valid.well_formed c.node.ensures.at is)

pub returns-clause-value : goal.returns-clause-value
returns-clause-value c = λ n at.
    c.value_of.ensures
    ∙ ap (λ p. value_of_node p c.args.values.now c.args.known.now c.node.result.now) (c.order.ensures ∙ ap order_of_sort c.sort_of.ensures)
    ∙ ap (value_of_node (order_at c.args.table.now c.args.id) c.args.values.now c.args.known.now) (IsNodeAt-unique c.args.table.now c.args.id c.node.result.now n c.node.ensures.at at)
