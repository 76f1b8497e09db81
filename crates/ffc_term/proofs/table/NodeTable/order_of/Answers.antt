use Rattle.std.proofs.Common.{sym, ap, ◌∙◌, subst}
use Rattle.ffc_field.specs.Orders.{IsOrder}
use Rattle.ffc_term.specs.Nodes.{order_of_sort}
use Rattle.ffc_term.specs.Tables.{IsFieldAt}
use Rattle.ffc_term.proofs.ValueLemmas.{IsOrder-order_at}
use Rattle.ffc_term.proofs.table.NodeTable.order_of.Goals as goal

pub returns-clause-known : goal.returns-clause-known
returns-clause-known c =
    subst IsOrder (sym (c.order.ensures ∙ ap order_of_sort c.sort.ensures.value)) (IsOrder-order_at c.self.inside.store c.args.id c.requires.0 c.sort.ensures.valid (subst (λ xs. IsFieldAt xs c.requires.0 c.args.id) (sym c.self.view_is) c.requires.1))
