use Rattle.std.proofs.Common.{◌==◌, Some, sym, ap, ◌∙◌}
use Rattle.ffc_term.specs.Nodes.{order_of_sort}
use Rattle.ffc_term.proofs.GrowthLemmas.{sides_of_one_order}
use Rattle.ffc_rules.specs.Entries.{is_equality_over}
use Rattle.ffc_rules.proofs.AssignmentLemmas.{node_at-is}
use Rattle.ffc_check.proofs.GivenLemmas.{no_equality}
use Rattle.ffc_check.proofs.lemmas.is_equality.Goals as goal

pub sort_of-requires : goal.sort_of-requires
sort_of-requires c =
    let at = c.node.ensures.at ∙ ap Some c.in-Eq.is in
    (sides_of_one_order c.args.table.now c.args.id c.in-Eq.a c.in-Eq.field-1 c.node.ensures.valid.well_formed at).1.0

pub returns-in-Eq : goal.returns-in-Eq
returns-in-Eq c =
    ap (λ p. p == c.args.order) (c.order.ensures ∙ ap order_of_sort c.sort_of.ensures)
    ∙ sym (ap (is_equality_over c.args.table.now c.args.order) (node_at-is c.args.table.now c.args.id c.node.result.now c.node.ensures.at ∙ c.in-Eq.is))

pub returns-in_default : goal.returns-in_default
returns-in_default c =
    sym (ap (is_equality_over c.args.table.now c.args.order) (node_at-is c.args.table.now c.args.id c.node.result.now c.node.ensures.at) ∙ no_equality c.args.table.now c.args.order c.node.result.now c.in_default.not-Eq)
