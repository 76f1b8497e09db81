use Rattle.std.proofs.Common.{◌≡◌, ◌==◌, ℕ, List, nat_lt, true, filter, sym, ap, ◌∙◌, subst}
use Rattle.std.specs.List.{list_all}
use Rattle.std.proofs.lemmas.Option.{IfSome_then}
use Rattle.ffc_field.specs.Orders.{IsOrder}
use Rattle.ffc_bounds.specs.Conjunctions.{field_order, first_order_of, has_order}
use Rattle.ffc_term.specs.Nodes.{order_at}
use Rattle.ffc_trials.proofs.FieldLemmas.{one_of_eight, none_where_some}
use Rattle.ffc_trials.proofs.field.field_of.Goals as goal

pub returns-clause-some : goal.returns-clause-some
returns-clause-some c =
    let ns = c.args.check.now.table.now in
    let ids = c.args.check.now.in_force.now in
    let p = c.field_order-order.result in
    let is : has_order ns ids p ≡ true =
    sym (ap (λ (nodes : List ℕ). list_all (λ id. order_at ns id == p) (filter (λ id. nat_lt 0 (order_at ns id)) nodes)) (c.as_slice.ensures.value ∙ c.requires.cone.all))
    ∙ sym c.are_of.ensures ∙ c.if-not-are_of.false in
    IfSome_then c.of_order.result c.of_order.ensures.found (λ id named. subst (λ q. has_order ns ids q ≡ true) (sym (named ∙ c.from.ensures)) is)

pub returns-clause-none : goal.returns-clause-none
returns-clause-none c =
    let ns = c.args.check.now.table.now in
    let nodes = c.args.cone.now.nodes.items in
    let known = one_of_eight ns nodes c.requires.valid.table.well_formed c.requires.cone.closed.within in
    let same : c.from.result ≡ field_order ns c.args.check.now.in_force.now = c.from.ensures ∙ c.field_order-order.ensures in
    let order = subst IsOrder (sym same) (subst (λ (xs : List ℕ). IsOrder (first_order_of ns (filter (λ id. nat_lt 0 (order_at ns id)) xs))) c.requires.cone.all known) in
    none_where_some _ c.of_order.result (λ none. c.of_order.ensures.none none order)
