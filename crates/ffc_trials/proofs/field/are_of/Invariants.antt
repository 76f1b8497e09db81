use Rattle.std.proofs.Common.{◌≡◌, ◌==◌, filter, drop}
use Rattle.std.specs.List.{list_all}
use Rattle.ffc_term.specs.Nodes.{order_at}
use Rattle.ffc_trials.proofs.FieldLemmas.{is_field}
use Rattle.ffc_trials.proofs.field.are_of.Given as goal

abbrev pub invariant-loop-id : goal.invariant-loop-id
invariant-loop-id l =
    list_all (λ id. order_at l.table id == l.order) (filter (is_field l.table) (drop l.id-index l.nodes))
    ≡ list_all (λ id. order_at l.table id == l.order) (filter (is_field l.table) l.nodes)
