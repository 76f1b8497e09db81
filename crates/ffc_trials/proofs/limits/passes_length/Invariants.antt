use Rattle.std.proofs.Common.{◌≡◌, nat_lt, filter, drop}
use Rattle.std.specs.List.{list_any}
use Rattle.ffc_term.specs.Nodes.{node_at}
use Rattle.ffc_term.specs.Measuring.{length_at}
use Rattle.ffc_rules.specs.Cones.{is_equality}
use Rattle.ffc_trials.proofs.limits.passes_length.Given as goal

abbrev pub invariant-loop-id : goal.invariant-loop-id
invariant-loop-id l =
    list_any (λ id. nat_lt 65536 (length_at l.table id)) (filter (λ id. is_equality (node_at l.table id)) (drop l.id-index l.nodes))
    ≡ list_any (λ id. nat_lt 65536 (length_at l.table id)) (filter (λ id. is_equality (node_at l.table id)) l.nodes)
