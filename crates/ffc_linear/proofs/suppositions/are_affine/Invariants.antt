use Rattle.std.proofs.Common.{◌≡◌, filter, drop}
use Rattle.std.specs.List.{list_all}
use Rattle.ffc_rules.specs.Cones.{is_equality}
use Rattle.ffc_term.specs.Nodes.{node_at}
use Rattle.ffc_linear.proofs.SuppositionLemmas.{is_affine_at}
use Rattle.ffc_linear.proofs.suppositions.are_affine.Given as goal

abbrev pub invariant-loop-id : goal.invariant-loop-id
invariant-loop-id l =
    list_all (is_affine_at l.table) (filter (λ id. is_equality (node_at l.table id)) (drop l.id-index l.nodes))
    ≡ list_all (is_affine_at l.table) (filter (λ id. is_equality (node_at l.table id)) l.nodes)
