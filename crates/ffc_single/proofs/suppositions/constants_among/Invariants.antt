use Rattle.std.proofs.Common.{◌≡◌, filter, take}
use Rattle.ffc_bounds.specs.Conjunctions.{is_field_constant}
use Rattle.ffc_term.specs.Nodes.{node_at}
use Rattle.ffc_single.proofs.suppositions.constants_among.Given as goal

abbrev pub invariant-loop-id : goal.invariant-loop-id
invariant-loop-id l = l.constants.items ≡ filter (λ id. is_field_constant (node_at l.table id)) (take l.id-index l.nodes)
