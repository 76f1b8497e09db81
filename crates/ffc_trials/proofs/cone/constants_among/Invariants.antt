use Rattle.std.proofs.Common.{◌≡◌, filter, take}
use Rattle.ffc_term.specs.Nodes.{is_constant, node_at}
use Rattle.ffc_trials.proofs.cone.constants_among.Given as goal

abbrev pub invariant-loop-id : goal.invariant-loop-id
invariant-loop-id l = l.constants.items ≡ filter (λ id. is_constant (node_at l.table id)) (take l.id-index l.nodes)
