use Rattle.std.proofs.Common.{◌≡◌, filter, take}
use Rattle.ffc_term.specs.Nodes.{node_at}
use Rattle.ffc_trees.specs.NodePolynomials.{is_variable}
use Rattle.ffc_combination.proofs.literals.variables_among.Given as goal

abbrev pub invariant-loop-id : goal.invariant-loop-id
invariant-loop-id l = l.found.items ≡ filter (λ id. is_variable (node_at l.table id)) (take l.id-index l.nodes)
