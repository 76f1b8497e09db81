use Rattle.std.proofs.Common.{◌≡◌, true, false, if◌then◌else◌, drop}
use Rattle.std.specs.List.{list_all}
use Rattle.ffc_bounds.specs.Conjunctions.{is_field_ite}
use Rattle.ffc_term.specs.Nodes.{node_at}
use Rattle.ffc_combination.proofs.literals.have_no_ite.Given as goal

abbrev pub invariant-loop-id : goal.invariant-loop-id
invariant-loop-id l =
    list_all (λ id. if is_field_ite (node_at l.table id) then false else true) (drop l.id-index l.nodes)
    ≡ list_all (λ id. if is_field_ite (node_at l.table id) then false else true) l.nodes
