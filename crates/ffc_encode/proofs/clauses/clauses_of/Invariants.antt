use Rattle.std.proofs.Common.{◌≡◌, take}
use Rattle.ffc_encode.specs.Clauses.{node_clauses}
use Rattle.ffc_encode.proofs.clauses.clauses_of.Given as goal

abbrev pub invariant-loop-id : goal.invariant-loop-id
invariant-loop-id l = l.clauses.items ≡ node_clauses l.table (take l.id-index l.nodes)
