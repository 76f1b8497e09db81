use Rattle.std.proofs.Common.{◌≡◌, ◌++◌, take}
use Rattle.ffc_encode.specs.Listing.{indexed, child_clauses}
use Rattle.ffc_encode.proofs.clauses.push_children.Given as goal

abbrev pub invariant-loop-index : goal.invariant-loop-index
invariant-loop-index l = l.clauses.items ≡ l.initial.clauses.items ++ indexed l.node 0 0 (child_clauses l.node l.all (take l.index l.ids))
