use Rattle.std.proofs.Common.{◌≡◌, ◌++◌, map, take}
use Rattle.ffc_rules.specs.Schemes.{one}
use Rattle.ffc_encode.specs.Listing.{numbered}
use Rattle.ffc_encode.proofs.clauses.push_rows.Given as goal

abbrev pub invariant-loop-scheme : goal.invariant-loop-scheme
invariant-loop-scheme g l = l.clauses.items ≡ l.initial.clauses.items ++ numbered l.node 0 (map one (take l.scheme l.rows))
