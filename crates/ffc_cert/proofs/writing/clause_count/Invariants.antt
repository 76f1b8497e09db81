use Rattle.std.proofs.Common.{◌≡◌, ◌≤◌, take}
use Rattle.ffc_cert.specs.Spelling.{clauses}
use Rattle.ffc_cert.proofs.writing.clause_count.Given as goal

abbrev pub invariant-loop-line : goal.invariant-loop-line
invariant-loop-line l = (l.count ≡ clauses (take l.line-index l.lines)) × (l.count ≤ l.line-index)
