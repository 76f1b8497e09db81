use Rattle.ffc_term.specs.Tables.{IsBooleanAt}
use Rattle.bench.proofs.chains.negations.Given as goal

-- the last node is Boolean
abbrev pub invariant-loop : goal.invariant-loop
invariant-loop l = IsBooleanAt l.table l.last
