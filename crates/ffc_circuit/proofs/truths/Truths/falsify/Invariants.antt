use Rattle.std.specs.Prelude.{All, Contains, take}
use Rattle.ffc_clause.specs.Clauses.{Literal, negated}
use Rattle.ffc_circuit.proofs.truths.Truths.falsify.Given as goal

abbrev pub invariant-loop-literal : goal.invariant-loop-literal
invariant-loop-literal l = All (λ (literal : Literal). Contains l.trail (negated literal)) (take l.literal-index l.clause)
