-- Clauses over the Boolean nodes of a table, and what makes them true (Ozdemir, Kremer, Tinelli and Barrett, "Satisfiability
-- modulo finite fields", CAV 2023: equalities of field terms are literals).
use Rattle.std.specs.Prelude.{◌≡◌, ℕ, Bool, true, List, All}
use Rattle.ffc_term.specs.declared.node.Node.{Node}
use Rattle.ffc_term.specs.declared.value.Value.{Value}
use Rattle.ffc_term.specs.declared.value.Value.TheVariants as value
use Rattle.ffc_term.specs.Values.{values, value_at, truth_in}
use Rattle.ffc_clause.specs.Clauses.{Clause, clause_holds}

-- the truth value of each node under an assignment
abbrev pub truth_at : List Node → List Value → ℕ → Bool
truth_at nodes assignment id = truth_in (values nodes assignment) id

-- the clause is true under the assignment
abbrev pub IsTrueClause : List Node → List Value → Clause → Type 0
IsTrueClause nodes assignment clause = clause_holds (truth_at nodes assignment) clause ≡ true

-- each of the listed nodes is true under the assignment
abbrev pub AreTrue : List Node → List ℕ → List Value → Type 0
AreTrue nodes ids assignment = All (λ id. value_at nodes assignment id ≡ value.Bool true) ids
