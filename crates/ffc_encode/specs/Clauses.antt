-- The clauses of listed nodes: for each node in order those of its schemes, each with the numbers of its scheme and of itself.
use Rattle.std.specs.Prelude.{ℕ, List, [], ◌∷◌, flat_map, Option, None, Some}
use Rattle.ffc_term.specs.declared.node.Node.{Node}
use Rattle.ffc_term.specs.declared.value.Value.{Value}
use Rattle.ffc_clause.specs.Clauses.{Clause}
use Rattle.ffc_rules.specs.Schemes.{all_schemes, scheme_clause}
use Rattle.ffc_rules.specs.Clauses.{IsTrueClause}
use Rattle.ffc_encode.specs.declared.clauses.NodeClause.{NodeClause}

abbrev pub clause_of : ℕ → ℕ → ℕ → Clause → NodeClause
clause_of node scheme index lits = record { node = node; scheme = scheme; index = index; lits = lits }

-- a clause that may be there, as a list
abbrev pub clause_if : ℕ → ℕ → ℕ → Option Clause → List NodeClause
clause_if node scheme index None = []
clause_if node scheme index (Some lits) = clause_of node scheme index lits ∷ []

-- the clauses of one node, in the order of its schemes and of their clauses
abbrev pub clauses_at : List Node → ℕ → List NodeClause
clauses_at nodes id = flat_map (λ s. clause_if id s.0 s.1 (scheme_clause nodes id s.0 s.1)) (all_schemes nodes id)

abbrev pub node_clauses : List Node → List ℕ → List NodeClause
node_clauses nodes ids = flat_map (clauses_at nodes) ids

-- true under every assignment
abbrev pub IsTrueAlways : List Node → NodeClause → Type 0
IsTrueAlways nodes clause = (assignment : List Value) → IsTrueClause nodes assignment clause.lits
