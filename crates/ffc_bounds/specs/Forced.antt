-- What unit propagation forces of a check (Davis, Logemann and Loveland 1962), and within how many units it refutes one.
use Rattle.std.specs.Prelude.{◌≡◌, ℕ, ◌≤◌, true, false, List, [], ◌∷◌, ◌++◌, length, map, flat_map}
use Rattle.ffc_clause.specs.Clauses.{Literal, Clause, plus, negated}
use Rattle.ffc_clause.specs.Propagation.{Propagates}
use Rattle.ffc_rules.specs.Causes.{passes_degree, passes_length}
use Rattle.ffc_rules.specs.Cones.{cone}
use Rattle.ffc_rules.specs.Entries.{NodeCheck, limits}
use Rattle.ffc_rules.specs.Schemes.{schemes_at}
use Rattle.ffc_bounds.specs.Conjunctions.{has_one_order}

-- the clauses of all schemes of one node
abbrev pub scheme_clauses_at : NodeCheck → ℕ → List Clause
scheme_clauses_at c id = flat_map (λ clauses. clauses) (schemes_at c.nodes id)

-- the clauses of a check: its assertions, and those of the schemes of its nodes
abbrev pub check_clauses : NodeCheck → List Clause
check_clauses c = map (λ id. plus id ∷ []) c.in_force ++ flat_map (scheme_clauses_at c) (cone c.nodes c.in_force)

-- A literal is forced where it is in the least set that has, of each of these clauses, each literal for which it has the
-- negations of all others of the clause.
abbrev pub IsForced : NodeCheck → Literal → Type 0
IsForced c l = Propagates (check_clauses c) l

-- Propagation forces some literal and its negation, and the budget has one unit for each node. The field nodes have one order,
-- and no equality passes a limit.
pub record IsRefutedByForcing (budget : ℕ) (c : NodeCheck) : Type 0 where
  pub one_field : has_one_order c.nodes c.in_force ≡ true
  pub low : passes_degree limits c ≡ false
  pub short : passes_length limits c ≡ false
  pub enough : length (cone c.nodes c.in_force) ≤ budget
  pub literal : Literal
  pub forced : IsForced c literal
  pub denied : IsForced c (negated literal)
