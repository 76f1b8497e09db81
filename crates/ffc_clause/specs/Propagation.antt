-- What follows from clauses by unit propagation (Davis, Logemann and Loveland 1962), as a set and not as a run.
use Rattle.std.specs.Prelude.{◌≢◌, List, Contains}
use Rattle.ffc_clause.specs.Clauses.{Literal, Clause, negated}

-- The least set of literals that has, of each clause, each literal for which it has the negations of all literals of the
-- clause that differ from it. So it has the literal of each clause with one literal.
pub data Propagates (clauses : List Clause) : Literal → Type 0 where
  unit : {l : Literal} (clause : Clause) → Contains clauses clause → Contains clause l → ((m : Literal) → Contains clause m → m ≢ l → Propagates clauses (negated m)) → Propagates clauses l

-- propagation refutes some clause: it has the negations of all its literals
pub record IsRefutedByPropagation (clauses : List Clause) : Type 0 where
  pub clause : Clause
  pub listed : Contains clauses clause
  pub refuted : (l : Literal) → Contains clause l → Propagates clauses (negated l)
