-- Refutations by clauses as a relation, for whoever writes one: each line gives a clause, after the clauses before it, and takes
-- its tree along.
use Rattle.std.specs.Prelude.{◌≡◌, ℕ, true, List, [], ◌∷◌, ◌++◌, Ok}
use Rattle.ffc_cert.specs.declared.entries.CertLine.{CertLine}
use Rattle.ffc_clause.specs.Clauses.{Clause}
use Rattle.ffc_rules.specs.Entries.{NodeCheck, Limits, Given, clause_given, ends_empty}

-- after some clauses, the lines give clauses in turn, all of which are these
pub data Gives (l : Limits) (c : NodeCheck) : List Clause → List CertLine → List Clause → Type 0 where
  nothing : {clauses : List Clause} → Gives l c clauses [] clauses
  next : {clauses all : List Clause} {rest : List CertLine} (x : CertLine) (given : Given) → ((line : ℕ) → clause_given l c clauses line x rest ≡ Ok given) → Gives l c (clauses ++ given.clause ∷ []) given.rest all → Gives l c clauses (x ∷ rest) all

-- the lines give clauses that end with the empty one
pub record Refutes (l : Limits) (c : NodeCheck) (lines : List CertLine) : Type 0 where
  pub clauses : List Clause
  pub gives : Gives l c [] lines clauses
  pub empty : ends_empty clauses ≡ true
