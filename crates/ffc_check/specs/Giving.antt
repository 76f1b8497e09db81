-- A line of a refutation that gives a clause, and takes the lines of its tree along.
use Rattle.std.specs.Prelude.{◌≡◌, ℕ, ◌≤◌, List, [], ◌∷◌, ◌++◌, length, drop}
use Rattle.ffc_cert.specs.declared.entries.CertLine.{CertLine}
use Rattle.ffc_clause.specs.Clauses.{Clause}
use Rattle.ffc_rules.specs.Entries.{Given}

-- so many of the lines after it belong to its tree
pub record HasTreeLines (rest : List CertLine) (used : ℕ) (given : Given) : Type 0 where
  pub left : given.rest ≡ drop used rest
  pub few : used ≤ length rest

-- and the clause is this one
pub record IsTakenWith (clause : Clause) (rest : List CertLine) (used : ℕ) (given : Given) : Type 0 where
  pub taken : HasTreeLines rest used given
  pub clause_is : given.clause ≡ clause

-- and the clause is one more
pub record IsGiven (old new : List Clause) (rest : List CertLine) (used : ℕ) (given : Given) : Type 0 where
  pub taken : HasTreeLines rest used given
  pub grown : new ≡ old ++ given.clause ∷ []
