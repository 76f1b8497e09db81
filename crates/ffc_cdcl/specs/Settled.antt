-- Clauses with which propagation has nothing left to do, under a trail.
use Rattle.std.specs.Prelude.{◌≢◌, Contains, ◌⊎◌}
use Rattle.ffc_clause.specs.Clauses.{Literal, Clause}
use Rattle.ffc_cdcl.specs.Literals.{HasTrue}
use Rattle.ffc_cdcl.specs.Trails.{Assigned, IsOpen}

-- two different literals of a clause, whose nodes have no value
pub record HasTwoOpen (t : Assigned) (clause : Clause) : Type 0 where
  pub first : Literal
  pub second : Literal
  pub first_listed : Contains clause first
  pub second_listed : Contains clause second
  pub different : first ≢ second
  pub first_open : IsOpen t first.1
  pub second_open : IsOpen t second.1

abbrev pub IsSettled : Assigned → Clause → Type 0
IsSettled t clause = HasTrue t.literals clause ⊎ HasTwoOpen t clause
