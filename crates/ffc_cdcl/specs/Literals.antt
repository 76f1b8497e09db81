-- Trails: lists of literals that are true together.
use Rattle.std.specs.Prelude.{◌≢◌, List, AllPairs, All, Contains}
use Rattle.ffc_clause.specs.Clauses.{Literal, Clause}

-- a trail names no node twice
abbrev pub NamesNoNodeTwice : List Literal → Type 0
NamesNoNodeTwice trail = AllPairs (λ a b. a.1 ≢ b.1) trail

-- a trail has a literal of a clause
pub record HasTrue (trail : List Literal) (clause : Clause) : Type 0 where
  pub literal : Literal
  pub listed : Contains clause literal
  pub on_trail : Contains trail literal

-- a trail makes each clause true
abbrev pub MakesTrue : List Literal → List Clause → Type 0
MakesTrue trail clauses = All (HasTrue trail) clauses
