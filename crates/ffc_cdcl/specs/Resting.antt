-- What holds of a solver's clauses: each learned one rests on the added clauses that it was learned from.
use Rattle.std.specs.Prelude.{ℕ, ◌≤◌, List, length, map, take, All}
use Rattle.ffc_clause.specs.Clauses.{Clause}
use Rattle.ffc_cdcl.specs.declared.solver.Learned.{Learned}
use Rattle.ffc_cdcl.specs.State.{Kept, AllBelow, kept_clauses, Implies}

abbrev pub learned_clauses : List Learned → List Clause
learned_clauses learned = map (λ (x : Learned). x.clause) learned

-- a learned clause follows from the first of the added clauses, and from lemmas
pub record RestsOn (added : List Clause) (kept : List Kept) (x : Learned) : Type 0 where
  pub base : x.base ≤ length added
  pub implied : Implies (take x.base added) (kept_clauses kept) x.clause

pub record IsResting (nodes : ℕ) (added : List Clause) (kept : List Kept) (learned : List Learned) : Type 0 where
  pub named : All (AllBelow nodes) added
  pub rest : All (RestsOn added kept) learned
