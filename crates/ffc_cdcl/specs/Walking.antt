-- Where a walk along hints is: which literals are assumed, and whether it can go on.
use Rattle.std.specs.Prelude.{◌≡◌, true, List, [], ◌∷◌, length, Some}
use Rattle.std.specs.List.{range_with_len}
use Rattle.ffc_clause.specs.Clauses.{Literal, Clause}
use Rattle.ffc_clause.specs.Hints.{open_literals, only_literal, is_contradiction}
use Rattle.ffc_cdcl.specs.declared.walk.Phase.{Phase}
use Rattle.ffc_cdcl.specs.declared.walk.Phase.TheVariants.{Open, Closed, Stuck}

pub record Progress : Type 0 where
  pub assumed : List Literal
  pub phase : Phase

-- each clause has one open literal, which is assumed from there on
abbrev pub Leads : List Literal → List Clause → List Literal → Type 0
Leads assumed [] end = end ≡ assumed
Leads assumed (clause ∷ clauses) end = (l : Literal) × (only_literal (open_literals assumed clause) ≡ Some l) × Leads (l ∷ assumed) clauses end

abbrev pub IsAt : List Literal → List Clause → List Literal → Phase → Type 0
IsAt start clauses assumed Open = Leads start clauses assumed
IsAt start clauses assumed Closed = is_contradiction clauses start (range_with_len 0 (length clauses)) ≡ true
IsAt start clauses assumed Stuck = Unit {0}

-- the walk began with these literals and took these clauses
abbrev pub HasTaken : List Literal → List Clause → Progress → Type 0
HasTaken start clauses p = IsAt start clauses p.assumed p.phase
