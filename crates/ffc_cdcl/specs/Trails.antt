-- Trails with the values that they give, and what they pay for.
use Rattle.std.specs.Prelude.{◌≡◌, ℕ, ◌+◌, ◌≤◌, ◌<◌, Bool, List, Option, Some, length, slice_get, is_none, count_by, All, Contains}
use Rattle.ffc_base.specs.Metering.{Spending, total}
use Rattle.ffc_clause.specs.Clauses.{Literal}
use Rattle.ffc_cdcl.specs.Literals.{NamesNoNodeTwice}

-- a trail over the nodes below a number
pub record Assigned : Type 0 where
  pub nodes : ℕ
  pub literals : List Literal

-- just the trail's literals are values
pub record IsTrail (values : List (Option Bool)) (literals : List Literal) : Type 0 where
  pub on : All (λ (l : Literal). slice_get values l.1 ≡ Some (Some l.0)) literals
  pub off : (node : ℕ) (b : Bool) → slice_get values node ≡ Some (Some b) → Contains literals (b, node)
  pub distinct : NamesNoNodeTwice literals
  pub count : length literals + count_by is_none values ≡ length values

-- a node has no literal on the trail
pub record IsOpen (t : Assigned) (node : ℕ) : Type 0 where
  pub below : node < t.nodes
  pub absent : (b : Bool) → Contains t.literals (b, node) → ⊥

-- one unit for each literal that was put on the trail, of the kind for that and of no other
pub record Pays (old new : Assigned) (before after : Spending) : Type 0 where
  pub nodes : new.nodes ≡ old.nodes
  pub same_budget : after.budget ≡ before.budget
  pub kind : after ≡ record before { assignments = after.assignments }
  pub units : total after + length old.literals ≡ total before + length new.literals
  pub longer : length old.literals ≤ length new.literals
