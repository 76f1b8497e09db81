-- Solving for the constants of a flat check by one choice of generators.
use Rattle.std.specs.Prelude.{◌≡◌, ℕ, ◌<◌, true, List, length, map, take}
use Rattle.ffc_clause.specs.Clauses.{Literal}
use Rattle.ffc_combination.specs.Attempts.{IsSolvedFor}
use Rattle.ffc_combination.specs.declared.choices.Choice.{Choice}
use Rattle.ffc_combination.specs.Search.{IsChosen}
use Rattle.ffc_combination.specs.Values.{literal_at}
use Rattle.ffc_refutation.specs.declared.combination.Determined.{Determined}
use Rattle.ffc_refutation.specs.declared.reason.Reason.{Reason}
use Rattle.ffc_rules.specs.Entries.{NodeCheck}
use Rattle.ffc_term.specs.declared.value.Value.{Value}
use Rattle.ffc_term.specs.Values.{residue, value_at}
use Rattle.ffc_trees.specs.FirstLines.{literal_truth}

-- within some degree a choice determines the constants
pub record IsSolvedChoice (c : NodeCheck) (p : ℕ) (reasons : List Reason) (x : Choice) (tested : List Literal) (values : List Determined) : Type 0 where
  pub degree : ℕ
  pub chosen : IsChosen c p degree reasons x tested
  pub solved : IsSolvedFor p degree c.nodes x values

-- the residue of a node
abbrev pub residue_at : NodeCheck → List Value → ℕ → ℕ
residue_at c assignment id = residue (value_at c.nodes assignment id)

-- the constants have the values that are determined, and a literal is true that is false where all assertions are true
pub record IsMissed (c : NodeCheck) (p : ℕ) (reasons : List Reason) (x : Choice) (tested : List Literal) (values : List Determined) (place : ℕ) : Type 0 where
  pub solved : IsSolvedChoice c p reasons x tested values
  pub assignment : List Value
  pub given : map (residue_at c assignment) (take (length values) x.variables.items) ≡ map (λ d. d.value) values
  pub there : place < length tested
  pub true_at : literal_truth c.nodes assignment (literal_at tested place) ≡ true
