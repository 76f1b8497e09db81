-- How far the assignments of a check were gone through.
use Rattle.std.specs.Prelude.{◌≡◌, ℕ, List, length, map, true, false}
use Rattle.ffc_rules.specs.Assignments.{are_true, has_model_below}
use Rattle.ffc_rules.specs.Cones.{cone_constants}
use Rattle.ffc_rules.specs.Entries.{NodeCheck}
use Rattle.ffc_trials.specs.declared.enumerate.Enumeration.{Enumeration}
use Rattle.ffc_trials.specs.Counting.{HasDigits}

-- each of these nodes with 0 beside it
abbrev pub with_zeros : List ℕ → List (ℕ × ℕ)
with_zeros ids = map (λ id. (id, 0)) ids

-- None of the first assignments, so many, is a model, and the next one is that of this number.
pub record IsReached (c : NodeCheck) (number : ℕ) (e : Enumeration) : Type 0 where
  pub values : length e.values.items ≡ length c.nodes
  pub out : length e.out.items ≡ length c.nodes
  pub pairs : e.pairs.items ≡ with_zeros c.declared
  pub digits : HasDigits c.nodes (cone_constants c.nodes c.in_force) e.values.items number
  pub none : has_model_below c.nodes c.in_force number ≡ false

-- the assignment that was reached is a model
pub record IsModelFound (c : NodeCheck) (e : Enumeration) : Type 0 where
  pub pairs : e.pairs.items ≡ with_zeros c.declared
  pub model : are_true c.nodes c.in_force e.values.items ≡ true
