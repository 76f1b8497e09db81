-- Linear checks as systems of affine forms in their field constants.
use Rattle.std.specs.Prelude.{◌≡◌, ◌≢◌, ℕ, true, List, [], ◌∷◌, ◌++◌, All}
use Rattle.ffc_bounds.specs.Conjunctions.{is_conjunction, equations, disequations, field_constants, has_order}
use Rattle.ffc_echelon.specs.Vectors.{Coordinates, AreCoordinates, dot}
use Rattle.ffc_rules.specs.Entries.{NodeCheck}
use Rattle.ffc_rules.specs.Laws.{IsValid}
use Rattle.ffc_smt.specs.Numbers.{is_order}
use Rattle.ffc_linear.specs.Affine.{AreAffineForms}
use Rattle.ffc_linear.specs.Refuting.{IsUsable}

-- The check is a conjunction over the field of order p; the forms are those of its equations and of its disequations.
pub record IsSystemOf (c : NodeCheck) (p : ℕ) (constants : List ℕ) (equal unequal : List Coordinates) : Type 0 where
  pub valid : IsValid c
  pub order : is_order p ≡ true
  pub plain : is_conjunction c.nodes c.in_force ≡ true
  pub field : has_order c.nodes c.in_force p ≡ true
  pub constants_are : constants ≡ field_constants c.nodes c.in_force
  pub equal_usable : All (IsUsable c p) (equations c.nodes c.in_force)
  pub unequal_usable : All (IsUsable c p) (disequations c.nodes c.in_force)
  pub equal_forms : AreAffineForms p c.nodes constants (equations c.nodes c.in_force) equal
  pub unequal_forms : AreAffineForms p c.nodes constants (disequations c.nodes c.in_force) unequal
  pub equal_valid : All (AreCoordinates p) equal
  pub unequal_valid : All (AreCoordinates p) unequal

-- residues for the unknowns, at which the first forms are 0 and none of the others is
pub record Solves (p : ℕ) (equal unequal : List Coordinates) (values : List ℕ) : Type 0 where
  pub zeros : All (λ v. dot p (values ++ 1 ∷ []) v ≡ 0) equal
  pub apart : All (λ v. dot p (values ++ 1 ∷ []) v ≢ 0) unequal
