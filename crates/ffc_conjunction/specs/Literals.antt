-- What is known of a conjunction's literals.
use Rattle.std.specs.Prelude.{◌≡◌, ℕ, ◌≤◌, true, false, List, [], All, length}
use Rattle.ffc_clause.specs.Clauses.{Literal, plus, minus, is_among}
use Rattle.ffc_refutation.specs.declared.reason.Reason.{Reason}
use Rattle.ffc_refutation.specs.Forcing.{Forces, IsConflict}
use Rattle.ffc_bounds.specs.Conjunctions.{is_conjunction, equations, disequations}
use Rattle.ffc_rules.specs.Entries.{NodeCheck}
use Rattle.ffc_conjunction.specs.declared.conjunction.Conjunction.{Conjunction}

-- the reasons force each equation, and each disequation's negation
pub record AreForced (c : NodeCheck) (reasons : List Reason) (equal unequal : List ℕ) : Type 0 where
  pub forced : List Literal
  pub forces : Forces c [] reasons forced
  pub equations_are : All (λ id. is_among forced (plus id) ≡ true) equal
  pub disequations_are : All (λ id. is_among forced (minus id) ≡ true) unequal

-- the equations and disequations of a check that is a conjunction of them, and why each is asserted, or why they clash
pub record AreLiteralsOf (c : NodeCheck) (v : Conjunction) : Type 0 where
  pub plain : is_conjunction c.nodes c.in_force ≡ true
  pub equations_are : v.equations.items ≡ equations c.nodes c.in_force
  pub disequations_are : v.disequations.items ≡ disequations c.nodes c.in_force
  pub few : length v.reasons.items ≤ 1048577
  pub clash : v.clashes ≡ true → IsConflict c v.reasons.items
  pub forced : v.clashes ≡ false → AreForced c v.reasons.items v.equations.items v.disequations.items
