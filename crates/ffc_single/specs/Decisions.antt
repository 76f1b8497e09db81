-- The steps that decide a flat check in one constant.
use Rattle.std.specs.Prelude.{◌≡◌, ℕ, ◌+◌, ◌<◌, ◌≤◌, true, false, List, [], ◌∷◌, length}
use Rattle.ffc_base.specs.Metering.{Spending, total}
use Rattle.ffc_bounds.specs.Conjunctions.{equations, field_constants, has_order, has_no_ite}
use Rattle.ffc_conjunction.specs.declared.conjunction.Conjunction.{Conjunction}
use Rattle.ffc_conjunction.specs.Literals.{AreLiteralsOf}
use Rattle.ffc_linear.specs.declared.deciding.LinearAnswer.{LinearAnswer}
use Rattle.ffc_roots.specs.declared.found.Roots.{Roots}
use Rattle.ffc_rules.specs.Entries.{NodeCheck}
use Rattle.ffc_rules.specs.Laws.{IsValid}
use Rattle.ffc_trials.specs.Stops.{IsWithinLimits}
use Rattle.ffc_uni.specs.Univariate.{Coefficients}
use Rattle.ffc_single.specs.Answering.{IsSingleAnswer}
use Rattle.ffc_single.specs.Bounds.{IsDecidedSingle}
use Rattle.ffc_single.specs.Dividing.{IsDivisorOf}
use Rattle.ffc_single.specs.Outcomes.{AreFoundRoots}
use Rattle.ffc_single.specs.Univariate.{AreFormsOf}
use Rattle.ffc_single.specs.declared.divisor.Divisor.{Divisor}

-- a flat check over the field of order p whose only constant is x, with some equations, but not too many
pub record IsFlatInOne (c : NodeCheck) (p x : ℕ) (conjunction : Conjunction) : Type 0 where
  pub valid : IsValid c
  pub field : has_order c.nodes c.in_force p ≡ true
  pub within : IsWithinLimits c
  pub literals : AreLiteralsOf c conjunction
  pub free : conjunction.clashes ≡ false
  pub no_ite : has_no_ite c.nodes c.in_force ≡ true
  pub constant : field_constants c.nodes c.in_force ≡ x ∷ []
  pub some : 1 ≤ length (equations c.nodes c.in_force)
  pub few : length (equations c.nodes c.in_force) ≤ 4096

-- such a check, and a common divisor of the polynomials of its equations
pub record HasDivisor {F : Type 0} (c : NodeCheck) (p x : ℕ) (conjunction : Conjunction) (divisor : Divisor F) : Type 0 where
  pub flat : IsFlatInOne c p x conjunction
  pub equal : List Coefficients
  pub forms : AreFormsOf p c.nodes x conjunction.equations.items equal
  pub is : IsDivisorOf p equal (length equal) divisor

-- which is a constant
pub record HasConstantDivisor {F : Type 0} (c : NodeCheck) (p x : ℕ) (conjunction : Conjunction) (divisor : Divisor F) : Type 0 where
  pub divisor_is : HasDivisor c p x conjunction divisor
  pub constant : length divisor.value ≡ 1

-- or has these roots; and the polynomials of the disequations
pub record HasRoots {F : Type 0} (c : NodeCheck) (p x : ℕ) (conjunction : Conjunction) (divisor : Divisor F) (roots : Roots F) (unequal : List Coefficients) : Type 0 where
  pub divisor_is : HasDivisor c p x conjunction divisor
  pub some : 2 ≤ length divisor.value
  pub found : AreFoundRoots p divisor.value roots
  pub forms : AreFormsOf p c.nodes x conjunction.disequations.items unequal

-- the answer is right whatever units there are
abbrev pub Decides : NodeCheck → LinearAnswer → Type 0
Decides c answer = (units : ℕ) → IsSingleAnswer c units answer

-- fewer units are left than decide the check
abbrev pub HasTooFewFor : NodeCheck → Spending → Type 0
HasTooFewFor c s = (units : ℕ) → IsDecidedSingle units c → s.budget < total s + units
