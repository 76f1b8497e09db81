-- What is found at the roots of a common divisor.
use Rattle.std.specs.Prelude.{◌≡◌, ◌≢◌, ℕ, ◌+◌, ◌-◌, ◌*◌, ◌<◌, ◌≤◌, max, List, [], ◌∷◌, length, map, slice_get, Some, All, Contains}
use Rattle.ffc_base.specs.Metering.{Spending}
use Rattle.ffc_lemmatree.specs.Roots.{AreCases}
use Rattle.ffc_roots.specs.declared.found.Roots.{Roots}
use Rattle.ffc_roots.specs.Roots.{AreRoots, IsCombination, without_x}
use Rattle.ffc_roots.specs.Separation.{AreSeparated, HasFewerUnits, unit_bound}
use Rattle.ffc_uni.specs.Chains.{IsChain, AreLower, last_remainder}
use Rattle.ffc_uni.specs.Univariate.{Coefficients, indeterminate, product_of_roots, value_of}
use Rattle.ffc_single.specs.declared.trials.Cases.{Cases as FoundCases}
use Rattle.ffc_single.specs.declared.trials.Outcome.{Outcome}
use Rattle.ffc_single.specs.declared.trials.Outcome.TheVariants as outcome

-- all roots of g, with the identity that proves them
pub record AreFoundRoots {F : Type 0} (p : ℕ) (g : Coefficients) (r : Roots F) : Type 0 where
  pub roots : AreRoots p g r.zeros
  pub few : length r.zeros < length g
  pub chain : IsChain p g r.chain.steps
  pub lower : AreLower g r.chain.steps
  pub short : (length r.a ≤ length g) × (length r.b ≤ length g)
  pub identity : IsCombination p g (without_x p (last_remainder indeterminate r.chain.steps)) r.a r.b (product_of_roots p r.zeros)

-- the units that are enough to find the roots of a polynomial of this degree, separated by numbers below a bound, and to try each
abbrev pub root_units : ℕ → ℕ → ℕ
root_units degree bound = max 1 (degree * bound) * unit_bound degree + degree

-- whatever bound separates the roots of g, fewer units are left
abbrev pub HasTooFewUnits : ℕ → Coefficients → Spending → Type 0
HasTooFewUnits p g s = (bound : ℕ) → AreSeparated p g bound → HasFewerUnits s (root_units (length g - 1) bound)

-- a polynomial that is 0 at x
pub record IsFirstZero (p x : ℕ) (forms : List Coefficients) (place : ℕ) : Type 0 where
  pub form : Coefficients
  pub at : slice_get forms place ≡ Some form
  pub zero : value_of p x form ≡ 0

-- each of these disequations, with its polynomial, stands at one place of both lists
abbrev pub ArePicked : List ℕ → List Coefficients → List ℕ → List Coefficients → Type 0
ArePicked ids forms [] [] = Unit {0}
ArePicked ids forms [] (f ∷ others) = ⊥
ArePicked ids forms (d ∷ picked) [] = ⊥
ArePicked ids forms (d ∷ picked) (f ∷ others) =
    ((k : ℕ) × (slice_get ids k ≡ Some d) × (slice_get forms k ≡ Some f)) × ArePicked ids forms picked others

-- a disequation for each root, whose polynomial is 0 there, and the roots' cases
pub record AreCasesAt {F : Type 0} (p : ℕ) (zeros ids : List ℕ) (forms : List Coefficients) (found : FoundCases F) : Type 0 where
  pub others : List Coefficients
  pub picked : ArePicked ids forms found.disequations.items others
  pub count : length found.disequations.items ≡ length zeros
  pub cases : AreCases p others zeros found.cases.items

-- a root at which none of these polynomials is 0, or the cases of all roots
abbrev pub IsOutcomeOf : {F : Type 0} → ℕ → (F → ℕ) → List F → List ℕ → List Coefficients → Outcome F → Type 0
IsOutcomeOf p value zeros ids forms (outcome.Value x) = Contains (map value zeros) (value x) × All (λ f. value_of p (value x) f ≢ 0) forms
IsOutcomeOf p value zeros ids forms (outcome.Cases found) = AreCasesAt p (map value zeros) ids forms found
