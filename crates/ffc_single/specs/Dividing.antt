-- A common divisor of polynomials in one variable, and the steps of Euclid's algorithm that lead to it.
use Rattle.std.specs.Prelude.{◌≡◌, ◌≢◌, ℕ, ◌+◌, ◌≤◌, List, [], length, take, slice_get, Some, All}
use Rattle.ffc_lemmatree.specs.Roots.{LeadsTo}
use Rattle.ffc_uni.specs.Univariate.{Coefficients, IsNormal, value_of}
use Rattle.ffc_single.specs.declared.divisor.Divisor.{Divisor}

-- the polynomial at a place is not 0, and each before it is
pub record IsFirstNonzero (forms : List Coefficients) (place : ℕ) : Type 0 where
  pub first : Coefficients
  pub at : slice_get forms place ≡ Some first
  pub some : first ≢ []
  pub zeros : All (λ (f : Coefficients). f ≡ []) (take place forms)

-- a divisor, reached by steps over these polynomials, whose roots are roots of the first ones of them
pub record IsDivisorOf {F : Type 0} (p : ℕ) (forms : List Coefficients) (count : ℕ) (d : Divisor F) : Type 0 where
  pub first : Coefficients
  pub at : slice_get forms d.start ≡ Some first
  pub leads : LeadsTo p forms first d.steps.items d.value
  pub normal : IsNormal p d.value
  pub some : 1 ≤ length d.value
  pub short : length d.steps.items + length d.value ≤ length first
  pub roots : (x : ℕ) → value_of p x d.value ≡ 0 → All (λ f. value_of p x f ≡ 0) (take count forms)
