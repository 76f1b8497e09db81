-- What a call takes of a budget.
use Rattle.std.specs.Prelude.{◌≡◌, ◌≢◌, ℕ, ◌+◌, ◌*◌, ◌≤◌, List, [], length, get_or}
use Rattle.std.specs.declared.cmp.Ordering.{Ordering}
use Rattle.ffc_base.specs.Metering.{Spending, total}
use Rattle.ffc_field.specs.Binomial.{choose}
use Rattle.ffc_ring.specs.Monomial.{Monomial, degree}
use Rattle.ffc_ring.specs.Polynomial.{Terms, coefficient}
use Rattle.ffc_ring.specs.Counting.{IsIn}
use Rattle.ffc_mono.specs.Graded.{IsGradedIn}

-- only units of reduction were taken
pub record TakesReductions (old new : Spending) : Type 0 where
  pub same_budget : new.budget ≡ old.budget
  pub trials : new.trials ≡ old.trials
  pub assignments : new.assignments ≡ old.assignments
  pub chains : new.chains ≡ old.chains
  pub taken : old.reductions ≤ new.reductions

-- only these variables occur in the polynomials
abbrev pub AreInVariables : ℕ → List ℕ → List Terms → Type 0
AreInVariables p vs gs = (i : ℕ) (m : Monomial) → coefficient p (get_or gs i []) m ≢ 0 → IsIn vs m

-- only these variables occur in the polynomial, and its degree is at most d
abbrev pub IsUpTo : ℕ → List ℕ → ℕ → Terms → Type 0
IsUpTo p vs d ts = (m : Monomial) → coefficient p ts m ≢ 0 → IsIn vs m × (degree m ≤ d)

-- so is each of these polynomials
abbrev pub AreUpTo : ℕ → List ℕ → ℕ → List Terms → Type 0
AreUpTo p vs d gs = (i : ℕ) → IsUpTo p vs d (get_or gs i [])

-- In variables in which the order is graded a reduction takes at most as many units as there are monomials in them of at most
-- the degree of the polynomial: each unit cancels a monomial, and no monomial is cancelled twice. Every order is graded in one
-- variable.
abbrev pub IsReductionBound : ℕ → (Monomial → Monomial → Ordering) → List Terms → Terms → Spending → Spending → Type 0
IsReductionBound p cmp gs ts old new =
    (vs : List ℕ) (d : ℕ) → IsGradedIn vs cmp → AreInVariables p vs gs → IsUpTo p vs d ts → total new ≤ total old + choose (length vs + d) d

-- the reduction of one S-polynomial, which has at most twice the degree of the lines
abbrev pub IsPairBound : ℕ → (Monomial → Monomial → Ordering) → List Terms → Spending → Spending → Type 0
IsPairBound p cmp gs old new =
    (vs : List ℕ) (d : ℕ) → IsGradedIn vs cmp → AreUpTo p vs d gs → total new ≤ total old + choose (length vs + (d + d)) (d + d)

-- for each of n pairs one unit and such a reduction
abbrev pub IsPairsBound : ℕ → (Monomial → Monomial → Ordering) → List Terms → ℕ → Spending → Spending → Type 0
IsPairsBound p cmp gs n old new =
    (vs : List ℕ) (d : ℕ) → IsGradedIn vs cmp → AreUpTo p vs d gs → total new ≤ total old + n * (1 + choose (length vs + (d + d)) (d + d))

-- so a completion takes at most that for each two lines
abbrev pub IsCompletionBound : ℕ → (Monomial → Monomial → Ordering) → List Terms → Spending → Spending → Type 0
IsCompletionBound p cmp gs old new = IsPairsBound p cmp gs (length gs * length gs) old new
