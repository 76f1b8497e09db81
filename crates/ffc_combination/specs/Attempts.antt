-- What is found of one choice of generators at one degree.
use Rattle.std.specs.Prelude.{◌≡◌, ℕ, ◌+◌, ◌≤◌, ◌<◌, ◌⊎◌, List, length, take, All, Option, Some, None, Result, IfOk}
use Rattle.std.specs.List.{AllZip}
use Rattle.ffc_base.specs.declared.stop.Stop.{Stop}
use Rattle.ffc_base.specs.declared.stop.Stop.TheVariants as stops
use Rattle.ffc_base.specs.Metering.{Spending, Takes, total}
use Rattle.ffc_bounds.specs.Combinations.{IsMultiple, row_count, degree_units}
use Rattle.ffc_bounds.specs.Monomials.{columns, rows}
use Rattle.ffc_combination.specs.Choices.{constants_at}
use Rattle.ffc_combination.specs.declared.attempts.Attempt.{Attempt}
use Rattle.ffc_combination.specs.declared.attempts.Attempt.TheVariants.{Found, Solved, Excluded, Unpaid}
use Rattle.ffc_combination.specs.declared.choices.Choice.{Choice}
use Rattle.ffc_macaulay.specs.declared.solving.Solution.{Solution}
use Rattle.ffc_macaulay.specs.declared.solving.Solution.TheVariants as found
use Rattle.ffc_macaulay.specs.Identities.{HasNoIdentity}
use Rattle.ffc_macaulay.specs.Solutions.{Determines, IsSolution}
use Rattle.ffc_macaulay.specs.Units.{TakesWithin}
use Rattle.ffc_refutation.specs.Combinations.{Summand, sum_of, IsNonzeroConstant}
use Rattle.ffc_refutation.specs.declared.combination.Determined.{Determined}
use Rattle.ffc_ring.specs.Polynomial.{Terms, SamePolynomial}
use Rattle.ffc_term.specs.declared.node.Node.{Node}
use Rattle.ffc_trees.specs.FirstLines.{first_lines}
use Rattle.ffc_trees.specs.NodePolynomials.{constant}

-- the numbers of columns and rows at a degree, which is at least that of each generator; there is a generator
pub record HasSize (d : ℕ) (xs degrees : List ℕ) (columns_are rows_are : ℕ) : Type 0 where
  pub some : 0 < length degrees
  pub low : All (λ e. e ≤ d) degrees
  pub columns_is : columns_are ≡ columns d xs
  pub rows_is : rows_are ≡ rows d xs degrees
  pub few_columns : columns_are ≤ 4096
  pub few_rows : rows_are ≤ 4096

-- there is no generator, or one of a higher degree, or the matrix is too large
abbrev pub HasNoSize : ℕ → List ℕ → List ℕ → Type 0
HasNoSize d xs degrees = 0 < length degrees → All (λ e. e ≤ d) degrees → columns d xs ≤ 4096 → row_count d xs degrees ≤ 4096 → ⊥

-- no sum of multiples of the lines up to the degree is 1, where the matrix is not too large
abbrev pub HasNoSum : ℕ → ℕ → List ℕ → List ℕ → List Terms → Type 0
HasNoSum p d xs degrees lines =
    All (λ e. e ≤ d) degrees → columns d xs ≤ 4096 → row_count d xs degrees ≤ 4096
    → (summands : List Summand) → All (IsMultiple p d xs degrees) summands → SamePolynomial p (sum_of lines summands) (constant 1) → ⊥

-- sums of multiples do not determine each of the first variables, so many, where the matrix is not too large and there are variables to
-- solve for
abbrev pub HasNoSolution : ℕ → ℕ → List ℕ → List ℕ → List Terms → Option ℕ → Type 0
HasNoSolution p d xs degrees lines None = Unit {0}
HasNoSolution p d xs degrees lines (Some count) =
    All (λ e. e ≤ d) degrees → columns d xs ≤ 4096 → row_count d xs degrees ≤ 4096 → All (Determines p d xs degrees lines) (take count xs) → ⊥

-- neither
abbrev pub HasNeither : ℕ → ℕ → List ℕ → List ℕ → List Terms → Option ℕ → Type 0
HasNeither p d xs degrees lines constants = HasNoSum p d xs degrees lines × HasNoSolution p d xs degrees lines constants

-- the same of the lines of a choice's literals
abbrev pub IsExcluded : ℕ → List Node → ℕ → Choice → Type 0
IsExcluded p nodes d x = HasNeither p d x.variables.items x.degrees.items (first_lines nodes p x.literals.items) (constants_at d x)

-- the units of a degree
abbrev pub units_at : ℕ → Choice → ℕ
units_at d x = degree_units d x.variables.items x.degrees.items

-- no generator has a higher degree, and the matrix is not too large, with these units
pub record IsSized (d : ℕ) (x : Choice) (units : ℕ) : Type 0 where
  pub low : All (λ e. e ≤ d) x.degrees.items
  pub few_columns : columns d x.variables.items ≤ 4096
  pub few_rows : row_count d x.variables.items x.degrees.items ≤ 4096
  pub units_are : units ≡ units_at d x
  pub few_units : units ≤ 33554432

-- What is excluded at the next degree is excluded at this one: the matrix of the next one is not too large, or nothing is to be
-- excluded here. The next one has these units.
pub record Defers (d : ℕ) (x : Choice) (units : ℕ) : Type 0 where
  pub units_are : units ≡ units_at (d + 1) x
  pub few_units : units ≤ 33554432
  pub how : IsSized (d + 1) x units ⊎ HasNoSize d x.variables.items x.degrees.items

-- fewer units are left
abbrev pub IsUnpaid : ℕ → Spending → Type 0
IsUnpaid units old = old.budget < total old + units

-- few summands, of few lines, that sum to a constant other than 0
pub record IsSumFor (p : ℕ) (nodes : List Node) (x : Choice) (summands : List Summand) : Type 0 where
  pub few_literals : length x.literals.items ≤ 4096
  pub few_summands : length summands ≤ 4096
  pub constant_sum : IsNonzeroConstant p (first_lines nodes p x.literals.items) summands

-- the constants that are to be solved for, which are the first variables, are determined
pub record AreDetermined (p d : ℕ) (x : Choice) (lines : List Terms) (values : List Determined) : Type 0 where
  pub count : ℕ
  pub constants : constants_at d x ≡ Some count
  pub each : AllZip (IsSolution p d x.variables.items x.degrees.items lines) (take count x.variables.items) values

-- not all of them are, where there are some
abbrev pub IsUndetermined : ℕ → ℕ → List ℕ → List ℕ → List Terms → Option ℕ → Type 0
IsUndetermined p d xs degrees lines None = Unit {0}
IsUndetermined p d xs degrees lines (Some count) = All (Determines p d xs degrees lines) (take count xs) → ⊥

-- what elimination finds of lines
abbrev pub IsLookedFor : ℕ → ℕ → Choice → List Terms → Solution → Type 0
IsLookedFor p d x lines (found.Identity summands) = IsNonzeroConstant p lines summands.items × (length summands.items ≤ 4096)
IsLookedFor p d x lines (found.Values values) = AreDetermined p d x lines values.items
IsLookedFor p d x lines found.Neither =
    HasNoIdentity p d x.variables.items x.degrees.items lines × IsUndetermined p d x.variables.items x.degrees.items lines (constants_at d x)

-- where the constants are determined, fewer units were taken
abbrev pub LeavesOne : ℕ → Spending → Spending → Solution → Type 0
LeavesOne bound old new (found.Identity summands) = Unit {0}
LeavesOne bound old new (found.Values values) = total new < total old + bound
LeavesOne bound old new found.Neither = Unit {0}

-- at most so many units are taken, and one less where the constants are determined
pub record LooksWithin (bound : ℕ) (result : Result Solution Stop) (old new : Spending) : Type 0 where
  pub units : TakesWithin bound stops.Spent result old new
  pub trial : IfOk result (LeavesOne bound old new)

-- The same within the degree, in a matrix that is not too large.
pub record IsSolvedFor (p d : ℕ) (nodes : List Node) (x : Choice) (values : List Determined) : Type 0 where
  pub low : All (λ e. e ≤ d) x.degrees.items
  pub few_columns : columns d x.variables.items ≤ 4096
  pub few_literals : length x.literals.items ≤ 4096
  pub determined : AreDetermined p d x (first_lines nodes p x.literals.items) values

abbrev pub IsAttempt : ℕ → List Node → ℕ → Choice → Spending → Attempt → Type 0
IsAttempt p nodes d x old (Found summands) = IsSumFor p nodes x summands.items
IsAttempt p nodes d x old (Solved values) = IsSolvedFor p d nodes x values.items
IsAttempt p nodes d x old Excluded = IsExcluded p nodes d x
IsAttempt p nodes d x old Unpaid = IsUnpaid (units_at d x) old

-- where the constants are determined, a unit of the degree's is left, and of the budget
abbrev pub LeavesTrial : ℕ → Spending → Spending → Attempt → Type 0
LeavesTrial units old new (Found summands) = Unit {0}
LeavesTrial units old new (Solved values) = (total new < total old + units) × (total new < new.budget)
LeavesTrial units old new Excluded = Unit {0}
LeavesTrial units old new Unpaid = Unit {0}

-- at most so many units are taken
pub record TakesAtMost (bound : ℕ) (old new : Spending) : Type 0 where
  pub takes : Takes old new
  pub within : total new ≤ total old + bound
