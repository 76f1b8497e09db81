-- Both choices of generators at the degrees in turn.
use Rattle.std.specs.Prelude.{◌≡◌, ℕ, ◌+◌, ◌-◌, ◌≤◌, ◌<◌, ◌⊎◌, true, List, [], length, sum_by, Option, Some, None}
use Rattle.std.specs.List.{range_with_len}
use Rattle.ffc_base.specs.Metering.{Spending, total}
use Rattle.ffc_bounds.specs.Combinations.{AreForcedEqualities, literals_of, node_variables, variables_of, degrees_of}
use Rattle.ffc_bounds.specs.Conjunctions.{has_order}
use Rattle.ffc_clause.specs.Clauses.{Literal}
use Rattle.ffc_combination.specs.Attempts.{Defers, IsExcluded, IsUnpaid, units_at}
use Rattle.ffc_combination.specs.Choices.{IsBounded, IsChoice, IsGreatestDegree}
use Rattle.ffc_combination.specs.declared.choices.Choice.{Choice}
use Rattle.ffc_combination.specs.declared.search.Choices.{Choices}
use Rattle.ffc_combination.specs.declared.search.Outcome.{Outcome}
use Rattle.ffc_combination.specs.declared.search.Outcome.TheVariants.{Decided, Excluded, Unpaid}
use Rattle.ffc_combination.specs.Flat.{constants_of}
use Rattle.ffc_combination.specs.Generators.{AreKnown}
use Rattle.ffc_combination.specs.Values.{IsRightCombined}
use Rattle.ffc_refutation.specs.Combinations.{IsFalseLemma}
use Rattle.ffc_refutation.specs.declared.reason.Reason.{Reason}
use Rattle.ffc_refutation.specs.Forcing.{Forces}
use Rattle.ffc_ring.specs.Polynomial.{Terms}
use Rattle.ffc_rules.specs.Entries.{NodeCheck}
use Rattle.ffc_rules.specs.Laws.{IsValid}
use Rattle.ffc_term.specs.declared.node.Node.{Node}
use Rattle.ffc_trees.specs.FirstLines.{first_lines}
use Rattle.ffc_trials.specs.Stops.{IsWithinLimits}

-- reasons force literals under which those of a lemma are false
pub record IsDenied (c : NodeCheck) (p : ℕ) (reasons : List Reason) (literals : List Literal) : Type 0 where
  pub few : length reasons ≤ 1048577
  pub forced : List Literal
  pub forces : Forces c [] reasons forced
  pub lemma : IsFalseLemma c p forced literals

-- a choice whose literals are false under what reasons force
pub record IsDeniedChoice (c : NodeCheck) (p : ℕ) (reasons : List Reason) (x : Choice) : Type 0 where
  pub choice : IsChoice p c.nodes x
  pub denied : IsDenied c p reasons x.literals.items

-- the same where there is a choice
abbrev pub IsDeniedIfSome : NodeCheck → ℕ → List Reason → Option Choice → Type 0
IsDeniedIfSome c p reasons None = Unit {0}
IsDeniedIfSome c p reasons (Some x) = IsDeniedChoice c p reasons x

-- the generators of the choices, where they are made
abbrev pub AreKnownIfSome : ℕ → List Node → Option Choice → List Terms → Type 0
AreKnownIfSome p nodes None generators = Unit {0}
AreKnownIfSome p nodes (Some x) generators = AreKnown p (first_lines nodes p x.literals.items) generators

-- no sum of multiples up to a degree is 1 for a choice, nor are the constants determined, where there is a choice
abbrev pub IsExcludedIfSome : ℕ → List Node → ℕ → Option Choice → Type 0
IsExcludedIfSome p nodes d None = Unit {0}
IsExcludedIfSome p nodes d (Some x) = IsExcluded p nodes d x

-- the same for either choice
abbrev pub AreExcluded : ℕ → List Node → ℕ → Choices → Type 0
AreExcluded p nodes d x = IsExcluded p nodes d x.equations × IsExcludedIfSome p nodes d x.all

-- the units of a degree for a choice, where there is one
abbrev pub units_if : ℕ → Option Choice → ℕ
units_if d None = 0
units_if d (Some x) = units_at d x

-- the units of a degree for both choices
abbrev pub units_of_both : ℕ → Choices → ℕ
units_of_both d x = units_at d x.equations + units_if d x.all

-- the units of the degrees from 2 on, below one
abbrev pub units_below : ℕ → Choices → ℕ
units_below d x = sum_by (λ k. units_of_both k x) (range_with_len 2 (d - 2))

-- what is found of one choice
abbrev pub IsOutcome : NodeCheck → ℕ → ℕ → Choice → Spending → Outcome → Type 0
IsOutcome c p d x old (Decided combined) = IsRightCombined c combined
IsOutcome c p d x old Excluded = IsExcluded p c.nodes d x
IsOutcome c p d x old Unpaid = IsUnpaid (units_at d x) old

-- what is found of both
abbrev pub IsOutcomeOfBoth : NodeCheck → ℕ → ℕ → Choices → Spending → Outcome → Type 0
IsOutcomeOfBoth c p d x old (Decided combined) = IsRightCombined c combined
IsOutcomeOfBoth c p d x old Excluded = AreExcluded p c.nodes d x
IsOutcomeOfBoth c p d x old Unpaid = IsUnpaid (units_of_both d x) old

-- the greatest degrees of both choices are those that they have
abbrev pub IsBoundedIfSome : Option Choice → Type 0
IsBoundedIfSome None = Unit {0}
IsBoundedIfSome (Some x) = IsBounded x

pub record AreBounded (x : Choices) : Type 0 where
  pub equations : IsBounded x.equations
  pub all : IsBoundedIfSome x.all

-- what is excluded at the next degree is excluded at this one, for both choices; the next one has these units
abbrev pub DefersIfSome : ℕ → Option Choice → Type 0
DefersIfSome d None = Unit {0}
DefersIfSome d (Some x) = (n : ℕ) × Defers d x n

pub record DefersBoth (d : ℕ) (x : Choices) (units : ℕ) : Type 0 where
  pub first : ℕ
  pub equations : Defers d x.equations first
  pub all : DefersIfSome d x.all
  pub units_are : units ≡ units_of_both (d + 1) x

-- a degree may wait for the next one, which can be paid
pub record CanWait (d : ℕ) (x : Choices) (left : ℕ) : Type 0 where
  pub below : d < 1024
  pub units : ℕ
  pub defers : DefersBoth d x units
  pub paid : units ≤ left

-- each degree up to 1024 is excluded for which, with all before it, the units are left
abbrev pub AreAllExcluded : ℕ → List Node → Choices → Spending → Type 0
AreAllExcluded p nodes x old =
    (d : ℕ) → 2 ≤ d → d ≤ 1024 → total old + units_below (d + 1) x ≤ old.budget → AreExcluded p nodes d x

-- the choice of these equalities and disequations
pub record IsChoiceOf (c : NodeCheck) (equal unequal : List ℕ) (x : Choice) : Type 0 where
  pub literals : x.literals.items ≡ literals_of equal unequal
  pub variables : x.variables.items ≡ variables_of c equal unequal
  pub degrees : x.degrees.items ≡ degrees_of c.nodes equal unequal
  pub constants : x.constants ≡ constants_of c

-- the second choice is there where there are disequations
abbrev pub IsSecondOf : NodeCheck → List ℕ → List ℕ → Option Choice → Type 0
IsSecondOf c equal unequal None = unequal ≡ []
IsSecondOf c equal unequal (Some x) = (0 < length unequal) × IsChoiceOf c equal unequal x

-- a check over the field of order p within the limits, with a variable
pub record IsInField (c : NodeCheck) (p : ℕ) : Type 0 where
  pub valid : IsValid c
  pub field : has_order c.nodes c.in_force p ≡ true
  pub limit : IsWithinLimits c
  pub some : 0 < length (node_variables c.nodes c.in_force)

-- the lowest degree at which constants are solved for is the greatest one of these nodes, where there is a choice
abbrev pub IsLowestIfSome : List Node → List ℕ → Option Choice → Type 0
IsLowestIfSome nodes unequal None = Unit {0}
IsLowestIfSome nodes unequal (Some x) = IsGreatestDegree nodes unequal x.lowest

-- the choices of all that is forced
pub record AreChoicesOf (c : NodeCheck) (p : ℕ) (reasons : List Reason) (x : Choices) : Type 0 where
  pub check : IsInField c p
  pub equal : List ℕ
  pub unequal : List ℕ
  pub forced : AreForcedEqualities c equal unequal
  pub first : IsChoiceOf c equal [] x.equations
  pub second : IsSecondOf c equal unequal x.all
  pub first_denied : IsDeniedChoice c p reasons x.equations
  pub second_denied : IsDeniedIfSome c p reasons x.all
  pub first_lowest : IsGreatestDegree c.nodes unequal x.equations.lowest
  pub second_lowest : IsLowestIfSome c.nodes unequal x.all

-- the literals of all that is forced
abbrev pub tested_if : List Literal → Option Choice → List Literal
tested_if literals None = literals
tested_if literals (Some x) = x.literals.items

abbrev pub tested_of : Choices → List Literal
tested_of x = tested_if x.equations.literals.items x.all

-- One choice of what is forced of a check, with the literals of all that is forced.
pub record IsChosen (c : NodeCheck) (p d : ℕ) (reasons : List Reason) (x : Choice) (tested : List Literal) : Type 0 where
  pub check : IsInField c p
  pub least : 2 ≤ d
  pub most : d ≤ 1024
  pub equal : List ℕ
  pub unequal : List ℕ
  pub forced : AreForcedEqualities c equal unequal
  pub other : List ℕ
  pub other_is : (other ≡ []) ⊎ (other ≡ unequal)
  pub choice : IsChoiceOf c equal other x
  pub denied : IsDeniedChoice c p reasons x
  pub tested_are : tested ≡ literals_of equal unequal
  pub tested_denied : IsDenied c p reasons tested
  pub lowest : IsGreatestDegree c.nodes unequal x.lowest
