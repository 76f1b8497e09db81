-- Where a decision runs out of units, or is left undecided, the check isn't one that they decide.
use Rattle.std.proofs.Common.{◌≡◌, ℕ, ◌+◌, ◌-◌, ◌*◌, ◌^◌, ◌<◌, ◌≤◌, max, List, [], length, All, ap, subst, arith, take_all}
use Rattle.ffc_base.specs.Metering.{Spending, total}
use Rattle.ffc_bounds.specs.Conjunctions.{equations}
use Rattle.ffc_conjunction.specs.declared.conjunction.Conjunction.{Conjunction}
use Rattle.ffc_linear.proofs.UnitLemmas.{IsTakenWithin}
use Rattle.ffc_roots.specs.Separation.{unit_bound}
use Rattle.ffc_rules.specs.Entries.{NodeCheck}
use Rattle.ffc_uni.specs.Univariate.{Coefficients, value_of}
use Rattle.ffc_single.specs.declared.divisor.Divisor.{Divisor}
use Rattle.ffc_single.specs.Bounds.{IsDecidedSingle, greatest_degree}
use Rattle.ffc_single.specs.Decisions.{IsFlatInOne, HasDivisor, HasTooFewFor}
use Rattle.ffc_single.specs.Outcomes.{HasTooFewUnits}
use Rattle.ffc_single.specs.Univariate.{AreFormsOf}
use Rattle.ffc_single.proofs.CommonRootLemmas.{number_of_forms, forms_low, roots_separated, all_zero}
use Rattle.ffc_single.proofs.DividingLemmas.{low_at}
use Rattle.ffc_single.proofs.UnitLemmas.{divisor_within, roots_within}

-- the units of a common divisor of so many equations of this degree
abbrev pub divisor_units : ℕ → ℕ → ℕ
divisor_units m e = m * (e + 1 + (e + 1) * (e + 1))

module _ (c : NodeCheck) (p x : ℕ) (conjunction : Conjunction) (flat : IsFlatInOne c p x conjunction) (equal : List Coefficients) (forms : AreFormsOf p c.nodes x conjunction.equations.items equal) where
  all_units : (units : ℕ) (d : IsDecidedSingle units c) → divisor_units (length equal) (greatest_degree c) + (max 1 (greatest_degree c * d.separation) * unit_bound (greatest_degree c) + greatest_degree c) ≤ units
  all_units units d =
      let e = greatest_degree c in
      let m = length (equations c.nodes c.in_force) in
      let most : divisor_units m e ≤ (m + e) ^ 2 * (2 * e + 2) = divisor_within m e d.some in
      let same : divisor_units (length equal) e ≡ divisor_units m e = ap (λ n. divisor_units n e) (number_of_forms c p x conjunction flat equal forms) in
      let enough = d.enough in
      omega (arith, most, same, enough)

  -- no common divisor is found within the units
  pub divisor_spent : (s : Spending) → s.budget < total s + divisor_units (length equal) (greatest_degree c) → HasTooFewFor c s
  divisor_spent s less units d = let all = all_units units d in omega (arith, less, all)

  -- all equations are 0
  pub nothing_to_decide : All (λ (f : Coefficients). f ≡ []) equal → (units : ℕ) → IsDecidedSingle units c → ⊥
  nothing_to_decide none units d = d.nonzero (all_zero c p x conjunction flat equal forms none d.equation d.asserted)

-- its roots aren't found within them
pub roots_spent : {F : Type 0} (c : NodeCheck) (p x : ℕ) (conjunction : Conjunction) (divisor : Divisor F) (old mid : Spending) (has : HasDivisor c p x conjunction divisor)
    → IsTakenWithin (divisor_units (length has.equal) (greatest_degree c)) old mid → HasTooFewUnits p divisor.value mid → HasTooFewFor c old
roots_spent c p x conjunction divisor old mid has taken few units d =
    let e = greatest_degree c in
    let zeros : (s : ℕ) → value_of p s divisor.value ≡ 0 → All (λ f. value_of p s f ≡ 0) has.equal = λ s zero.
    subst (All (λ f. value_of p s f ≡ 0)) (take_all (length has.equal) has.equal (omega arith)) (has.is.roots s zero) in
    let low = low_at (e + 1) has.equal divisor.start has.is.first (forms_low c p x conjunction has.flat has.equal has.forms) has.is.at in
    let short = has.is.short in
    let degree : length divisor.value - 1 ≤ e = omega arith in
    let less = few d.separation (roots_separated c p x conjunction has.flat has.equal has.forms divisor.value d.separation zeros d.separated) in
    let most = roots_within (length divisor.value - 1) e d.separation degree in
    let all = all_units c p x conjunction has.flat has.equal has.forms units d in
    omega (arith, less, most, all, taken.within, taken.takes.same_budget)

-- fewer units are left than the whole rest
pub none_left : (c : NodeCheck) (s : Spending) → total s ≤ s.budget → HasTooFewFor c s → IsDecidedSingle (s.budget - total s) c → ⊥
none_left c s within few d = let less = few (s.budget - total s) d in omega (arith, less)
